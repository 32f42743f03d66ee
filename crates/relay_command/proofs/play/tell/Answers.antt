use Rattle.relay_command.proofs.play.tell.Goals as goal

pub returns-in-Order-clause-tells : goal.returns-in-Order-clause-tells
returns-in-Order-clause-tells g c = λ seen stands.
    rw c.in-Order.is (c.tell_order.ensures.tells seen c.args.moments.now stands)
