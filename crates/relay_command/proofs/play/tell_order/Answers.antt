use Rattle.relay_command.proofs.TellOrders.{order_missing, order_ok}
use Rattle.relay_command.proofs.play.tell_order.Goals as goal

pub returns-in-Ok-clause-tells : goal.returns-in-Ok-clause-tells
returns-in-Ok-clause-tells g c = λ seen passes stands.
    order_ok seen c.args.stage.now c.set_out.new.self c.args.desk.now c.order_desk.new.desk
    (g.O.Sink.held c.args.output.now) (g.O.Sink.held c.order_desk.new.output) c.args.order.now passes stands
    (c.in-Ok.ensures seen.said seen.events stands.stage_stands) c.order_desk.result
    (c.order_desk.ensures.ok, c.order_desk.ensures.err, c.order_desk.ensures.sim)

pub returns-in-Err-clause-tells : goal.returns-in-Err-clause-tells
returns-in-Err-clause-tells g c = λ seen passes stands.
    order_missing seen c.args.stage.now c.set_out.new.self c.args.desk.now c.args.desk.now
    (g.O.Sink.held c.args.output.now) (g.O.Sink.held c.args.output.now) c.args.order.now passes stands
    c.in-Err.reason (c.in-Err.ensures seen.said seen.events stands.stage_stands)
