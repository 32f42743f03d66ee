use Rattle.std.proofs.Common.{arith, ◌+◌, ◌%◌, sym, ◌∙◌}
use Rattle.relay_desk.proofs.QueueLemmas.{all_settled, room_all, some_due}
use Rattle.relay_desk.proofs.pending.Pending.due.Goals as goal

pub returns-then-self-n-gt0 : goal.returns-then-self-n-gt0
returns-then-self-n-gt0 c =
    let p = c.self.inside.phase in
    let ws = c.self.inside.waits.items in
    let small = c.self.invariant.in_ten in
    rw (← c.self.view_is) (
      omega arith,
      omega arith,
      room_all p c.loop-n.n ws small (omega arith) c.self.invariant.each
          (λ m a b. sym (c.self.invariant.counted _ (omega arith)) ∙ c.loop-n.invariant m a b),
      some_due p c.loop-n.n ws small (omega arith) (omega arith)
          (omega (arith, c.self.invariant.counted ((p + c.loop-n.n) % 10) (omega arith))),
    )

pub returns : goal.returns
returns c =
    rw (← c.self.view_is) (all_settled c.self.inside.phase c.self.inside.waits.items c.self.invariant.in_ten
    c.self.invariant.each
    (λ m a b. sym (c.self.invariant.counted _ (omega arith)) ∙ c.loop-n.invariant m a (omega arith)))
