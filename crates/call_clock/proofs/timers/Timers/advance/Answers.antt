use Rattle.std.proofs.Common.{arith}
use Rattle.call_clock.proofs.Clock.{all_seen_later, are_ahead_later}
use Rattle.call_clock.proofs.Due.{due_leaves}
use Rattle.call_clock.proofs.timers.Timers.advance.Goals as goal

-- No deadline is passed, so each stays as far ahead as its timer has ticks left.
pub invariant_of-self : goal.invariant_of-self
invariant_of-self c =
    are_ahead_later c.self.inside.time c.args.n c.self.inside.places (omega arith) (omega arith) c.self.invariant
    (due_leaves c.args.n _ (rw c.self.view_is c.requires))

pub returns : goal.returns
returns c =
    rw (← c.self.view_is)
    (all_seen_later c.self.inside.time c.args.n c.self.inside.places (omega arith) (omega arith) c.self.invariant
    (due_leaves c.args.n _ (rw c.self.view_is c.requires)))
