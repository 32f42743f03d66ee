use Rattle.std.proofs.Common.{arith, refl}
use Rattle.relay_desk.specs.RelayStands.{desk_of}
use Rattle.relay_desk.proofs.UnitLemmas.{never, next_turn, room_pending, settled_pending, some_gives, some_pending}
use Rattle.relay_desk.proofs.relay.Relay.due.Goals as goal

pub returns-in_err-n-clause-none : goal.returns-in_err-n-clause-none
returns-in_err-n-clause-none c =
    rw c.from_residual.ensures
    ((λ _. settled_pending 0 c.args.self.now.sets.items c.args.self.now.pending c.in_err-n.ensures), (λ _. refl))

pub returns-in_err-n-clause-next : goal.returns-in_err-n-clause-next
returns-in_err-n-clause-next c =
    rw c.from_residual.ensures
    (λ n. never n (desk_of c.args.self.now)
    (settled_pending 0 c.args.self.now.sets.items c.args.self.now.pending c.in_err-n.ensures))

pub returns-clause-none : goal.returns-clause-none
returns-clause-none c = (
  (λ e. cc),
  (λ none. absurd (some_pending c.in_ok-n.n 0 c.args.self.now.sets.items c.args.self.now.pending (omega arith)
      c.in_ok-n.ensures.3 none)),
)

pub returns-clause-next : goal.returns-clause-next
returns-clause-next c =
    let h = c.in_ok-n.ensures in
    rw c.from.ensures
    (next_turn c.in_ok-n.n (desk_of c.args.self.now) h.0
    (room_pending c.in_ok-n.n 0 c.args.self.now.sets.items c.args.self.now.pending h.2)
    (some_gives c.in_ok-n.n 0 c.args.self.now.sets.items c.args.self.now.pending (omega arith) h.3))
