use Rattle.std.proofs.Common.{arith, ◌≡◌, ◌∙◌, sym, subst, ℕ, inl, inr}
use Rattle.std.specs.Prelude.{IfOk}
use Rattle.std.proofs.lemmas.Bool.{cases_lt}
use Rattle.relay_desk.specs.RelayStands.{Gives, desk_of}
use Rattle.relay_desk.specs.Desk.{IsNextTurn, units}
use Rattle.relay_desk.proofs.UnitLemmas.{never, never_moves, next_turn, room_pending, settled_pending, some_gives}
use Rattle.relay_desk.proofs.relay.Relay.elapse.Goals as goal

pub returns-in-None-clause-ok : goal.returns-in-None-clause-ok
returns-in-None-clause-ok c =
    let d = desk_of c.args.self.now in
    let none = settled_pending 0 c.args.self.now.sets.items c.args.self.now.pending c.in-None.ensures in
    (c.new.ensures.items ∙ sym (never c.args.n d none), sym (never_moves c.args.n d none))

pub returns-else-n-from-clause-ok : goal.returns-else-n-from-clause-ok
returns-else-n-from-clause-ok c =
    let self = c.args.self.now in
    let due = c.in-Some.due in
    let h = c.in-Some.ensures in
    let next : IsNextTurn due (desk_of self) =
    next_turn due (desk_of self) h.0 (room_pending due 0 self.sets.items self.pending h.2)
    (some_gives due 0 self.sets.items self.pending (omega arith) h.3) in
    let same : due ≡ c.args.n =
    elim (cases_lt due c.args.n) [
      | inl before ↦ absurd (next.gives (c.requires due before))
      | inr behind ↦ omega arith
    ] in
    let Comes : ℕ → Type 0 = λ n. IfOk c.take_turns.result (λ notes. Gives notes.items c.take_turns.new.self (units n (desk_of self))) in
    subst Comes same c.take_turns.ensures.ok
