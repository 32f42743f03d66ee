use Rattle.std.proofs.Common.{◌≡◌, ◌≤◌, Some, length, slice_get, inr, sym, subst}
use Rattle.channel_sim.specs.declared.calls.turns.Turn.{Turn}
use Rattle.channel_sim.specs.inner.Turns.{HasTurn, IsGap, Rise, calls_of}
use Rattle.channel_sim.proofs.TurnLemmas.{woken_rise, woken_at, has_woken}
use Rattle.channel_sim.proofs.calls.turns.Turns.wake.Goals as goal

pub invariant_of-self-in-Err : goal.invariant_of-self-in-Err
invariant_of-self-in-Err c =
    let ts = c.self.inside.list.items in
    let t : Turn = record { call = c.args.call; tick = 0 } in
    let gap : Rise (calls_of ts) → IsGap c.args.call c.in-Err.place (calls_of ts) =
    subst (λ z. Rise (calls_of z) → IsGap c.args.call c.in-Err.place (calls_of z)) c.deref.ensures.value c.in-Err.ensures.absent in
    subst (λ z. Rise (calls_of z)) (sym c.in_ok-insert-in-Err.ensures.items) (woken_rise ts c.in-Err.place t c.self.invariant (gap c.self.invariant))

pub returns-in_ok-insert-in-Err-clause-place : goal.returns-in_ok-insert-in-Err-clause-place
returns-in_ok-insert-in-Err-clause-place c =
    let ts = c.self.inside.list.items in
    let t : Turn = record { call = c.args.call; tick = 0 } in
    let inside : c.in-Err.place ≤ length ts = subst (λ z. c.in-Err.place ≤ length z) c.deref.ensures.value c.in-Err.ensures.within in
    subst (λ z. slice_get (calls_of z) c.in-Err.place ≡ Some c.args.call) (sym c.in_ok-insert-in-Err.ensures.items) (woken_at ts c.in-Err.place t inside)

pub returns-in_ok-insert-in-Err-clause-others : goal.returns-in_ok-insert-in-Err-clause-others
returns-in_ok-insert-in-Err-clause-others c =
    λ other n has.
    let ts = c.self.inside.list.items in
    let same : ts ≡ c.args.self.now = c.self.view_is in
    let t : Turn = record { call = c.args.call; tick = 0 } in
    inr (subst (HasTurn other n) (sym c.in_ok-insert-in-Err.ensures.items) (has_woken ts c.in-Err.place t other n (subst (HasTurn other n) (sym same) has)))
