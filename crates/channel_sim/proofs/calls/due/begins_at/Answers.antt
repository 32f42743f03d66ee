use Rattle.std.proofs.Common.{◌≡◌, ◌-◌, suc, Some, sym, ◌∙◌, subst, arith}
use Rattle.std.specs.List.{slice_get}
use Rattle.channel_sim.specs.inner.Sends.{IsFirstFrom}
use Rattle.channel_sim.specs.Tidy.{ticks_of}
use Rattle.channel_sim.proofs.DueLemmas.{Begins, eq_some, first_at, ne_some}
use Rattle.channel_sim.proofs.VehicleLemmas.{not_is_true}
use Rattle.channel_sim.proofs.calls.due.begins_at.Goals as goal

pub returns-then-place-eq0 : goal.returns-then-place-eq0
returns-then-place-eq0 c =
    λ first rise.
    let ticks = ticks_of c.args.sends.now in
    let there = sym c.tick.ensures ∙ eq_some c.tick.result c.args.tick (sym c.eq.ensures ∙ c.if-eq.true) in
    subst (λ p. IsFirstFrom c.args.tick p ticks) (sym c.if-place-eq0.true)
    (first_at 0 c.args.tick 0 ticks rise (subst (λ p. slice_get ticks p ≡ Some c.args.tick) c.if-place-eq0.true there) tt)

pub returns-else-place-eq0 : goal.returns-else-place-eq0
returns-else-place-eq0 c =
    λ other rise.
    let ticks = ticks_of c.args.sends.now in
    let place = c.args.place in
    let there = sym c.tick.ensures ∙ eq_some c.tick.result c.args.tick (sym c.eq.ensures ∙ c.if-eq.true) in
    let next : suc (place - 1) ≡ place = omega (arith, c.if-place-eq0.false) in
    let apart = ne_some c.tick-else-place-eq0.result c.args.tick (not_is_true _ (sym c.ne.ensures ∙ other)) in
    let begins : Begins c.args.tick (suc (place - 1)) ticks = λ same. apart (c.tick-else-place-eq0.ensures ∙ same) in
    subst (λ p. IsFirstFrom c.args.tick p ticks) next
    (first_at 0 c.args.tick (suc (place - 1)) ticks rise (subst (λ p. slice_get ticks p ≡ Some c.args.tick) (sym next) there) begins)
