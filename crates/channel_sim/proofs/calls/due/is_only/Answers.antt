use Rattle.std.proofs.Common.{◌≡◌, suc, slice_get, ap, sym, ◌∙◌, arith}
use Rattle.channel_sim.specs.Tidy.{ticks_of}
use Rattle.channel_sim.proofs.DueLemmas.{eq_some, ne_some, only_one}
use Rattle.channel_sim.proofs.VehicleLemmas.{not_is_true}
use Rattle.channel_sim.proofs.calls.due.is_only.Goals as goal

pub returns-then-eq : goal.returns-then-eq
returns-then-eq c =
    λ yes number delay rise first.
    let ticks = ticks_of c.args.sends.now in
    let here = sym c.tick.ensures ∙ eq_some c.tick.result c.args.tick (sym c.if-eq.ensures) in
    let next : c.in-Some.next ≡ suc c.args.place = omega (arith, c.in-Some.ensures) in
    let apart = ne_some c.tick-then-eq.result c.args.tick (not_is_true _ (sym c.ne.ensures ∙ yes)) in
    only_one number delay 0 c.args.tick c.args.place c.args.sends.now rise first.before here
    (λ same. apart (c.tick-then-eq.ensures ∙ ap (slice_get ticks) next ∙ same))
