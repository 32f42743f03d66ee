use Rattle.std.proofs.Common.{◌≡◌, ◌≤◌, ◌<◌, ◌+◌, ◌++◌, length, map, take, ap, sym, ◌∙◌, subst, arith, append-nil, Some}
use Rattle.std.specs.List.{AllByRecursion}
use Rattle.std.specs.Option.{option_map}
use Rattle.channel_sim.specs.World.{due_frames}
use Rattle.channel_sim.specs.inner.Acts.{due_by}
use Rattle.channel_sim.specs.Handing.{due_of, full}
use Rattle.channel_sim.specs.Tidy.{ticks_of}
use Rattle.channel_sim.proofs.DueLemmas.{none_before, take_ticks, due_more, due_enough, tick_there, behind_later, eq_some, ne_some}
use Rattle.channel_sim.proofs.StepLemmas.{take_all}
use Rattle.channel_sim.proofs.VehicleLemmas.{not_is_true, not_is_false}
use Rattle.channel_sim.proofs.calls.due.add_from.Goals as goal

pub loop-k-init : goal.loop-k-init
loop-k-init c =
    λ delay rise first.
    sym (ap (λ z. map due_of c.args.due.now.items ++ z) (none_before c.args.number delay c.args.tick (take c.args.first c.args.sends.now) (subst (AllByRecursion (λ t. t < c.args.tick)) (sym (take_ticks c.args.first c.args.sends.now)) first.before))
    ∙ append-nil (map due_of c.args.due.now.items))

pub loop-k-preserved : goal.loop-k-preserved
loop-k-preserved c =
    λ delay rise first.
    let sends = c.args.sends.now in
    let k = c.loop-k.k in
    let at = sym c.tick.ensures ∙ eq_some c.tick.result c.args.tick (not_is_false _ (sym c.if-ne.ensures)) in
    c.in_ok-add_frame.ensures
    ∙ ap (λ z. z ++ due_by c.args.number (option_map (λ f. full f.now) c.frame.result)) (c.loop-k.invariant delay rise first)
    ∙ ap (λ f. (map due_of c.args.due.now.items ++ due_frames c.args.number delay (c.args.tick + delay) (take k sends)) ++ due_by c.args.number f) c.frame.ensures
    ∙ due_more c.args.number delay c.args.tick k sends (map due_of c.args.due.now.items) at

pub returns-then-ne : goal.returns-then-ne
returns-then-ne c =
    λ delay rise first.
    let sends = c.args.sends.now in
    let k = c.loop-k.k in
    let inside : k < length sends = omega (arith, c.loop-k-test.true, c.len-k-end.ensures) in
    let there = tick_there k sends inside in
    let least : c.args.tick ≤ there.0 = behind_later c.args.tick c.args.first k there.0 (ticks_of sends) first.behind c.loop-k.auto.k there.1 in
    let apart = ne_some c.tick.result c.args.tick (not_is_true _ (sym c.if-ne.ensures)) in
    let other : there.0 ≡ c.args.tick → ⊥ = λ same. apart (c.tick.ensures ∙ there.1 ∙ ap Some same) in
    let over : c.args.tick < there.0 = omega (arith, other) in
    c.loop-k.invariant delay rise first ∙ ap (λ z. map due_of c.args.due.now.items ++ z) (due_enough c.args.number delay c.args.tick k there.0 sends rise there.1 over)

pub returns : goal.returns
returns c =
    λ delay rise first.
    let sends = c.args.sends.now in
    let past : length sends ≤ c.loop-k.k = omega (arith, c.loop-k-test.false, c.len-k-end.ensures) in
    c.loop-k.invariant delay rise first ∙ ap (λ xs. map due_of c.args.due.now.items ++ due_frames c.args.number delay (c.args.tick + delay) xs) (take_all c.loop-k.k sends past)
