use Rattle.std.proofs.Common.{◌∷◌, ◌++◌, [], get_or, ap, sym, ◌∙◌, subst}
use Rattle.channel_sim.specs.inner.Turns.{IsAmong}
use Rattle.channel_sim.proofs.SendingLemmas.{all_listed, among_calls, calls, calls_more}
use Rattle.channel_sim.proofs.StepLemmas.{take_all}
use Rattle.channel_sim.proofs.calls.sendings.list_at.Goals as goal

pub loop-place-preserved : goal.loop-place-preserved
loop-place-preserved c =
    let one = get_or c.args.sendings.now c.loop-place.place (record { tick = 0; call = 0 }) in
    c.in_ok-push.ensures.items ∙ ap (λ ns. ns ++ one.call ∷ []) c.loop-place.invariant ∙ calls_more c.loop-place.place c.args.sendings.now (record { tick = 0; call = 0 }) c.loop-place-test.true

pub returns-then-one-tick-clause-all : goal.returns-then-one-tick-clause-all
returns-then-one-tick-clause-all c =
    λ rise d has. subst (IsAmong d) (sym c.loop-place.invariant) (all_listed c.args.tick d c.loop-place.place c.args.sendings.now (record { tick = 0; call = 0 }) rise c.if-one-tick.true c.loop-place-test.true has)

pub returns-clause-all : goal.returns-clause-all
returns-clause-all c =
    λ rise d has.
    let sendings = c.args.sendings.now in
    subst (IsAmong d) (sym (c.loop-place.invariant ∙ ap calls (take_all c.loop-place.place sendings c.loop-place-test.false))) (among_calls d c.args.tick sendings has)
