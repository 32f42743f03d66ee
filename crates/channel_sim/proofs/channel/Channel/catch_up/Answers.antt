use Rattle.std.proofs.Common.{◌≡◌, ◌≤◌, ◌<◌, ◌+◌, ◌^◌, refl, ap, sym, ◌∙◌, subst, arith}
use Rattle.channel_sim.specs.Lag.{StandsAt, StandsNow}
use Rattle.channel_sim.specs.inner.Happenings.{IfAll, settled_by}
use Rattle.channel_sim.proofs.HandLemmas.{caught_all}
use Rattle.channel_sim.proofs.channel.Channel.catch_up.Goals as goal

pub returns-clause-caught : goal.returns-clause-caught
returns-clause-caught g c =
    λ floor w s least.
    let kept = c.args.self.now in
    let mid = c.catch_vehicle_up.new.self in
    let tick : mid.tick ≡ kept.tick = ap (λ x. x.tick) c.catch_vehicle_up.ensures.same in
    let passed : mid.passed ≡ kept.tick = ap (λ x. x.passed) c.catch_vehicle_up.ensures.same in
    let s1 = c.catch_vehicle_up.ensures.caught kept.tick floor (λ d. kept.tick) w s refl in
    let low : floor.waking ≤ kept.tick = (let a : floor.waking ≤ kept.passed = s.from in let b : kept.passed ≤ kept.tick = s.passed in omega arith) in
    let s2 = subst (λ t. StandsAt t floor (λ d. t) mid w) (sym tick) s1 in
    subst (λ t. StandsNow (settled_by c.args.passing floor.settled t) (record mid { calls = c.catch_up.new.calls }) w) tick
    (caught_all floor (settled_by c.args.passing floor.settled mid.tick) mid (record mid { calls = c.catch_up.new.calls }) w s2 refl (passed ∙ sym tick)
    (c.catch_up.ensures.lags floor w.calls s2.calls least))

pub returns-clause-passes : goal.returns-clause-passes
returns-clause-passes g c =
    λ floor w s small late.
    let kept = c.args.self.now in
    let mid = c.catch_vehicle_up.new.self in
    let tick : mid.tick ≡ kept.tick = ap (λ x. x.tick) c.catch_vehicle_up.ensures.same in
    let s1 = c.catch_vehicle_up.ensures.caught kept.tick floor (λ d. kept.tick) w s refl in
    let s2 = subst (λ t. StandsAt t floor (λ d. t) mid w) (sym tick) s1 in
    let later = subst (λ t. IfAll c.args.passing (t < floor.settled + 2 ^ 32)) (sym tick) late in
    omega (arith, c.catch_vehicle_up.ensures.passes kept.tick floor (λ d. kept.tick) w s refl small, c.catch_up.ensures.passes floor w.calls s2.calls (omega arith) later)
