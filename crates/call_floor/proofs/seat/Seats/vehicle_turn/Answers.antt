use Rattle.std.proofs.Common.{◌≡◌, ◌<◌, ◌⊎◌, false, length, refl, sym, ◌∙◌, subst, arith}
use Rattle.std.proofs.lemmas.Result.{err_from_is_err_and}
use Rattle.channel_sim.specs.Lag.{level, StandsAt}
use Rattle.channel_sim.specs.World.{vehicle_passes}
use Rattle.call_floor.specs.Floor.{FloorStep, own}
use Rattle.call_floor.specs.Tagged.{FloorGrew}
use Rattle.call_floor.specs.inner.FloorAt.{Amid, FloorIs}
use Rattle.call_floor.proofs.ActingTurn.{ActsHere, acts_here, not_acting, passed_over, silent, acted, acted_told, acted_passes}
use Rattle.call_floor.proofs.StillLemmas.{vehicle_passes_still}
use Rattle.call_floor.proofs.TurnWorlds.{any}
use Rattle.call_floor.proofs.seat.Seats.vehicle_turn.Goals as goal

-- it sleeps, or there is none
pub returns-then-not-is_awake-clause-step : goal.returns-then-not-is_awake-clause-step
returns-then-not-is_awake-clause-step g c =
    λ acts floor before v ahead after clock w h is_v now_is ahead_is next after_is aheads clock_is.
    let xs = c.args.self.now.list.items in
    let tick = c.args.tick in
    let off : (acts v ≡ false) ⊎ (v ≡ 0) = not_acting acts tick floor ahead clock w xs c.args.place v h is_v (c.is_awake.ensures.later c.if-not-is_awake.true) in
    subst (λ (s : FloorStep). FloorGrew g.H.FloorListener.grew c.args.to.now c.args.to.now s.entries × FloorIs (Amid acts tick floor after clock) xs s.floor) (sym (silent acts v vehicle_passes w h.order off))
    ((refl, g.met.H.FloorListener.unchanged _), passed_over v acts off tick floor ahead after clock clock aheads (λ a other. refl) w xs h)

pub returns-clause-step : goal.returns-clause-step
returns-clause-step g c =
    λ acts floor before v ahead after clock w h is_v now_is ahead_is next after_is aheads clock_is.
    let xs = c.args.self.now.list.items in
    let tick = c.args.tick in
    let i = c.args.place in
    let x = c.index_mut-seat.result.now in
    let at = c.index_mut-seat.ensures.value in
    let low : i < length xs = c.is_awake.ensures.within c.if-not-is_awake.false in
    let it : ActsHere acts tick floor ahead clock w v x = acts_here acts tick floor ahead clock xs w v i x h is_v low at (c.is_awake.ensures.due c.if-not-is_awake.false) in
    let s = it.here.stand in
    let awake : StandsAt (ahead v) (level floor floor) (clock v) x.world.channel (own w s) = it.here.stands.awake it.on in
    let now : tick ≡ x.world.channel.tick = sym now_is ∙ awake.tick in
    let stands : StandsAt before (level floor floor) (λ d. before) x.world.channel (own w s) =
    subst (λ a. StandsAt a (level floor floor) (λ d. before) x.world.channel (own w s)) ahead_is
    (subst (λ k. StandsAt (ahead v) (level floor floor) k x.world.channel (own w s)) clock_is awake) in
    let did = c.in_ok-vehicle_turn.ensures.step (level floor floor) before (own w s) stands (next ∙ now) in
    let new = c.vehicle_turn.new.self in
    let later : StandsAt (after v) (level floor floor) (clock v) new.channel (vehicle_passes (own w s)).world =
    subst (λ a. StandsAt a (level floor floor) (clock v) new.channel (vehicle_passes (own w s)).world) (sym now ∙ sym after_is)
    (subst (λ k. StandsAt x.world.channel.tick (level floor floor) k new.channel (vehicle_passes (own w s)).world) (sym clock_is) did.1) in (
      acted_told acts tick floor ahead clock w v x it.here it.on vehicle_passes g.H.FloorListener.grew c.args.to.now c.speak_for.new.self c.vehicle_turn.new.to c.speak_for.ensures did.0,
      acted acts tick floor ahead after clock clock xs w v i x h low at it.here it.on vehicle_passes (vehicle_passes_still any) aheads (λ a other. refl) new later,
    )

pub returns-in_err-vehicle_turn-clause-step : goal.returns-in_err-vehicle_turn-clause-step
returns-in_err-vehicle_turn-clause-step g c =
    λ acts floor before v ahead after clock w h is_v now_is ahead_is next after_is aheads clock_is.
    let failed = err_from_is_err_and c.from_residual.result c.from_residual.ensures.1 in
    let xs = c.args.self.now.list.items in
    let tick = c.args.tick in
    let i = c.args.place in
    let x = c.index_mut-seat.result.now in
    let at = c.index_mut-seat.ensures.value in
    let low : i < length xs = c.is_awake.ensures.within c.if-not-is_awake.false in
    let it : ActsHere acts tick floor ahead clock w v x = acts_here acts tick floor ahead clock xs w v i x h is_v low at (c.is_awake.ensures.due c.if-not-is_awake.false) in
    let s = it.here.stand in
    let awake : StandsAt (ahead v) (level floor floor) (clock v) x.world.channel (own w s) = it.here.stands.awake it.on in
    let now : tick ≡ x.world.channel.tick = sym now_is ∙ awake.tick in
    let stands : StandsAt before (level floor floor) (λ d. before) x.world.channel (own w s) =
    subst (λ a. StandsAt a (level floor floor) (λ d. before) x.world.channel (own w s)) ahead_is
    (subst (λ k. StandsAt (ahead v) (level floor floor) k x.world.channel (own w s)) clock_is awake) in
    let part = c.in_err-vehicle_turn.ensures.step (level floor floor) before (own w s) stands (next ∙ now) in
    rw failed.1 (acted_told acts tick floor ahead clock w v x it.here it.on vehicle_passes g.H.FloorListener.partly c.args.to.now c.speak_for.new.self c.vehicle_turn.new.to c.speak_for.ensures part)

pub returns-then-not-is_awake-clause-passes : goal.returns-then-not-is_awake-clause-passes
returns-then-not-is_awake-clause-passes g c = λ acts floor before v ahead clock w h is_v now_is ahead_is next clock_is small. omega arith

pub returns-clause-passes : goal.returns-clause-passes
returns-clause-passes g c =
    λ acts floor before v ahead clock w h is_v now_is ahead_is next clock_is small.
    let xs = c.args.self.now.list.items in
    let tick = c.args.tick in
    let i = c.args.place in
    let x = c.index_mut-seat.result.now in
    let at = c.index_mut-seat.ensures.value in
    let low : i < length xs = c.is_awake.ensures.within c.if-not-is_awake.false in
    let it : ActsHere acts tick floor ahead clock w v x = acts_here acts tick floor ahead clock xs w v i x h is_v low at (c.is_awake.ensures.due c.if-not-is_awake.false) in
    let s = it.here.stand in
    let awake : StandsAt (ahead v) (level floor floor) (clock v) x.world.channel (own w s) = it.here.stands.awake it.on in
    let now : tick ≡ x.world.channel.tick = sym now_is ∙ awake.tick in
    let stands : StandsAt before (level floor floor) (λ d. before) x.world.channel (own w s) =
    subst (λ a. StandsAt a (level floor floor) (λ d. before) x.world.channel (own w s)) ahead_is
    (subst (λ k. StandsAt (ahead v) (level floor floor) k x.world.channel (own w s)) clock_is awake) in
    acted_passes acts tick floor ahead clock w v x it.here it.on vehicle_passes _ _ (c.vehicle_turn.ensures.passes (level floor floor) before (own w s) stands (next ∙ now) (omega (arith, small, now)))

pub returns-in_err-vehicle_turn-clause-passes : goal.returns-in_err-vehicle_turn-clause-passes
returns-in_err-vehicle_turn-clause-passes g c =
    λ acts floor before v ahead clock w h is_v now_is ahead_is next clock_is small.
    let xs = c.args.self.now.list.items in
    let tick = c.args.tick in
    let i = c.args.place in
    let x = c.index_mut-seat.result.now in
    let at = c.index_mut-seat.ensures.value in
    let low : i < length xs = c.is_awake.ensures.within c.if-not-is_awake.false in
    let it : ActsHere acts tick floor ahead clock w v x = acts_here acts tick floor ahead clock xs w v i x h is_v low at (c.is_awake.ensures.due c.if-not-is_awake.false) in
    let s = it.here.stand in
    let awake : StandsAt (ahead v) (level floor floor) (clock v) x.world.channel (own w s) = it.here.stands.awake it.on in
    let now : tick ≡ x.world.channel.tick = sym now_is ∙ awake.tick in
    let stands : StandsAt before (level floor floor) (λ d. before) x.world.channel (own w s) =
    subst (λ a. StandsAt a (level floor floor) (λ d. before) x.world.channel (own w s)) ahead_is
    (subst (λ k. StandsAt (ahead v) (level floor floor) k x.world.channel (own w s)) clock_is awake) in
    acted_passes acts tick floor ahead clock w v x it.here it.on vehicle_passes _ _ (c.vehicle_turn.ensures.passes (level floor floor) before (own w s) stands (next ∙ now) (omega (arith, small, now)))
