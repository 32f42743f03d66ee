use Rattle.std.proofs.Common.{◌≡◌, ◌<◌, ◌⊎◌, false, length, refl, sym, ◌∙◌, subst, arith}
use Rattle.std.proofs.lemmas.Result.{err_from_is_err_and}
use Rattle.channel_sim.specs.Lag.{level, StandsAt}
use Rattle.channel_sim.specs.World.{session_passes}
use Rattle.call_floor.specs.Floor.{FloorStep, own}
use Rattle.call_floor.specs.Tagged.{FloorGrew}
use Rattle.call_floor.specs.inner.FloorAt.{Amid, FloorIs}
use Rattle.call_floor.proofs.ActingTurn.{ActsHere, acts_here, not_acting, passed_over, silent, acted, acted_told, acted_passes}
use Rattle.call_floor.proofs.StillLemmas.{session_passes_still}
use Rattle.call_floor.proofs.TurnWorlds.{any}
use Rattle.call_floor.proofs.seat.Seats.session_turn.Goals as goal

-- it sleeps, or there is none
pub returns-then-not-is_awake-clause-step : goal.returns-then-not-is_awake-clause-step
returns-then-not-is_awake-clause-step g c =
    λ acts floor v ahead before after w h is_v now_is ahead_is next after_is clocks below.
    let xs = c.args.self.now.list.items in
    let tick = c.args.tick in
    let off : (acts v ≡ false) ⊎ (v ≡ 0) = not_acting acts tick floor ahead before w xs c.args.place v h is_v (c.is_awake.ensures.later c.if-not-is_awake.true) in
    subst (λ (s : FloorStep). FloorGrew g.H.FloorListener.grew c.args.to.now c.args.to.now s.entries × FloorIs (Amid acts tick floor ahead after) xs s.floor) (sym (silent acts v (session_passes c.args.call) w h.order off))
    ((refl, g.met.H.FloorListener.unchanged _), passed_over v acts off tick floor ahead ahead before after (λ a other. refl) below w xs h)

pub returns-clause-step : goal.returns-clause-step
returns-clause-step g c =
    λ acts floor v ahead before after w h is_v now_is ahead_is next after_is clocks below.
    let xs = c.args.self.now.list.items in
    let tick = c.args.tick in
    let i = c.args.place in
    let n = c.args.call in
    let x = c.index_mut-seat.result.now in
    let at = c.index_mut-seat.ensures.value in
    let low : i < length xs = c.is_awake.ensures.within c.if-not-is_awake.false in
    let it : ActsHere acts tick floor ahead before w v x = acts_here acts tick floor ahead before xs w v i x h is_v low at (c.is_awake.ensures.due c.if-not-is_awake.false) in
    let s = it.here.stand in
    let awake : StandsAt (ahead v) (level floor floor) (before v) x.world.channel (own w s) = it.here.stands.awake it.on in
    let now : tick ≡ x.world.channel.tick = sym now_is ∙ awake.tick in
    let did = c.in_ok-session_turn.ensures.step (ahead v) (level floor floor) (before v) (after v) (own w s) awake (ahead_is ∙ now) (next ∙ sym ahead_is) (after_is ∙ sym ahead_is) clocks in (
      acted_told acts tick floor ahead before w v x it.here it.on (session_passes n) g.H.FloorListener.grew c.args.to.now c.speak_for.new.self c.session_turn.new.to c.speak_for.ensures did.0,
      acted acts tick floor ahead ahead before after xs w v i x h low at it.here it.on (session_passes n) (session_passes_still any n) (λ a other. refl) below c.session_turn.new.self did.1,
    )

pub returns-in_err-session_turn-clause-step : goal.returns-in_err-session_turn-clause-step
returns-in_err-session_turn-clause-step g c =
    λ acts floor v ahead before after w h is_v now_is ahead_is next after_is clocks below.
    let failed = err_from_is_err_and c.from_residual.result c.from_residual.ensures.1 in
    let xs = c.args.self.now.list.items in
    let tick = c.args.tick in
    let i = c.args.place in
    let n = c.args.call in
    let x = c.index_mut-seat.result.now in
    let at = c.index_mut-seat.ensures.value in
    let low : i < length xs = c.is_awake.ensures.within c.if-not-is_awake.false in
    let it : ActsHere acts tick floor ahead before w v x = acts_here acts tick floor ahead before xs w v i x h is_v low at (c.is_awake.ensures.due c.if-not-is_awake.false) in
    let s = it.here.stand in
    let awake : StandsAt (ahead v) (level floor floor) (before v) x.world.channel (own w s) = it.here.stands.awake it.on in
    let now : tick ≡ x.world.channel.tick = sym now_is ∙ awake.tick in
    let part = c.in_err-session_turn.ensures.step (ahead v) (level floor floor) (before v) (after v) (own w s) awake (ahead_is ∙ now) (next ∙ sym ahead_is) (after_is ∙ sym ahead_is) clocks in
    rw failed.1 (acted_told acts tick floor ahead before w v x it.here it.on (session_passes n) g.H.FloorListener.partly c.args.to.now c.speak_for.new.self c.session_turn.new.to c.speak_for.ensures part)

pub returns-then-not-is_awake-clause-passes : goal.returns-then-not-is_awake-clause-passes
returns-then-not-is_awake-clause-passes g c = λ acts floor v ahead before after w h is_v now_is ahead_is next after_is clocks small. omega arith

pub returns-clause-passes : goal.returns-clause-passes
returns-clause-passes g c =
    λ acts floor v ahead before after w h is_v now_is ahead_is next after_is clocks small.
    let xs = c.args.self.now.list.items in
    let tick = c.args.tick in
    let i = c.args.place in
    let x = c.index_mut-seat.result.now in
    let at = c.index_mut-seat.ensures.value in
    let low : i < length xs = c.is_awake.ensures.within c.if-not-is_awake.false in
    let it : ActsHere acts tick floor ahead before w v x = acts_here acts tick floor ahead before xs w v i x h is_v low at (c.is_awake.ensures.due c.if-not-is_awake.false) in
    let s = it.here.stand in
    let awake : StandsAt (ahead v) (level floor floor) (before v) x.world.channel (own w s) = it.here.stands.awake it.on in
    let now : tick ≡ x.world.channel.tick = sym now_is ∙ awake.tick in
    acted_passes acts tick floor ahead before w v x it.here it.on (session_passes c.args.call) _ _
    (c.session_turn.ensures.passes (ahead v) (level floor floor) (before v) (after v) (own w s) awake (ahead_is ∙ now) (next ∙ sym ahead_is) (after_is ∙ sym ahead_is) clocks (omega (arith, small, now)))

pub returns-in_err-session_turn-clause-passes : goal.returns-in_err-session_turn-clause-passes
returns-in_err-session_turn-clause-passes g c =
    λ acts floor v ahead before after w h is_v now_is ahead_is next after_is clocks small.
    let xs = c.args.self.now.list.items in
    let tick = c.args.tick in
    let i = c.args.place in
    let x = c.index_mut-seat.result.now in
    let at = c.index_mut-seat.ensures.value in
    let low : i < length xs = c.is_awake.ensures.within c.if-not-is_awake.false in
    let it : ActsHere acts tick floor ahead before w v x = acts_here acts tick floor ahead before xs w v i x h is_v low at (c.is_awake.ensures.due c.if-not-is_awake.false) in
    let s = it.here.stand in
    let awake : StandsAt (ahead v) (level floor floor) (before v) x.world.channel (own w s) = it.here.stands.awake it.on in
    let now : tick ≡ x.world.channel.tick = sym now_is ∙ awake.tick in
    acted_passes acts tick floor ahead before w v x it.here it.on (session_passes c.args.call) _ _
    (c.session_turn.ensures.passes (ahead v) (level floor floor) (before v) (after v) (own w s) awake (ahead_is ∙ now) (next ∙ sym ahead_is) (after_is ∙ sym ahead_is) clocks (omega (arith, small, now)))
