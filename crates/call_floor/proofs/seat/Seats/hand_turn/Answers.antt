use Rattle.std.proofs.Common.{◌≡◌, ◌<◌, ◌⊎◌, false, length, refl, sym, ◌∙◌, subst, arith}
use Rattle.std.proofs.lemmas.Result.{err_from_is_err_and}
use Rattle.channel_sim.specs.Lag.{level, StandsAt}
use Rattle.channel_sim.specs.Handing.{due_of, hands_way}
use Rattle.call_floor.specs.Floor.{FloorStep, own}
use Rattle.call_floor.specs.Tagged.{FloorGrew}
use Rattle.call_floor.specs.inner.FloorAt.{Amid, FloorIs}
use Rattle.call_floor.proofs.ActingTurn.{ActsHere, acts_here, not_acting, silent, acted, acted_told, acted_passes}
use Rattle.call_floor.proofs.Sleeping.{way_still}
use Rattle.call_floor.proofs.TurnWorlds.{any}
use Rattle.call_floor.proofs.seat.Seats.hand_turn.Goals as goal

-- it sleeps, or there is none
pub returns-then-not-is_awake-clause-step : goal.returns-then-not-is_awake-clause-step
returns-then-not-is_awake-clause-step g c =
    λ acts floor v w h is_v now_is.
    let xs = c.args.self.now.list.items in
    let tick = c.args.tick in
    let off : (acts v ≡ false) ⊎ (v ≡ 0) = not_acting acts tick floor (λ a. tick) (λ a d. tick) w xs c.args.place v h is_v (c.is_awake.ensures.later c.if-not-is_awake.true) in
    subst (λ (s : FloorStep). FloorGrew g.H.FloorListener.grew c.args.to.now c.args.to.now s.entries × FloorIs (Amid acts tick floor (λ a. tick) (λ a d. tick)) xs s.floor) (sym (silent acts v (hands_way c.args.up (due_of c.args.due.now)) w h.order off))
    ((refl, g.met.H.FloorListener.unchanged _), h)

pub returns-clause-step : goal.returns-clause-step
returns-clause-step g c =
    λ acts floor v w h is_v now_is.
    let xs = c.args.self.now.list.items in
    let tick = c.args.tick in
    let i = c.args.place in
    let up = c.args.up in
    let d = due_of c.args.due.now in
    let x = c.index_mut-seat.result.now in
    let at = c.index_mut-seat.ensures.value in
    let low : i < length xs = c.is_awake.ensures.within c.if-not-is_awake.false in
    let it : ActsHere acts tick floor (λ a. tick) (λ a k. tick) w v x = acts_here acts tick floor (λ a. tick) (λ a k. tick) xs w v i x h is_v low at (c.is_awake.ensures.due c.if-not-is_awake.false) in
    let s = it.here.stand in
    let awake : StandsAt tick (level floor floor) (λ k. tick) x.world.channel (own w s) = it.here.stands.awake it.on in
    let now : tick ≡ x.world.channel.tick = sym now_is ∙ awake.tick in
    let did = c.in_ok-hand.ensures.step tick (level floor floor) (own w s) awake now in (
      acted_told acts tick floor (λ a. tick) (λ a k. tick) w v x it.here it.on (hands_way up d) g.H.FloorListener.grew c.args.to.now c.speak_for.new.self c.hand.new.to c.speak_for.ensures did.0,
      acted acts tick floor (λ a. tick) (λ a. tick) (λ a k. tick) (λ a k. tick) xs w v i x h low at it.here it.on (hands_way up d) (way_still any up d) (λ a other. refl) (λ a other. refl) c.hand.new.self did.1,
    )

pub returns-in_err-hand-clause-step : goal.returns-in_err-hand-clause-step
returns-in_err-hand-clause-step g c =
    λ acts floor v w h is_v now_is.
    let failed = err_from_is_err_and c.from_residual.result c.from_residual.ensures.1 in
    let xs = c.args.self.now.list.items in
    let tick = c.args.tick in
    let i = c.args.place in
    let up = c.args.up in
    let d = due_of c.args.due.now in
    let x = c.index_mut-seat.result.now in
    let at = c.index_mut-seat.ensures.value in
    let low : i < length xs = c.is_awake.ensures.within c.if-not-is_awake.false in
    let it : ActsHere acts tick floor (λ a. tick) (λ a k. tick) w v x = acts_here acts tick floor (λ a. tick) (λ a k. tick) xs w v i x h is_v low at (c.is_awake.ensures.due c.if-not-is_awake.false) in
    let s = it.here.stand in
    let awake : StandsAt tick (level floor floor) (λ k. tick) x.world.channel (own w s) = it.here.stands.awake it.on in
    let now : tick ≡ x.world.channel.tick = sym now_is ∙ awake.tick in
    let part = c.in_err-hand.ensures.step tick (level floor floor) (own w s) awake now in
    rw failed.1 (acted_told acts tick floor (λ a. tick) (λ a k. tick) w v x it.here it.on (hands_way up d) g.H.FloorListener.partly c.args.to.now c.speak_for.new.self c.hand.new.to c.speak_for.ensures part)

pub returns-then-not-is_awake-clause-passes : goal.returns-then-not-is_awake-clause-passes
returns-then-not-is_awake-clause-passes g c = λ acts floor v w h is_v now_is small. omega arith

pub returns-clause-passes : goal.returns-clause-passes
returns-clause-passes g c =
    λ acts floor v w h is_v now_is small.
    let xs = c.args.self.now.list.items in
    let tick = c.args.tick in
    let i = c.args.place in
    let x = c.index_mut-seat.result.now in
    let at = c.index_mut-seat.ensures.value in
    let low : i < length xs = c.is_awake.ensures.within c.if-not-is_awake.false in
    let it : ActsHere acts tick floor (λ a. tick) (λ a k. tick) w v x = acts_here acts tick floor (λ a. tick) (λ a k. tick) xs w v i x h is_v low at (c.is_awake.ensures.due c.if-not-is_awake.false) in
    let s = it.here.stand in
    let awake : StandsAt tick (level floor floor) (λ k. tick) x.world.channel (own w s) = it.here.stands.awake it.on in
    let now : tick ≡ x.world.channel.tick = sym now_is ∙ awake.tick in
    acted_passes acts tick floor (λ a. tick) (λ a k. tick) w v x it.here it.on (hands_way c.args.up (due_of c.args.due.now)) _ _
    (c.hand.ensures.passes tick (level floor floor) (own w s) awake now (omega (arith, small, now)))

pub returns-in_err-hand-clause-passes : goal.returns-in_err-hand-clause-passes
returns-in_err-hand-clause-passes g c =
    λ acts floor v w h is_v now_is small.
    let xs = c.args.self.now.list.items in
    let tick = c.args.tick in
    let i = c.args.place in
    let x = c.index_mut-seat.result.now in
    let at = c.index_mut-seat.ensures.value in
    let low : i < length xs = c.is_awake.ensures.within c.if-not-is_awake.false in
    let it : ActsHere acts tick floor (λ a. tick) (λ a k. tick) w v x = acts_here acts tick floor (λ a. tick) (λ a k. tick) xs w v i x h is_v low at (c.is_awake.ensures.due c.if-not-is_awake.false) in
    let s = it.here.stand in
    let awake : StandsAt tick (level floor floor) (λ k. tick) x.world.channel (own w s) = it.here.stands.awake it.on in
    let now : tick ≡ x.world.channel.tick = sym now_is ∙ awake.tick in
    acted_passes acts tick floor (λ a. tick) (λ a k. tick) w v x it.here it.on (hands_way c.args.up (due_of c.args.due.now)) _ _
    (c.hand.ensures.passes tick (level floor floor) (own w s) awake now (omega (arith, small, now)))
