use Rattle.std.proofs.Common.{◌≡◌, ◌<◌, ◌≤◌, ◌+◌, ℕ, suc, List, length, get_or, take, drop, refl, ap, sym, ◌∙◌, subst, arith}
use Rattle.std.proofs.lemmas.Result.{err_from_is_err_and}
use Rattle.channel_sim.specs.Lag.{clock_of}
use Rattle.channel_sim.specs.World.{vehicle_passes}
use Rattle.call_floor.specs.Floor.{FloorStep, Turn, vehicle_turns}
use Rattle.call_floor.specs.Tagged.{FloorGrew}
use Rattle.call_floor.specs.inner.FloorAt.{Amid, FloorIs, IsSeat, numbers_of, passes_of, plays_if}
use Rattle.call_floor.proofs.Loops.{cut_short, no_turn, numbers_if, passed_on, passed_short, taken_all, vehicle_at, vehicles_length, went_on}
use Rattle.call_floor.proofs.LoopFronts.{none_turned, numbers_length, same_length, tick_if}
use Rattle.call_floor.proofs.PlaysLemmas.{clock_here, clock_others, clock_passed, drop_past}
use Rattle.call_floor.proofs.seat.Seats.vehicles_pass.Goals as goal

pub loop-place-init : goal.loop-place-init
loop-place-init g c =
    record {
      stood = refl;
      came = λ acts floor before w h now next. ((refl, g.met.H.FloorListener.unchanged _), none_turned acts c.args.tick floor before (λ v d. before) c.args.self.now.list.items w h);
      passes = λ acts floor before w h now next small. omega arith;
    }

pub loop-place-preserved : goal.loop-place-preserved
loop-place-preserved g c =
    record {
      stood = c.in_ok-vehicle_turn.ensures.faults.stood ∙ c.loop-place.invariant.stood;
      came =
          λ acts floor before w h now next.
          let tick = c.args.tick in
          let i = c.loop-place.place in
          let ns : List ℕ = numbers_of w.stands in
          let ts : List Turn = vehicle_turns w.stands in
          let v : ℕ = get_or ns i 0 in
          let front : FloorStep = plays_if acts (take i ts) w in
          let so_far = c.loop-place.invariant.came acts floor before w h now next in
          let seats = same_length (Amid acts tick floor (λ a. before) (λ a d. before)) w c.args.self.now.list.items w.stands h.seats in
          let count = numbers_length w.stands in
          let turns = vehicles_length w.stands in
          let within : i < length w.stands = omega (arith, c.loop-place-test.true, c.len-place-end.ensures, seats) in
          let inside : i < length ns = omega (arith, within, count) in
          let low : i < length ts = omega (arith, within, turns) in
          let is_v : IsSeat front.floor i v = ap (λ ms. get_or ms i 0) (numbers_if acts (take i ts) w) in
          let ticks = tick_if acts (take i ts) w ∙ now in
          let did = c.in_ok-vehicle_turn.ensures.step acts floor before v (clock_of before (drop i ns)) (clock_of before (drop (suc i) ns)) (λ a d. before) front.floor so_far.1 is_v ticks
          (clock_here before 0 i ns h.order inside) next (clock_passed before 0 i ns h.order inside ∙ next) (clock_others before 0 i ns h.order inside) refl in
          let same : i + 1 ≡ suc i = omega arith in
          let on = went_on acts ts i no_turn w v vehicle_passes low (vehicle_at w.stands i within) g.H.FloorListener.grew g.met.H.FloorListener.twice (Amid acts tick floor (clock_of before (drop (suc i) ns)) (λ a d. before)) c.vehicle_turn.new.self.list.items c.args.to.now c.loop-place.to c.vehicle_turn.new.to so_far.0 did in
          (on.0, subst (λ n. FloorIs (Amid acts tick floor (clock_of before (drop n ns)) (λ a d. before)) c.vehicle_turn.new.self.list.items (plays_if acts (take (i + 1) ts) w).floor) (sym same) on.1);
      passes =
          λ acts floor before w h now next small.
          let tick = c.args.tick in
          let i = c.loop-place.place in
          let ns : List ℕ = numbers_of w.stands in
          let ts : List Turn = vehicle_turns w.stands in
          let v : ℕ = get_or ns i 0 in
          let front : FloorStep = plays_if acts (take i ts) w in
          let so_far = c.loop-place.invariant.came acts floor before w h now next in
          let seats = same_length (Amid acts tick floor (λ a. before) (λ a d. before)) w c.args.self.now.list.items w.stands h.seats in
          let count = numbers_length w.stands in
          let turns = vehicles_length w.stands in
          let within : i < length w.stands = omega (arith, c.loop-place-test.true, c.len-place-end.ensures, seats) in
          let inside : i < length ns = omega (arith, within, count) in
          let low : i < length ts = omega (arith, within, turns) in
          let is_v : IsSeat front.floor i v = ap (λ ms. get_or ms i 0) (numbers_if acts (take i ts) w) in
          let ticks = tick_if acts (take i ts) w ∙ now in
          let few = c.vehicle_turn.ensures.passes acts floor before v (clock_of before (drop i ns)) (λ a d. before) front.floor so_far.1 is_v ticks (clock_here before 0 i ns h.order inside) next refl small in
          passed_on acts ts i no_turn w v vehicle_passes low (vehicle_at w.stands i within) c.args.moments.now c.loop-place.moments c.vehicle_turn.new.moments (c.loop-place.invariant.passes acts floor before w h now next small) few;
    }

pub returns-in_err-vehicle_turn-clause-step : goal.returns-in_err-vehicle_turn-clause-step
returns-in_err-vehicle_turn-clause-step g c =
    λ acts floor before w h now next.
    let failed = err_from_is_err_and c.from_residual.result c.from_residual.ensures.1 in
    let tick = c.args.tick in
    let i = c.loop-place.place in
    let ns : List ℕ = numbers_of w.stands in
    let ts : List Turn = vehicle_turns w.stands in
    let v : ℕ = get_or ns i 0 in
    let front : FloorStep = plays_if acts (take i ts) w in
    let so_far = c.loop-place.invariant.came acts floor before w h now next in
    let seats = same_length (Amid acts tick floor (λ a. before) (λ a d. before)) w c.args.self.now.list.items w.stands h.seats in
    let count = numbers_length w.stands in
    let turns = vehicles_length w.stands in
    let within : i < length w.stands = omega (arith, c.loop-place-test.true, c.len-place-end.ensures, seats) in
    let inside : i < length ns = omega (arith, within, count) in
    let low : i < length ts = omega (arith, within, turns) in
    let is_v : IsSeat front.floor i v = ap (λ ms. get_or ms i 0) (numbers_if acts (take i ts) w) in
    let ticks = tick_if acts (take i ts) w ∙ now in
    let part = c.in_err-vehicle_turn.ensures.step acts floor before v (clock_of before (drop i ns)) (clock_of before (drop (suc i) ns)) (λ a d. before) front.floor so_far.1 is_v ticks
    (clock_here before 0 i ns h.order inside) next (clock_passed before 0 i ns h.order inside ∙ next) (clock_others before 0 i ns h.order inside) refl in
    rw failed.1 (cut_short acts ts i no_turn w v vehicle_passes low (vehicle_at w.stands i within) g.H.FloorListener.grew g.H.FloorListener.partly g.met.H.FloorListener.then_partly g.met.H.FloorListener.longer c.args.to.now c.loop-place.to c.vehicle_turn.new.to so_far.0 part)

pub returns-in_err-vehicle_turn-clause-passes : goal.returns-in_err-vehicle_turn-clause-passes
returns-in_err-vehicle_turn-clause-passes g c =
    λ acts floor before w h now next small.
    let tick = c.args.tick in
    let i = c.loop-place.place in
    let ns : List ℕ = numbers_of w.stands in
    let ts : List Turn = vehicle_turns w.stands in
    let v : ℕ = get_or ns i 0 in
    let front : FloorStep = plays_if acts (take i ts) w in
    let so_far = c.loop-place.invariant.came acts floor before w h now next in
    let seats = same_length (Amid acts tick floor (λ a. before) (λ a d. before)) w c.args.self.now.list.items w.stands h.seats in
    let count = numbers_length w.stands in
    let turns = vehicles_length w.stands in
    let within : i < length w.stands = omega (arith, c.loop-place-test.true, c.len-place-end.ensures, seats) in
    let inside : i < length ns = omega (arith, within, count) in
    let low : i < length ts = omega (arith, within, turns) in
    let is_v : IsSeat front.floor i v = ap (λ ms. get_or ms i 0) (numbers_if acts (take i ts) w) in
    let ticks = tick_if acts (take i ts) w ∙ now in
    let few = c.vehicle_turn.ensures.passes acts floor before v (clock_of before (drop i ns)) (λ a d. before) front.floor so_far.1 is_v ticks (clock_here before 0 i ns h.order inside) next refl small in
    passed_short acts ts i no_turn w v vehicle_passes low (vehicle_at w.stands i within) c.args.moments.now c.loop-place.moments c.vehicle_turn.new.moments (c.loop-place.invariant.passes acts floor before w h now next small) few

pub returns-clause-step : goal.returns-clause-step
returns-clause-step g c =
    λ acts floor before w h now next.
    let tick = c.args.tick in
    let i = c.loop-place.place in
    let ns : List ℕ = numbers_of w.stands in
    let ts : List Turn = vehicle_turns w.stands in
    let so_far = c.loop-place.invariant.came acts floor before w h now next in
    let seats = same_length (Amid acts tick floor (λ a. before) (λ a d. before)) w c.args.self.now.list.items w.stands h.seats in
    let count = numbers_length w.stands in
    let turns = vehicles_length w.stands in
    let past : length ns ≤ i = omega (arith, c.loop-place-test.false, c.len-place-end.ensures, seats, count) in
    let over : length ts ≤ i = omega (arith, past, count, turns) in
    let whole = subst (λ z. FloorGrew g.H.FloorListener.grew c.args.to.now c.loop-place.to (plays_if acts z w).entries × FloorIs (Amid acts tick floor (clock_of before (drop i ns)) (λ a d. before)) c.loop-place.self.list.items (plays_if acts z w).floor) (taken_all ts i over) so_far in
    let ended = subst (λ z. FloorIs (Amid acts tick floor (clock_of before z) (λ a d. before)) c.loop-place.self.list.items (plays_if acts ts w).floor) (drop_past i ns past) whole.1 in
    (whole.0, subst (λ t. FloorIs (Amid acts tick floor (λ a. t) (λ a d. before)) c.loop-place.self.list.items (plays_if acts ts w).floor) next ended)

pub returns-clause-passes : goal.returns-clause-passes
returns-clause-passes g c =
    λ acts floor before w h now next small.
    let tick = c.args.tick in
    let i = c.loop-place.place in
    let ts : List Turn = vehicle_turns w.stands in
    let seats = same_length (Amid acts tick floor (λ a. before) (λ a d. before)) w c.args.self.now.list.items w.stands h.seats in
    let turns = vehicles_length w.stands in
    let over : length ts ≤ i = omega (arith, c.loop-place-test.false, c.len-place-end.ensures, seats, turns) in
    subst (λ z. c.loop-place.moments ≤ c.args.moments.now + passes_of (plays_if acts z w)) (taken_all ts i over) (c.loop-place.invariant.passes acts floor before w h now next small)
