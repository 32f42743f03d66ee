use Rattle.std.proofs.Common.{◌≡◌, ◌<◌, ◌≤◌, ◌+◌, ℕ, List, length, get_or, take, refl, ap, ◌∙◌, subst, arith}
use Rattle.std.proofs.lemmas.Result.{err_from_is_err_and}
use Rattle.channel_sim.specs.Handing.{due_of, hands_way}
use Rattle.call_floor.specs.Floor.{FloorStep, Turn}
use Rattle.call_floor.specs.Tagged.{FloorGrew}
use Rattle.call_floor.specs.inner.FloorAt.{Amid, FloorIs, IsSeat, listed_turns, numbers_of, passes_of, plays_if}
use Rattle.call_floor.proofs.Loops.{cut_short, listed_at, listed_length, no_turn, numbers_if, passed_on, passed_short, taken_all, went_on}
use Rattle.call_floor.proofs.LoopFronts.{tick_if}
use Rattle.call_floor.proofs.seat.Seats.hand_each.Goals as goal

pub loop-k-init : goal.loop-k-init
loop-k-init g c =
    record {
      stood = refl;
      came = λ acts floor w h now pairs. ((refl, g.met.H.FloorListener.unchanged _), h);
      passes = λ acts floor w h now pairs small. omega arith;
    }

pub loop-k-preserved : goal.loop-k-preserved
loop-k-preserved g c =
    record {
      stood = c.in_ok-hand_turn.ensures.faults.stood ∙ c.loop-k.invariant.stood;
      came =
          λ acts floor w h now pairs.
          let tick = c.args.tick in
          let up = c.args.up in
          let ps = c.args.room.now.owners.items in
          let ds = c.args.room.now.due.items in
          let i = c.loop-k.k in
          let x = c.index.result.now in
          let place = c.owner-place.result in
          let ns : List ℕ = numbers_of w.stands in
          let ts : List Turn = listed_turns ns up ps ds in
          let v : ℕ = get_or ns (get_or ps i 0) 0 in
          let act = hands_way up (due_of x) in
          let front : FloorStep = plays_if acts (take i ts) w in
          let so_far = c.loop-k.invariant.came acts floor w h now pairs in
          let within : i < length ds = omega (arith, c.loop-k-test.true, c.len-k-end.ensures) in
          let turns = listed_length ns up ps ds pairs in
          let low : i < length ts = omega (arith, within, turns) in
          let is = listed_at ns up ps ds i x pairs within c.index.ensures in
          let owns : place ≡ get_or ps i 0 = c.owner-place.ensures (omega (arith, within, pairs)) in
          let is_v : IsSeat front.floor place v = ap (λ ms. get_or ms place 0) (numbers_if acts (take i ts) w) ∙ ap (λ p. get_or ns p 0) owns in
          let ticks = tick_if acts (take i ts) w ∙ now in
          let did = c.in_ok-hand_turn.ensures.step acts floor v front.floor so_far.1 is_v ticks in
          went_on acts ts i no_turn w v act low is g.H.FloorListener.grew g.met.H.FloorListener.twice (Amid acts tick floor (λ a. tick) (λ a d. tick)) c.hand_turn.new.self.list.items c.args.to.now c.loop-k.to c.hand_turn.new.to so_far.0 did;
      passes =
          λ acts floor w h now pairs small.
          let tick = c.args.tick in
          let up = c.args.up in
          let ps = c.args.room.now.owners.items in
          let ds = c.args.room.now.due.items in
          let i = c.loop-k.k in
          let x = c.index.result.now in
          let place = c.owner-place.result in
          let ns : List ℕ = numbers_of w.stands in
          let ts : List Turn = listed_turns ns up ps ds in
          let v : ℕ = get_or ns (get_or ps i 0) 0 in
          let act = hands_way up (due_of x) in
          let front : FloorStep = plays_if acts (take i ts) w in
          let so_far = c.loop-k.invariant.came acts floor w h now pairs in
          let within : i < length ds = omega (arith, c.loop-k-test.true, c.len-k-end.ensures) in
          let turns = listed_length ns up ps ds pairs in
          let low : i < length ts = omega (arith, within, turns) in
          let is = listed_at ns up ps ds i x pairs within c.index.ensures in
          let owns : place ≡ get_or ps i 0 = c.owner-place.ensures (omega (arith, within, pairs)) in
          let is_v : IsSeat front.floor place v = ap (λ ms. get_or ms place 0) (numbers_if acts (take i ts) w) ∙ ap (λ p. get_or ns p 0) owns in
          let ticks = tick_if acts (take i ts) w ∙ now in
          let few = c.hand_turn.ensures.passes acts floor v front.floor so_far.1 is_v ticks small in
          passed_on acts ts i no_turn w v act low is c.args.moments.now c.loop-k.moments c.hand_turn.new.moments (c.loop-k.invariant.passes acts floor w h now pairs small) few;
    }

pub returns-in_err-hand_turn-clause-step : goal.returns-in_err-hand_turn-clause-step
returns-in_err-hand_turn-clause-step g c =
    λ acts floor w h now pairs.
    let failed = err_from_is_err_and c.from_residual.result c.from_residual.ensures.1 in
    let tick = c.args.tick in
    let up = c.args.up in
    let ps = c.args.room.now.owners.items in
    let ds = c.args.room.now.due.items in
    let i = c.loop-k.k in
    let x = c.index.result.now in
    let place = c.owner-place.result in
    let ns : List ℕ = numbers_of w.stands in
    let ts : List Turn = listed_turns ns up ps ds in
    let v : ℕ = get_or ns (get_or ps i 0) 0 in
    let act = hands_way up (due_of x) in
    let front : FloorStep = plays_if acts (take i ts) w in
    let so_far = c.loop-k.invariant.came acts floor w h now pairs in
    let within : i < length ds = omega (arith, c.loop-k-test.true, c.len-k-end.ensures) in
    let turns = listed_length ns up ps ds pairs in
    let low : i < length ts = omega (arith, within, turns) in
    let is = listed_at ns up ps ds i x pairs within c.index.ensures in
    let owns : place ≡ get_or ps i 0 = c.owner-place.ensures (omega (arith, within, pairs)) in
    let is_v : IsSeat front.floor place v = ap (λ ms. get_or ms place 0) (numbers_if acts (take i ts) w) ∙ ap (λ p. get_or ns p 0) owns in
    let ticks = tick_if acts (take i ts) w ∙ now in
    let part = c.in_err-hand_turn.ensures.step acts floor v front.floor so_far.1 is_v ticks in
    rw failed.1 (cut_short acts ts i no_turn w v act low is g.H.FloorListener.grew g.H.FloorListener.partly g.met.H.FloorListener.then_partly g.met.H.FloorListener.longer c.args.to.now c.loop-k.to c.hand_turn.new.to so_far.0 part)

pub returns-in_err-hand_turn-clause-passes : goal.returns-in_err-hand_turn-clause-passes
returns-in_err-hand_turn-clause-passes g c =
    λ acts floor w h now pairs small.
    let tick = c.args.tick in
    let up = c.args.up in
    let ps = c.args.room.now.owners.items in
    let ds = c.args.room.now.due.items in
    let i = c.loop-k.k in
    let x = c.index.result.now in
    let place = c.owner-place.result in
    let ns : List ℕ = numbers_of w.stands in
    let ts : List Turn = listed_turns ns up ps ds in
    let v : ℕ = get_or ns (get_or ps i 0) 0 in
    let act = hands_way up (due_of x) in
    let front : FloorStep = plays_if acts (take i ts) w in
    let so_far = c.loop-k.invariant.came acts floor w h now pairs in
    let within : i < length ds = omega (arith, c.loop-k-test.true, c.len-k-end.ensures) in
    let turns = listed_length ns up ps ds pairs in
    let low : i < length ts = omega (arith, within, turns) in
    let is = listed_at ns up ps ds i x pairs within c.index.ensures in
    let owns : place ≡ get_or ps i 0 = c.owner-place.ensures (omega (arith, within, pairs)) in
    let is_v : IsSeat front.floor place v = ap (λ ms. get_or ms place 0) (numbers_if acts (take i ts) w) ∙ ap (λ p. get_or ns p 0) owns in
    let ticks = tick_if acts (take i ts) w ∙ now in
    let few = c.hand_turn.ensures.passes acts floor v front.floor so_far.1 is_v ticks small in
    passed_short acts ts i no_turn w v act low is c.args.moments.now c.loop-k.moments c.hand_turn.new.moments (c.loop-k.invariant.passes acts floor w h now pairs small) few

pub returns-clause-step : goal.returns-clause-step
returns-clause-step g c =
    λ acts floor w h now pairs.
    let tick = c.args.tick in
    let i = c.loop-k.k in
    let ts : List Turn = listed_turns (numbers_of w.stands) c.args.up c.args.room.now.owners.items c.args.room.now.due.items in
    let turns = listed_length (numbers_of w.stands) c.args.up c.args.room.now.owners.items c.args.room.now.due.items pairs in
    let over : length ts ≤ i = omega (arith, c.loop-k-test.false, c.len-k-end.ensures, turns) in
    subst (λ z. FloorGrew g.H.FloorListener.grew c.args.to.now c.loop-k.to (plays_if acts z w).entries × FloorIs (Amid acts tick floor (λ a. tick) (λ a d. tick)) c.loop-k.self.list.items (plays_if acts z w).floor) (taken_all ts i over) (c.loop-k.invariant.came acts floor w h now pairs)

pub returns-clause-passes : goal.returns-clause-passes
returns-clause-passes g c =
    λ acts floor w h now pairs small.
    let i = c.loop-k.k in
    let ts : List Turn = listed_turns (numbers_of w.stands) c.args.up c.args.room.now.owners.items c.args.room.now.due.items in
    let turns = listed_length (numbers_of w.stands) c.args.up c.args.room.now.owners.items c.args.room.now.due.items pairs in
    let over : length ts ≤ i = omega (arith, c.loop-k-test.false, c.len-k-end.ensures, turns) in
    subst (λ z. c.loop-k.moments ≤ c.args.moments.now + passes_of (plays_if acts z w)) (taken_all ts i over) (c.loop-k.invariant.passes acts floor w h now pairs small)
