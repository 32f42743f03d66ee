use Rattle.std.proofs.Common.{◌≡◌, ◌<◌, ◌≤◌, ◌+◌, ℕ, suc, List, length, get_or, take, drop, refl, ap, sym, ◌∙◌, subst, arith}
use Rattle.std.proofs.lemmas.List.{drop_all}
use Rattle.std.proofs.lemmas.Result.{err_from_is_err_and}
use Rattle.channel_sim.specs.Lag.{AreSameBut}
use Rattle.channel_sim.specs.World.{session_passes}
use Rattle.call_floor.specs.Floor.{FloorStep, Turn}
use Rattle.call_floor.specs.Tagged.{FloorGrew}
use Rattle.call_floor.specs.inner.FloorAt.{Amid, AreSameBelow, FloorIs, IsSeat, numbers_of, passes_of, plays_if}
use Rattle.call_floor.proofs.Gone.{Named, named_turns}
use Rattle.call_floor.proofs.LiveCalls.{clock_left, left_below, left_here, left_others, left_passed, live_above, live_named, sessions_live}
use Rattle.call_floor.proofs.Loops.{cut_short, live_at, live_length, named_at, named_length, no_turn, numbers_if, passed_on, passed_short, taken_all, went_on}
use Rattle.call_floor.proofs.LoopFronts.{at_self, no_live, no_name, none_sat, tick_if}
use Rattle.call_floor.proofs.seat.Seats.sessions_pass.Goals as goal

pub loop-one-init : goal.loop-one-init
loop-one-init g c =
    record {
      stood = refl;
      came = λ acts floor before w h now next ready. ((refl, g.met.H.FloorListener.unchanged _), none_sat acts c.args.tick floor before c.args.live.now c.args.self.now.list.items w ready h);
      passes = λ acts floor before w h now next ready small. omega arith;
    }

pub loop-one-preserved : goal.loop-one-preserved
loop-one-preserved g c =
    record {
      stood = c.in_ok-session_turn.ensures.faults.stood ∙ c.loop-one.invariant.stood;
      came =
          λ acts floor before w h now next ready.
          let tick = c.args.tick in
          let ls = c.args.live.now in
          let i = c.loop-one.one-index in
          let one = get_or ls i no_live in
          let ns : List ℕ = numbers_of w.stands in
          let xs : List Named = live_named ns ls in
          let ts : List Turn = named_turns xs in
          let v : ℕ = get_or ns one.place 0 in
          let n : ℕ = one.call in
          let front : FloorStep = plays_if acts (take i ts) w in
          let so_far = c.loop-one.invariant.came acts floor before w h now next ready in
          let within : i < length ls = c.loop-one-test.true in
          let turns = live_length ns ls in
          let named = named_length ns ls in
          let low : i < length ts = omega (arith, within, turns) in
          let inside : i < length xs = omega (arith, within, named) in
          let it : get_or xs i no_name ≡ record { vehicle = v; number = n } = named_at ns ls i one no_name within (at_self ls i no_live within) in
          let is : get_or ts i no_turn ≡ record { vehicle = v; act = session_passes n } = live_at ns ls i one within (at_self ls i no_live within) in
          let above = live_above w ls ready.live in
          let is_v : IsSeat front.floor one.place v = ap (λ ms. get_or ms one.place 0) (numbers_if acts (take i ts) w) in
          let ticks = tick_if acts (take i ts) w ∙ now in
          let was : clock_left before (drop i xs) v n ≡ before = subst (λ (q : Named). clock_left before (drop i xs) q.vehicle q.number ≡ before) it (left_here before no_name 0 i xs above inside) in
          let gone : clock_left before (drop (suc i) xs) v n ≡ before + 1 = subst (λ (q : Named). clock_left before (drop (suc i) xs) q.vehicle q.number ≡ before + 1) it (left_passed before no_name 0 i xs above inside) in
          let others : AreSameBut n (clock_left before (drop i xs) v) (clock_left before (drop (suc i) xs) v) = subst (λ (q : Named). AreSameBut q.number (clock_left before (drop i xs) q.vehicle) (clock_left before (drop (suc i) xs) q.vehicle)) it (left_others before no_name i xs inside) in
          let below : AreSameBelow v (clock_left before (drop i xs)) (clock_left before (drop (suc i) xs)) = subst (λ (q : Named). AreSameBelow q.vehicle (clock_left before (drop i xs)) (clock_left before (drop (suc i) xs))) it (left_below before no_name i xs inside) in
          let did = c.in_ok-session_turn.ensures.step acts floor v (λ a. tick) (clock_left before (drop i xs)) (clock_left before (drop (suc i) xs)) front.floor so_far.1 is_v ticks refl (ap (λ t. t + 1) was ∙ next) (gone ∙ next) others below in
          let same : i + 1 ≡ suc i = omega arith in
          let on = went_on acts ts i no_turn w v (session_passes n) low is g.H.FloorListener.grew g.met.H.FloorListener.twice (Amid acts tick floor (λ a. tick) (clock_left before (drop (suc i) xs))) c.session_turn.new.self.list.items c.args.to.now c.loop-one.to c.session_turn.new.to so_far.0 did in
          (on.0, subst (λ m. FloorIs (Amid acts tick floor (λ a. tick) (clock_left before (drop m xs))) c.session_turn.new.self.list.items (plays_if acts (take (i + 1) ts) w).floor) (sym same) on.1);
      passes =
          λ acts floor before w h now next ready small.
          let tick = c.args.tick in
          let ls = c.args.live.now in
          let i = c.loop-one.one-index in
          let one = get_or ls i no_live in
          let ns : List ℕ = numbers_of w.stands in
          let xs : List Named = live_named ns ls in
          let ts : List Turn = named_turns xs in
          let v : ℕ = get_or ns one.place 0 in
          let n : ℕ = one.call in
          let front : FloorStep = plays_if acts (take i ts) w in
          let so_far = c.loop-one.invariant.came acts floor before w h now next ready in
          let within : i < length ls = c.loop-one-test.true in
          let turns = live_length ns ls in
          let named = named_length ns ls in
          let low : i < length ts = omega (arith, within, turns) in
          let inside : i < length xs = omega (arith, within, named) in
          let it : get_or xs i no_name ≡ record { vehicle = v; number = n } = named_at ns ls i one no_name within (at_self ls i no_live within) in
          let is : get_or ts i no_turn ≡ record { vehicle = v; act = session_passes n } = live_at ns ls i one within (at_self ls i no_live within) in
          let above = live_above w ls ready.live in
          let is_v : IsSeat front.floor one.place v = ap (λ ms. get_or ms one.place 0) (numbers_if acts (take i ts) w) in
          let ticks = tick_if acts (take i ts) w ∙ now in
          let was : clock_left before (drop i xs) v n ≡ before = subst (λ (q : Named). clock_left before (drop i xs) q.vehicle q.number ≡ before) it (left_here before no_name 0 i xs above inside) in
          let gone : clock_left before (drop (suc i) xs) v n ≡ before + 1 = subst (λ (q : Named). clock_left before (drop (suc i) xs) q.vehicle q.number ≡ before + 1) it (left_passed before no_name 0 i xs above inside) in
          let others : AreSameBut n (clock_left before (drop i xs) v) (clock_left before (drop (suc i) xs) v) = subst (λ (q : Named). AreSameBut q.number (clock_left before (drop i xs) q.vehicle) (clock_left before (drop (suc i) xs) q.vehicle)) it (left_others before no_name i xs inside) in
          let below : AreSameBelow v (clock_left before (drop i xs)) (clock_left before (drop (suc i) xs)) = subst (λ (q : Named). AreSameBelow q.vehicle (clock_left before (drop i xs)) (clock_left before (drop (suc i) xs))) it (left_below before no_name i xs inside) in
          let few = c.session_turn.ensures.passes acts floor v (λ a. tick) (clock_left before (drop i xs)) (clock_left before (drop (suc i) xs)) front.floor so_far.1 is_v ticks refl (ap (λ t. t + 1) was ∙ next) (gone ∙ next) others small in
          passed_on acts ts i no_turn w v (session_passes n) low is c.args.moments.now c.loop-one.moments c.session_turn.new.moments (c.loop-one.invariant.passes acts floor before w h now next ready small) few;
    }

pub returns-in_err-session_turn-clause-step : goal.returns-in_err-session_turn-clause-step
returns-in_err-session_turn-clause-step g c =
    λ acts floor before w h now next ready.
    let failed = err_from_is_err_and c.from_residual.result c.from_residual.ensures.1 in
    let tick = c.args.tick in
    let ls = c.args.live.now in
    let i = c.loop-one.one-index in
    let one = get_or ls i no_live in
    let ns : List ℕ = numbers_of w.stands in
    let xs : List Named = live_named ns ls in
    let ts : List Turn = named_turns xs in
    let v : ℕ = get_or ns one.place 0 in
    let n : ℕ = one.call in
    let front : FloorStep = plays_if acts (take i ts) w in
    let so_far = c.loop-one.invariant.came acts floor before w h now next ready in
    let within : i < length ls = c.loop-one-test.true in
    let turns = live_length ns ls in
    let named = named_length ns ls in
    let low : i < length ts = omega (arith, within, turns) in
    let inside : i < length xs = omega (arith, within, named) in
    let it : get_or xs i no_name ≡ record { vehicle = v; number = n } = named_at ns ls i one no_name within (at_self ls i no_live within) in
    let is : get_or ts i no_turn ≡ record { vehicle = v; act = session_passes n } = live_at ns ls i one within (at_self ls i no_live within) in
    let above = live_above w ls ready.live in
    let is_v : IsSeat front.floor one.place v = ap (λ ms. get_or ms one.place 0) (numbers_if acts (take i ts) w) in
    let ticks = tick_if acts (take i ts) w ∙ now in
    let was : clock_left before (drop i xs) v n ≡ before = subst (λ (q : Named). clock_left before (drop i xs) q.vehicle q.number ≡ before) it (left_here before no_name 0 i xs above inside) in
    let gone : clock_left before (drop (suc i) xs) v n ≡ before + 1 = subst (λ (q : Named). clock_left before (drop (suc i) xs) q.vehicle q.number ≡ before + 1) it (left_passed before no_name 0 i xs above inside) in
    let others : AreSameBut n (clock_left before (drop i xs) v) (clock_left before (drop (suc i) xs) v) = subst (λ (q : Named). AreSameBut q.number (clock_left before (drop i xs) q.vehicle) (clock_left before (drop (suc i) xs) q.vehicle)) it (left_others before no_name i xs inside) in
    let below : AreSameBelow v (clock_left before (drop i xs)) (clock_left before (drop (suc i) xs)) = subst (λ (q : Named). AreSameBelow q.vehicle (clock_left before (drop i xs)) (clock_left before (drop (suc i) xs))) it (left_below before no_name i xs inside) in
    let part = c.in_err-session_turn.ensures.step acts floor v (λ a. tick) (clock_left before (drop i xs)) (clock_left before (drop (suc i) xs)) front.floor so_far.1 is_v ticks refl (ap (λ t. t + 1) was ∙ next) (gone ∙ next) others below in
    let cut = cut_short acts ts i no_turn w v (session_passes n) low is g.H.FloorListener.grew g.H.FloorListener.partly g.met.H.FloorListener.then_partly g.met.H.FloorListener.longer c.args.to.now c.loop-one.to c.session_turn.new.to so_far.0 part in
    rw failed.1 (subst (λ (s : FloorStep). FloorGrew g.H.FloorListener.partly c.args.to.now c.session_turn.new.to s.entries) (sessions_live acts w ls ready.live) cut)

pub returns-in_err-session_turn-clause-passes : goal.returns-in_err-session_turn-clause-passes
returns-in_err-session_turn-clause-passes g c =
    λ acts floor before w h now next ready small.
    let tick = c.args.tick in
    let ls = c.args.live.now in
    let i = c.loop-one.one-index in
    let one = get_or ls i no_live in
    let ns : List ℕ = numbers_of w.stands in
    let xs : List Named = live_named ns ls in
    let ts : List Turn = named_turns xs in
    let v : ℕ = get_or ns one.place 0 in
    let n : ℕ = one.call in
    let front : FloorStep = plays_if acts (take i ts) w in
    let so_far = c.loop-one.invariant.came acts floor before w h now next ready in
    let within : i < length ls = c.loop-one-test.true in
    let turns = live_length ns ls in
    let named = named_length ns ls in
    let low : i < length ts = omega (arith, within, turns) in
    let inside : i < length xs = omega (arith, within, named) in
    let it : get_or xs i no_name ≡ record { vehicle = v; number = n } = named_at ns ls i one no_name within (at_self ls i no_live within) in
    let is : get_or ts i no_turn ≡ record { vehicle = v; act = session_passes n } = live_at ns ls i one within (at_self ls i no_live within) in
    let above = live_above w ls ready.live in
    let is_v : IsSeat front.floor one.place v = ap (λ ms. get_or ms one.place 0) (numbers_if acts (take i ts) w) in
    let ticks = tick_if acts (take i ts) w ∙ now in
    let was : clock_left before (drop i xs) v n ≡ before = subst (λ (q : Named). clock_left before (drop i xs) q.vehicle q.number ≡ before) it (left_here before no_name 0 i xs above inside) in
    let gone : clock_left before (drop (suc i) xs) v n ≡ before + 1 = subst (λ (q : Named). clock_left before (drop (suc i) xs) q.vehicle q.number ≡ before + 1) it (left_passed before no_name 0 i xs above inside) in
    let others : AreSameBut n (clock_left before (drop i xs) v) (clock_left before (drop (suc i) xs) v) = subst (λ (q : Named). AreSameBut q.number (clock_left before (drop i xs) q.vehicle) (clock_left before (drop (suc i) xs) q.vehicle)) it (left_others before no_name i xs inside) in
    let below : AreSameBelow v (clock_left before (drop i xs)) (clock_left before (drop (suc i) xs)) = subst (λ (q : Named). AreSameBelow q.vehicle (clock_left before (drop i xs)) (clock_left before (drop (suc i) xs))) it (left_below before no_name i xs inside) in
    let few = c.session_turn.ensures.passes acts floor v (λ a. tick) (clock_left before (drop i xs)) (clock_left before (drop (suc i) xs)) front.floor so_far.1 is_v ticks refl (ap (λ t. t + 1) was ∙ next) (gone ∙ next) others small in
    let cut = passed_short acts ts i no_turn w v (session_passes n) low is c.args.moments.now c.loop-one.moments c.session_turn.new.moments (c.loop-one.invariant.passes acts floor before w h now next ready small) few in
    subst (λ (s : FloorStep). c.session_turn.new.moments ≤ c.args.moments.now + passes_of s) (sessions_live acts w ls ready.live) cut

pub returns-clause-step : goal.returns-clause-step
returns-clause-step g c =
    λ acts floor before w h now next ready.
    let tick = c.args.tick in
    let ls = c.args.live.now in
    let i = c.loop-one.one-index in
    let ns : List ℕ = numbers_of w.stands in
    let xs : List Named = live_named ns ls in
    let ts : List Turn = named_turns xs in
    let so_far = c.loop-one.invariant.came acts floor before w h now next ready in
    let past : length ls ≤ i = c.loop-one-test.false in
    let turns = live_length ns ls in
    let named = named_length ns ls in
    let over : length ts ≤ i = omega (arith, past, turns) in
    let behind : length xs ≤ i = omega (arith, past, named) in
    let whole = subst (λ z. FloorGrew g.H.FloorListener.grew c.args.to.now c.loop-one.to (plays_if acts z w).entries × FloorIs (Amid acts tick floor (λ a. tick) (clock_left before (drop i xs))) c.loop-one.self.list.items (plays_if acts z w).floor) (taken_all ts i over) so_far in
    let ended = subst (λ z. FloorIs (Amid acts tick floor (λ a. tick) (clock_left before z)) c.loop-one.self.list.items (plays_if acts ts w).floor) (drop_all i xs behind) whole.1 in
    subst (λ (s : FloorStep). FloorGrew g.H.FloorListener.grew c.args.to.now c.loop-one.to s.entries × FloorIs (Amid acts tick floor (λ a. tick) (λ a d. tick)) c.loop-one.self.list.items s.floor) (sessions_live acts w ls ready.live)
    (whole.0, subst (λ t. FloorIs (Amid acts tick floor (λ a. tick) (λ a d. t)) c.loop-one.self.list.items (plays_if acts ts w).floor) next ended)

pub returns-clause-passes : goal.returns-clause-passes
returns-clause-passes g c =
    λ acts floor before w h now next ready small.
    let ls = c.args.live.now in
    let i = c.loop-one.one-index in
    let ns : List ℕ = numbers_of w.stands in
    let ts : List Turn = named_turns (live_named ns ls) in
    let past : length ls ≤ i = c.loop-one-test.false in
    let turns = live_length ns ls in
    let over : length ts ≤ i = omega (arith, past, turns) in
    subst (λ (s : FloorStep). c.loop-one.moments ≤ c.args.moments.now + passes_of s) (ap (λ z. plays_if acts z w) (taken_all ts i over) ∙ sessions_live acts w ls ready.live) (c.loop-one.invariant.passes acts floor before w h now next ready small)
