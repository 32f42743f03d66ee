use Rattle.std.proofs.Common.{◌≡◌, ◌≤◌, ◌<◌, ◌+◌, Some, None, length, get_or, slice_set, map, take, ap, sym, ◌∙◌, subst, arith, rules}
use Rattle.std.specs.List.{AllByRecursion}
use Rattle.channel_sim.specs.Lag.{CallLags, CallsLag}
use Rattle.channel_sim.specs.Tidy.{AreAbove}
use Rattle.channel_sim.specs.inner.Beside.{bare, numbers}
use Rattle.channel_sim.specs.inner.Places.{place_of}
use Rattle.channel_sim.specs.inner.Turns.{Sleeps, IsListed, calls_of}
use Rattle.channel_sim.proofs.CallsLemmas.{none_of}
use Rattle.channel_sim.proofs.ChangeLemmas.{set_at}
use Rattle.channel_sim.proofs.ListedLemmas.{AreReached, turn_count, all_set, bare_set, bare_same, listed_still, same_bare_numbers, calls_more, none_reached, place_number, reached_more, reached_nowhere, count_more_turn, count_no_more, all_reached, turns_counted}
use Rattle.channel_sim.proofs.StepLemmas.{take_all}
use Rattle.channel_sim.proofs.calls.passing.pass_listed.Goals as goal
use Rattle.channel_sim.proofs.calls.passing.pass_listed.Goals.{in-Some, in_default}

pub loop-turn-init : goal.loop-turn-init
loop-turn-init g c =
    record {
      same = search rules;
      listed = λ h. h;
      lags = λ floor ks h. h;
      reached = none_reached c.args.tick c.args.calls.now.items;
      passes = λ floor ks h small. omega arith;
    }

pub loop-turn-preserved : goal.loop-turn-preserved
loop-turn-preserved g c =
    let tick = c.args.tick in
    let turns = c.args.turns.now in
    let xs = c.loop-turn.calls.items in
    let at = c.loop-turn.turn-index in
    let cs = calls_of (take at turns) in
    let number = (get_or turns at (record { call = 0; tick = 0 })).call in
    let above : AreAbove 0 (numbers xs) = subst (AreAbove 0) (sym (same_bare_numbers c.args.calls.now.items xs c.loop-turn.invariant.same)) c.requires in
    let more = calls_more turns at (record { call = 0; tick = 0 }) c.loop-turn-test.true in
    elim c.match-find.branch [
      | in-Some w ↦
          let i = w.in-Some.i in
          let d = w.index_mut.result.now in
          let y = w.catch_waking_up.new.call in
          let place : place_of number (numbers xs) ≡ Some i = sym (w.in-Some.ensures.place above) in
          let inside : i < length xs = w.in-Some.ensures.within in
          let value : d ≡ get_or xs i d = w.index_mut.ensures.value in
          let e : bare y ≡ bare (get_or xs i d) = bare_same (get_or xs i d) y y.session y.passed (subst (λ x. y ≡ record x { session = y.session; passed = y.passed }) value w.catch_waking_up.ensures.same) in
          let asleep = subst (λ x. Sleeps x → y ≡ x) value w.catch_waking_up.ensures.asleep in
          record {
            same = subst (λ zs. map bare zs ≡ map bare c.args.calls.now.items) (sym (ap (λ z. z.items) w.calls-is)) (bare_set xs i d y inside e ∙ c.loop-turn.invariant.same);
            listed = λ h.
                subst (AllByRecursion (IsListed turns)) (sym (ap (λ z. z.items) w.calls-is))
                (all_set (IsListed turns) xs i d y (listed_still turns (get_or xs i d) y e (λ sleeps. subst Sleeps (sym (asleep sleeps)) sleeps)) (c.loop-turn.invariant.listed h));
            lags = λ floor ks h.
                subst (λ zs. CallsLag floor (λ n. tick) zs ks) (sym (ap (λ z. z.items) w.calls-is))
                (set_at floor (λ n. tick) xs ks i d y (c.loop-turn.invariant.lags floor ks h) (λ k lags. w.catch_waking_up.ensures.caught floor k (subst (λ x. CallLags floor tick x k) (sym value) lags)));
            reached =
                subst (λ zs. AreReached tick (calls_of (take (at + 1) turns)) zs) (sym (ap (λ z. z.items) w.calls-is))
                (subst (λ ds. AreReached tick ds (slice_set xs i y)) (sym more) (reached_more tick number cs xs i d y above inside (place_number number xs i d place inside) w.catch_waking_up.ensures.reached c.loop-turn.invariant.reached));
            passes = λ floor ks h small.
                subst (λ n. n ≤ c.args.moments.now + turn_count (calls_of (take (at + 1) turns)) ks) (sym w.moments-is)
                (subst (λ ds. w.catch_waking_up.new.moments ≤ c.args.moments.now + turn_count ds ks) (sym more)
                (count_more_turn floor tick c.loop-turn.moments w.catch_waking_up.new.moments c.args.moments.now number cs xs ks i d (c.loop-turn.invariant.lags floor ks h) place (c.loop-turn.invariant.passes floor ks h small) (λ k lags. w.catch_waking_up.ensures.passes floor k (subst (λ x. CallLags floor tick x k) (sym value) lags) small)));
          }
      | in_default w ↦
          let place : place_of number (numbers xs) ≡ None = sym (c.find.ensures.place above) ∙ none_of c.find.result w.in_default.not-Some in
          record {
            same = subst (λ zs. map bare zs ≡ map bare c.args.calls.now.items) (sym (ap (λ z. z.items) w.calls-is)) c.loop-turn.invariant.same;
            listed = λ h. subst (AllByRecursion (IsListed turns)) (sym (ap (λ z. z.items) w.calls-is)) (c.loop-turn.invariant.listed h);
            lags = λ floor ks h. subst (λ zs. CallsLag floor (λ n. tick) zs ks) (sym (ap (λ z. z.items) w.calls-is)) (c.loop-turn.invariant.lags floor ks h);
            reached =
                subst (λ zs. AreReached tick (calls_of (take (at + 1) turns)) zs) (sym (ap (λ z. z.items) w.calls-is))
                (subst (λ ds. AreReached tick ds xs) (sym more) (reached_nowhere tick number cs xs place c.loop-turn.invariant.reached));
            passes = λ floor ks h small.
                subst (λ n. n ≤ c.args.moments.now + turn_count (calls_of (take (at + 1) turns)) ks) (sym w.moments-is)
                (subst (λ ds. c.loop-turn.moments ≤ c.args.moments.now + turn_count ds ks) (sym more) (count_no_more c.loop-turn.moments c.args.moments.now number cs ks (c.loop-turn.invariant.passes floor ks h small)));
          }
    ]

pub returns-clause-lags : goal.returns-clause-lags
returns-clause-lags g c =
    λ floor ks h listed low.
    let turns = c.args.turns.now in
    let all = subst (λ ts. AreReached c.args.tick (calls_of ts) c.loop-turn.calls.items) (take_all c.loop-turn.turn-index turns c.loop-turn-test.false) c.loop-turn.invariant.reached in
    all_reached floor c.args.tick turns c.loop-turn.calls.items ks low (c.loop-turn.invariant.listed listed) all (c.loop-turn.invariant.lags floor ks h)

pub returns-clause-passes : goal.returns-clause-passes
returns-clause-passes g c =
    λ floor ks h rise small.
    let turns = c.args.turns.now in
    let all = subst (λ ts. c.loop-turn.moments ≤ c.args.moments.now + turn_count (calls_of ts) ks) (take_all c.loop-turn.turn-index turns c.loop-turn-test.false) (c.loop-turn.invariant.passes floor ks h small) in
    omega (arith, turns_counted (calls_of turns) ks rise, all)
