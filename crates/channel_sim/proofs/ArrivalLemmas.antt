-- A call that comes up.
use Rattle.std.proofs.Common.{◌≡◌, ℕ, ◌+◌, ◌-◌, ◌<◌, ◌≤◌, true, false, inl, Option, Some, None, List, [], ◌∷◌, ◌++◌, map, refl, ap, sym, ◌∙◌, subst, arith}
use Rattle.std.specs.List.{AllByRecursion}
use Rattle.std.proofs.lemmas.Bool.{eq-eqb}
use Rattle.std.proofs.lemmas.List.{map-append}
use Rattle.ivs_machine.specs.IvsStands.{IvsStandsFor}
use Rattle.ivs_machine.specs.Vehicle.{Vehicle, vehicle_call}
use Rattle.channel_sim.specs.declared.calls.call.Call as kept_call
use Rattle.channel_sim.specs.declared.channel.Channel as kept_channel
use Rattle.channel_sim.specs.World.{Call, World}
use Rattle.channel_sim.specs.Lines.{with_call}
use Rattle.channel_sim.specs.inner.Acts.{OtherHasLeg, IsReady}
use Rattle.channel_sim.specs.Lag.{LeastPassed, level, CallLags, CallsLag, StandsNow}
use Rattle.channel_sim.specs.Tidy.{AreAbove, CallInTime, numbers_of}
use Rattle.channel_sim.proofs.CallsLemmas.{same_numbers}
use Rattle.channel_sim.proofs.VehicleLemmas.{vehicle_stands_now, legs_others}

all_append : {A : Type 0} (P : A → Type 0) (xs : List A) (x : A) → AllByRecursion P xs → P x → AllByRecursion P (xs ++ x ∷ [])
all_append P [] x h one = (one, tt)
all_append P (y ∷ ys) x h one = (h.0, all_append P ys x h.1 one)

pub lag_append : (floor : LeastPassed) (clock : ℕ → ℕ) (xs : List kept_call.Call) (ks : List Call) (x : kept_call.Call) (k : Call) → CallsLag floor clock xs ks → CallLags floor (clock k.number) x k → CallsLag floor clock (xs ++ x ∷ []) (ks ++ k ∷ [])
lag_append floor clock [] [] x k h one = (one, tt)
lag_append floor clock [] (j ∷ ks) x k h one = absurd h
lag_append floor clock (y ∷ xs) [] x k h one = absurd h
lag_append floor clock (y ∷ xs) (j ∷ ks) x k h one = (h.0, lag_append floor clock xs ks x k h.1 one)

above_append : (n m c : ℕ) (ns : List ℕ) → AreAbove n ns → AllByRecursion (λ x. x ≤ m) ns → n ≤ m → m < c → AreAbove n (ns ++ c ∷ [])
above_append n m c [] h most low next = (omega arith, tt)
above_append n m c (x ∷ ns) h most low next = (h.0, above_append x m c ns h.1 most.1 most.0 next)

more : (m : ℕ) (ns : List ℕ) → AllByRecursion (λ x. x ≤ m) ns → AllByRecursion (λ x. x ≤ m + 1) ns
more m [] h = tt
more m (x ∷ ns) h = (omega (arith, h.0), more m ns h.1)

spared : (now : Option ℕ) (c : ℕ) (ks : List Call) → AllByRecursion (OtherHasLeg now None) ks → AllByRecursion (OtherHasLeg now (Some c)) ks
spared now c [] h = tt
spared now c (k ∷ ks) h = ((λ other. h.0 refl), spared now c ks h.1)

-- the next number is above those of all calls that are kept
pub next_above : (settled : ℕ) (kept : kept_channel.Channel) (w : World) → StandsNow settled kept w → AreAbove 0 (map (λ k. k.number) kept.calls ++ (kept.drawn + 1) ∷ [])
next_above settled kept w s =
    subst (λ ns. AreAbove 0 (ns ++ (kept.drawn + 1) ∷ [])) (same_numbers (level settled kept.tick) (λ d. kept.tick) kept.calls w.calls s.calls)
    (subst (λ n. AreAbove 0 (numbers_of w.calls ++ (n + 1) ∷ [])) s.drawn
    (above_append 0 w.drawn (w.drawn + 1) (numbers_of w.calls) s.tidy.numbers s.tidy.below (omega arith) (omega arith)))

-- the vehicle heard in a call of the next number, in which nothing was sent yet
pub arrival_ready : (settled : ℕ) (kept moved : kept_channel.Channel) (w : World) (v : Vehicle)
    → StandsNow settled kept w
    → vehicle_call w.vehicle ≡ None
    → moved ≡ record kept { drawn = kept.drawn + 1; calls = moved.calls; vehicle = moved.vehicle }
    → moved.calls ≡ kept.calls ++ record { number = kept.drawn + 1; session = None; passed = kept.tick; up = []; down = [] } ∷ []
    → IvsStandsFor moved.vehicle v
    → IsReady kept.tick (level settled kept.tick) (λ d. kept.tick) moved (with_call w) v (with_call w).calls (Some (w.drawn + 1))
arrival_ready settled kept moved w v s out same calls stands =
    let call : Call = record { number = w.drawn + 1; session = None; up = []; down = [] } in
    let numbers : numbers_of (w.calls ++ call ∷ []) ≡ numbers_of w.calls ++ (w.drawn + 1) ∷ [] = map-append (λ k. k.number) w.calls (call ∷ []) in
    let passed : moved.passed ≡ kept.passed = ap (λ x. x.passed) same in
    let low : kept.tick ≤ kept.passed = s.from in
    let high : kept.passed ≤ kept.tick = s.passed in
    record {
      tick = s.tick ∙ sym (ap (λ x. x.tick) same);
      drawn = ap (λ n. n + 1) s.drawn ∙ sym (ap (λ x. x.drawn) same);
      up_flow = s.up_flow ∙ sym (ap (λ x. x.up_flow) same);
      down_flow = s.down_flow ∙ sym (ap (λ x. x.down_flow) same);
      passed = omega arith;
      from = omega arith;
      vehicle = vehicle_stands_now (kept.tick - moved.passed) moved.vehicle v (omega arith) stands;
      calls =
          subst (λ xs. CallsLag (level settled kept.tick) (λ d. kept.tick) xs (w.calls ++ call ∷ [])) (sym calls)
          (lag_append (level settled kept.tick) (λ d. kept.tick) kept.calls w.calls _ call s.calls
          (record {
            number = ap (λ n. n + 1) s.drawn;
            up = refl;
            down = refl;
            passed = omega arith;
            from = inl (omega arith);
            session = tt;
          }));
      numbers = subst (AreAbove 0) (sym numbers) (above_append 0 w.drawn (w.drawn + 1) (numbers_of w.calls) s.tidy.numbers s.tidy.below (omega arith) (omega arith));
      below = subst (AllByRecursion (λ n. n ≤ w.drawn + 1)) (sym numbers) (all_append (λ n. n ≤ w.drawn + 1) (numbers_of w.calls) (w.drawn + 1) (more w.drawn (numbers_of w.calls) s.tidy.below) (omega arith));
      others =
          all_append (OtherHasLeg (vehicle_call v) (Some (w.drawn + 1))) w.calls call
          (spared (vehicle_call v) (w.drawn + 1) w.calls (subst (λ o. AllByRecursion (OtherHasLeg (vehicle_call v) o) w.calls) out (legs_others (vehicle_call w.vehicle) (vehicle_call v) w.calls s.tidy.legs)))
          (λ other. let wrong : true ≡ false = sym (eq-eqb (w.drawn + 1) (w.drawn + 1) refl) ∙ other in cc);
      frames = all_append (CallInTime w.tick) w.calls call s.tidy.frames (record { up = record { rise = tt; past = tt }; down = record { rise = tt; past = tt } });
    }
