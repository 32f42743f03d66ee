-- The unit tick of the vehicle and of the sessions, by what is kept of them.
use Rattle.std.proofs.Common.{◌≡◌, ℕ, zero, suc, ◌+◌, ◌-◌, ◌<◌, ◌≤◌, ◌==◌, ◌||◌, if◌then◌else◌, Bool, true, false, Option, Some, None, IfSome, List, [], ◌∷◌, length, get_or, map, refl, ap, sym, ◌∙◌, subst, arith}
use Rattle.std.specs.List.{AllByRecursion}
use Rattle.std.specs.Option.{is_some}
use Rattle.std.proofs.lemmas.Bool.{eq-eqb, ne_eqb}
use Rattle.link_frames.specs.declared.note.Note.{Note}
use Rattle.link_frames.specs.Row.{Row}
use Rattle.ivs_machine.specs.declared.vehicle.Ivs.{Ivs}
use Rattle.ivs_machine.specs.IvsStands.{IvsStandsFor}
use Rattle.ivs_machine.specs.Vehicle.{Vehicle, vehicle_call}
use Rattle.ivs_machine.specs.VehicleRows as vehicle
use Rattle.psap_machine.specs.Point.{Point}
use Rattle.channel_sim.specs.declared.calls.call.Call as kept_call
use Rattle.channel_sim.specs.declared.channel.Channel as kept_channel
use Rattle.channel_sim.specs.World.{Call, World, Step, quiet_step, vehicle_passes, settled, session_acts, session_of, seated, did, carries, with_legs}
use Rattle.trace_fit.specs.Seats.{left_by}
use Rattle.channel_sim.specs.inner.Acts.{SessionDid, IsReady, OtherHasLeg, seat_items, seat_after}
use Rattle.channel_sim.specs.Lag.{LeastPassed, AreSameBut, VehicleLags, CallLags, CallsLag, StandsAt, waits, clock_of}
use Rattle.channel_sim.specs.Tidy.{AreAbove, HasLeg, numbers_of}
use Rattle.channel_sim.proofs.ActLemmas.{did_done}
use Rattle.channel_sim.proofs.CallsLemmas.{carries_none}
use Rattle.channel_sim.proofs.EndJump.{vehicle_later, vehicle_again, vehicle_acts}
use Rattle.channel_sim.proofs.Jump.{quiet_vehicle, call_stays}
use Rattle.channel_sim.proofs.LagLemmas.{as_sum}
use Rattle.channel_sim.proofs.PlaceLemmas.{above_other}
use Rattle.channel_sim.proofs.SessionLemmas.{session_ready, nobody_did}
use Rattle.channel_sim.proofs.TidyLemmas.{with_legs_kept}
use Rattle.channel_sim.proofs.VehicleLemmas.{vehicle_stands_now, legs_others}

or_true : (a : Bool) → (a || true) ≡ true
or_true true = refl
or_true false = refl

-- a session that is there still is a leg
seated_legs : (ic : Option ℕ) (c : ℕ) (o : Option Point) (ks : List Call) → AllByRecursion (HasLeg ic) ks → is_some o ≡ true → AllByRecursion (HasLeg ic) (seated c o ks)
seated_legs ic c o [] h there = tt
seated_legs ic c o (k ∷ ks) h there = at (k.number == c) (seated_legs ic c o ks h.1 there)
  where
    has : (a : Bool) → (a || is_some o) ≡ true
    has a = ap (λ z. a || z) there ∙ or_true a

    at : (b : Bool) → AllByRecursion (HasLeg ic) (seated c o ks) → AllByRecursion (HasLeg ic) (if b then record k { session = o } ∷ ks else k ∷ seated c o ks)
    at true rest = (has _, h.1)
    at false rest = (h.0, rest)

-- a session that isn't due gives nothing
pub rests_step : (ahead : ℕ) (floor : LeastPassed) (old new : ℕ → ℕ) (kept moved : kept_channel.Channel) (w : World) (c : ℕ) (done : Bool) (given : List Note) (row : Point → Row Point)
    → StandsAt ahead floor old kept w
    → moved ≡ record kept { calls = moved.calls }
    → done ≡ false
    → given ≡ []
    → SessionDid floor new done given moved.calls c row w.calls
    → ((settled (session_acts c w row (session_of c w.calls))).entries ≡ []) × StandsAt ahead floor new moved (settled (session_acts c w row (session_of c w.calls))).world
rests_step ahead floor old new kept moved w c done given row s same idle none h = at (session_of c w.calls) refl
  where
    at : (o : Option Point) → session_of c w.calls ≡ o → ((settled (session_acts c w row o)).entries ≡ []) × StandsAt ahead floor new moved (settled (session_acts c w row o)).world
    at None e = (refl, nobody_did ahead floor old new kept moved w c done given row s same (ap is_some e) h)
    at (Some p) e =
        let kp = seated c (left_by (row p).new) w.calls in
        let calls : CallsLag floor new moved.calls kp = subst (λ o. CallsLag floor new moved.calls (seated c (seat_after row o) w.calls)) e h.stands in
        let ready : IsReady ahead floor new moved w w.vehicle kp (Some c) = subst (λ o. IsReady ahead floor new moved w w.vehicle (seated c (seat_after row o) w.calls) (Some c)) e (session_ready ahead floor old new kept moved w c done given row s same h) in
        let there : is_some (left_by (row p).new) ≡ true = ap (λ o. is_some (seat_after row o)) (sym e) ∙ h.rests idle ∙ ap is_some e in
        let stay : with_legs (vehicle_call w.vehicle) (map (carries []) kp) ≡ kp = ap (with_legs (vehicle_call w.vehicle)) (carries_none kp) ∙ with_legs_kept (vehicle_call w.vehicle) kp (seated_legs (vehicle_call w.vehicle) c (left_by (row p).new) w.calls s.tidy.legs there) in
        let nothing : [] ≡ (row p).items = sym none ∙ h.items ∙ ap (seat_items row) e in
        subst (λ items. ((settled (did w items w.vehicle kp)).entries ≡ []) × StandsAt ahead floor new moved (settled (did w items w.vehicle kp)).world) nothing
        (refl, did_done ahead floor new moved moved w w.vehicle kp (Some c) [] ready refl (subst (CallsLag floor new moved.calls) (sym stay) calls))

-- The vehicle's unit tick.

pub vehicle_rests : (before tick passed : ℕ) (kept : Ivs) (v : Vehicle) → VehicleLags (before - passed) kept v → passed ≤ before → before + 1 ≡ tick → ((u : Vehicle) → IvsStandsFor kept u → IfSome (vehicle.due_of u) (λ due. tick - passed < due)) → IfSome (vehicle.due_of v) (λ due. 1 < due) × VehicleLags (tick - passed) kept (vehicle.aged 1 v)
vehicle_rests before tick passed kept v h within next later =
    let sum : tick - passed ≡ (before - passed) + 1 = omega arith in
    let quiet : IfSome (vehicle.due_of h.was) (λ due. (before - passed) + 1 < due) = as_sum (before - passed) 1 (tick - passed) (vehicle.due_of h.was) sum (later h.was h.stands) in (
      subst (λ z. IfSome (vehicle.due_of z) (λ due. 1 < due)) (sym h.aged) (vehicle_later (before - passed) 1 h.was quiet),
      record {
        was = h.was;
        stands = h.stands;
        aged = ap (vehicle.aged 1) h.aged ∙ vehicle_again (before - passed) 1 h.was ∙ ap (λ n. vehicle.aged n h.was) (sym sum);
        quiet = later h.was h.stands;
      },
    )

pub vehicle_acts_now : (before passed due : ℕ) (old new : Ivs) (items : List Note) (v : Vehicle) (h : VehicleLags (before - passed) old v) → due ≤ (before - passed) + 1 → vehicle.due_of h.was ≡ Some due → items ≡ (vehicle.units due h.was).items → IvsStandsFor new (vehicle.units due h.was).new → (items ≡ (vehicle.unit_row v).items) × IvsStandsFor new (vehicle.unit_row v).new
vehicle_acts_now before passed due old new items v h least is gives stands =
    let quiet : (before - passed) < due = subst (λ o. IfSome o (λ d. (before - passed) < d)) is h.quiet in
    let e : due ≡ suc (before - passed) = omega arith in
    let same : vehicle.units due h.was ≡ vehicle.unit_row v = ap (λ n. vehicle.units n h.was) e ∙ vehicle_acts (before - passed) h.was h.quiet ∙ ap vehicle.unit_row (sym h.aged) in
    (gives ∙ ap (λ (r : Row Vehicle). r.items) same, subst (λ (r : Row Vehicle). IvsStandsFor new r.new) same stands)

-- The clocks of the sessions in the midst of a unit tick.

pub clock_first : (before n : ℕ) (ns : List ℕ) → clock_of before (n ∷ ns) n ≡ before
clock_first before n ns = ap (λ b. if b || waits n ns then before else before + 1) (eq-eqb n n refl)

pub not_waiting : (m c : ℕ) (ns : List ℕ) → AreAbove m ns → c ≤ m → waits c ns ≡ false
not_waiting m c [] h low = refl
not_waiting m c (x ∷ ns) h low =
    let above : c < x = omega (arith, h.0) in
    ap (λ b. b || waits c ns) (above_other x c above) ∙ not_waiting x c ns h.1 (omega arith)

pub clock_gone : (before n : ℕ) (ns : List ℕ) → AreAbove n ns → clock_of before ns n ≡ before + 1
clock_gone before n ns h = ap (λ b. if b then before else before + 1) (not_waiting n n ns h (omega arith))

pub clock_same : (before n : ℕ) (ns : List ℕ) → AreSameBut n (clock_of before (n ∷ ns)) (clock_of before ns)
clock_same before n ns d other = ap (λ b. if b || waits d ns then before else before + 1) (ne_eqb n d (λ e. other (sym e)))

still_waits : (c n : ℕ) (ns : List ℕ) → waits c ns ≡ true → waits c (n ∷ ns) ≡ true
still_waits c n ns h = ap (λ z. (n == c) || z) h ∙ or_true (n == c)

all_still : (n : ℕ) (ns cs : List ℕ) → AllByRecursion (λ c. waits c ns ≡ true) cs → AllByRecursion (λ c. waits c (n ∷ ns) ≡ true) cs
all_still n ns [] h = tt
all_still n ns (c ∷ cs) h = (still_waits c n ns h.0, all_still n ns cs h.1)

pub all_wait : (ns : List ℕ) → AllByRecursion (λ c. waits c ns ≡ true) ns
all_wait [] = tt
all_wait (n ∷ ns) = (ap (λ b. b || waits n ns) (eq-eqb n n refl), all_still n ns ns (all_wait ns))

begins : (floor : LeastPassed) (before : ℕ) (ns : List ℕ) (xs : List kept_call.Call) (ks : List Call) → AllByRecursion (λ c. waits c ns ≡ true) (numbers_of ks) → CallsLag floor (λ c. before) xs ks → CallsLag floor (clock_of before ns) xs ks
begins floor before ns [] [] all h = tt
begins floor before ns [] (k ∷ ks) all h = absurd h
begins floor before ns (x ∷ xs) [] all h = absurd h
begins floor before ns (x ∷ xs) (k ∷ ks) all h =
    (subst (λ z. CallLags floor z x k) (sym (ap (λ b. if b then before else before + 1) all.0)) h.0, begins floor before ns xs ks all.1 h.1)

pub clocks_begin : (floor : LeastPassed) (before : ℕ) (ns : List ℕ) (xs : List kept_call.Call) (ks : List Call) → ns ≡ numbers_of ks → CallsLag floor (λ c. before) xs ks → CallsLag floor (clock_of before ns) xs ks
clocks_begin floor before ns xs ks e h = subst (λ z. CallsLag floor (clock_of before z) xs ks) (sym e) (begins floor before (numbers_of ks) xs ks (all_wait (numbers_of ks)) h)

-- another clock for the sessions
pub reclocked : (ahead : ℕ) (floor : LeastPassed) (old new : ℕ → ℕ) (kept : kept_channel.Channel) (w : World) → StandsAt ahead floor old kept w → CallsLag floor new kept.calls w.calls → StandsAt ahead floor new kept w
reclocked ahead floor old new kept w s calls =
    record {
      tick = s.tick;
      drawn = s.drawn;
      up_flow = s.up_flow;
      down_flow = s.down_flow;
      passed = s.passed;
      from = s.from;
      vehicle = s.vehicle;
      calls = calls;
      tidy = s.tidy;
    }

-- the vehicle did this at its unit tick
pub vehicle_passed_ready : (floor : LeastPassed) (before : ℕ) (clock : ℕ → ℕ) (kept moved : kept_channel.Channel) (w : World) (v : Vehicle) (call : Option ℕ)
    → StandsAt before floor clock kept w
    → before + 1 ≡ kept.tick
    → moved ≡ record kept { vehicle = moved.vehicle; passed = moved.passed }
    → moved.passed ≡ kept.tick
    → IvsStandsFor moved.vehicle v
    → call ≡ vehicle_call w.vehicle
    → IsReady kept.tick floor clock moved w v w.calls call
vehicle_passed_ready floor before clock kept moved w v call s next same passed stands e =
    let low : floor.waking ≤ kept.passed = s.from in
    let high : kept.passed ≤ before = s.passed in
    record {
      tick = s.tick ∙ sym (ap (λ x. x.tick) same);
      drawn = s.drawn ∙ sym (ap (λ x. x.drawn) same);
      up_flow = s.up_flow ∙ sym (ap (λ x. x.up_flow) same);
      down_flow = s.down_flow ∙ sym (ap (λ x. x.down_flow) same);
      passed = omega arith;
      from = omega arith;
      vehicle = vehicle_stands_now (kept.tick - moved.passed) moved.vehicle v (omega arith) stands;
      calls = subst (λ x. CallsLag floor clock x.calls w.calls) (sym same) s.calls;
      numbers = s.tidy.numbers;
      below = s.tidy.below;
      others = subst (λ o. AllByRecursion (OtherHasLeg (vehicle_call v) o) w.calls) (sym e) (legs_others (vehicle_call w.vehicle) (vehicle_call v) w.calls s.tidy.legs);
      frames = s.tidy.frames;
    }

-- the vehicle did nothing at it
pub vehicle_rests_stand : (floor : LeastPassed) (before : ℕ) (clock : ℕ → ℕ) (kept : kept_channel.Channel) (w : World)
    → StandsAt before floor clock kept w
    → before + 1 ≡ kept.tick
    → IfSome (vehicle.due_of w.vehicle) (λ due. 1 < due)
    → VehicleLags (kept.tick - kept.passed) kept.vehicle (vehicle.aged 1 w.vehicle)
    → ((vehicle_passes w).entries ≡ []) × StandsAt kept.tick floor clock kept (vehicle_passes w).world
vehicle_rests_stand floor before clock kept w s next due lags =
    let quiet : vehicle_passes w ≡ quiet_step (record w { vehicle = vehicle.aged 1 w.vehicle }) = quiet_vehicle w due s.tidy.legs in
    subst (λ (z : Step). (z.entries ≡ []) × StandsAt kept.tick floor clock kept z.world) (sym quiet) (
      refl,
      record {
        tick = s.tick;
        drawn = s.drawn;
        up_flow = s.up_flow;
        down_flow = s.down_flow;
        passed = let high : kept.passed ≤ before = s.passed in omega arith;
        from = s.from;
        vehicle = lags;
        calls = s.calls;
        tidy =
            record {
              numbers = s.tidy.numbers;
              below = s.tidy.below;
              legs = subst (λ o. AllByRecursion (HasLeg o) w.calls) (sym (call_stays 1 w.vehicle)) s.tidy.legs;
              frames = s.tidy.frames;
            };
      },
    )

default_free : (ms : List ℕ) (j : ℕ) (d e : ℕ) → j < length ms → get_or ms j d ≡ get_or ms j e
default_free [] j d e h = absurd (omega arith)
default_free (m ∷ ms) zero d e h = refl
default_free (m ∷ ms) (suc j) d e h = default_free ms j d e (omega arith)

-- whatever stands for what isn't there
pub same_at : (ns : List ℕ) (i : ℕ) → i < length ns → get_or ns i 0 ≡ get_or ns i (get_or ns i 0)
same_at ns i h = default_free ns i 0 (get_or ns i 0) h
