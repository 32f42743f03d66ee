-- The run of the vehicle's end owes what it must.
use Rattle.std.specs.Prelude.{◌≡◌, ◌≤◌, ◌<◌, ℕ, Bool, true, false, List, [], ◌∷◌, ◌++◌, ◌&&◌, nat_lt, Option, Some, None, IfSome}
use Rattle.std.proofs.Common.{refl, sym, subst, inl, inr, arith}
use Rattle.std.proofs.lemmas.Bool.{ltb-true}
use Rattle.link_frames.specs.declared.frame.End.TheVariants as «end»
use Rattle.link_frames.specs.Owes.{OwesArrival}
use Rattle.link_frames.specs.Row.{Row}
use Rattle.msd_fit.specs.declared.facts.Facts.{Facts}
use Rattle.ivs_machine.specs.Vehicle.{Vehicle, Phase, Idle, Standby, Arming, InSeries, InCall, is_dialling, is_reachable}
use Rattle.ivs_machine.specs.VehicleKept.{IsKept}
use Rattle.ivs_machine.specs.VehicleOwes.{VehicleOwes, ArrivalOwes, StaysIn, seat_in, seat_of, number_in, number_of}
use Rattle.ivs_machine.specs.VehicleRows.{Trigger, Cancel, Net, Answered, Failed, Incoming, Sleep, Fault, Hangup, Lost, Arrives, Reset, vehicle_row, unit_row}
use Rattle.ivs_machine.proofs.VehicleOwed.{owes_event, owes_unit}
use Rattle.trace_model.specs.declared.event.Event.{Event}
use Rattle.trace_model.specs.declared.event.Event.TheVariants as event
use Rattle.line_input.specs.declared.reason.BadLine.{BadLine}
use Rattle.trace_fit.proofs.Seats.{number_as}
use Rattle.trace_fit.proofs.ComingUp.{dialling_out, dialling_comes, reachable_out, reachable_comes, owes_arrival}
use Rattle.link_parts.specs.declared.part.Part.{Part}
use Rattle.link_parts.specs.declared.part.Part.TheVariants.{Dials, Answers, Leaves, Rings, Takes, Carries}
use Rattle.link_parts.specs.Rounds.{Stop}
use Rattle.live_link.specs.Runs.{Beat, Line, Round, Steps, quiet, and_then, each}
use Rattle.live_link.specs.Turns.{Carried, Turn}
use Rattle.live_link.specs.VehicleLive.{LiveVehicle, first_live, does, hears, takes, gathers, is_in, hears_if, hears_part, hears_line, passes, round, run_from}
use Rattle.live_link.proofs.Owed.{Place, first_place, frame_of, OwedFrom, Events}
use Rattle.live_link.proofs.OwedRuns.{events_append, events_then, both}

abbrev pub place_of : LiveVehicle → Place
place_of s = record { clock = s.tick; call = number_of s.vehicle; seat = seat_of s.vehicle; high = s.taken }

pub record IsGood (s : LiveVehicle) : Type 0 where
  pub kept : IsKept s.vehicle
  pub low : number_of s.vehicle ≤ s.taken

pub record Went (s : LiveVehicle) (x : Steps LiveVehicle) : Type 0 where
  pub events : Events «end».Vehicle (place_of s) x.turns (place_of x.new)
  pub good : IsGood x.new

still : (s : LiveVehicle) → IsGood s → Went s (quiet s)
still s g = record { events = refl; good = g }

goes_on : (s : LiveVehicle) (first : Steps LiveVehicle) (second : LiveVehicle → Steps LiveVehicle) → Went s first →
    (IsGood first.new → Went first.new (second first.new)) → Went s (and_then first second)
goes_on s first second h k =
    record {
      events =
          events_append «end».Vehicle (place_of s) (place_of first.new) (place_of (second first.new).new) first.turns
          (second first.new).turns h.events (k h.good).events;
      good = (k h.good).good;
    }

-- Numbers.

stays_in : (c : ℕ) (v : Vehicle) (p : Phase) → StaysIn c v p → IfSome (seat_in v p) (λ k. number_in v p ≡ c)
stays_in c v (InCall stage) h = h
stays_in c v Idle h = tt
stays_in c v Standby h = tt
stays_in c v (Arming before) h = tt
stays_in c v (InSeries r) h = tt

low_in : (c n : ℕ) (v : Vehicle) → c ≤ n → (p : Phase) → StaysIn c v p → number_in v p ≤ n
low_in c n v low (InCall stage) h = subst (λ (z : ℕ). z ≤ n) (sym h) low
low_in c n v low Idle h = omega arith
low_in c n v low Standby h = omega arith
low_in c n v low (Arming before) h = omega arith
low_in c n v low (InSeries r) h = omega arith

-- Hearing.

heard_owed : (s : LiveVehicle) (came : Option Carried) (followed : Bool) (row : Row Vehicle)
    → IsGood s
    → IfSome came (λ k. k.call ≡ number_of s.vehicle)
    → VehicleOwes s.vehicle (frame_of came) (seat_of s.vehicle) row
    → Went s (does s came followed row)
heard_owed s came followed row g own h =
    let low : number_of row.new ≤ s.taken = low_in (number_of s.vehicle) s.taken row.new g.low row.new.phase h.call in
    record {
      events = (
        place_of (does s came followed row).new,
        inl (
            record {
              now = refl;
              clock = refl;
              stays =
                  record {
                    call = stays_in (number_of s.vehicle) row.new row.new.phase h.call;
                    high = refl;
                    low = low;
                  };
              came = own;
              owes = h.owes;
            }
            ),
        refl,
      );
      good = record { kept = h.kept; low = low };
    }

arrived : (s : LiveVehicle) (c : ℕ) (row : Row Vehicle)
    → seat_of s.vehicle ≡ None
    → s.taken < c
    → ArrivalOwes c row
    → Went s (does (takes c s) None false row)
arrived s c row out above h =
    record {
      events = (
        place_of (does (takes c s) None false row).new,
        inr (
            record {
              now = refl;
              clock = refl;
              out = out;
              above = subst (λ (z : ℕ). s.taken < z) (sym h.call) above;
              high = sym h.call;
              owes =
                  subst (λ (z : ℕ). OwesArrival «end».Vehicle z row.items (seat_of row.new)) (sym h.call) h.owes;
            }
            ),
        refl,
      );
      good = record { kept = h.kept; low = subst (λ (z : ℕ). z ≤ c) (sym h.call) (omega arith) };
    }

part_went : (s : LiveVehicle) (part : Part) → IsGood s → Went s (hears_part s part)
part_went s Dials g = still s g
part_went s (Takes c) g = still s g
part_went s (Answers c) g = at (is_dialling s.vehicle && nat_lt s.taken c) refl
  where
    at : (b : Bool) → (is_dialling s.vehicle && nat_lt s.taken c) ≡ b →
        Went s (hears_if b s (hears (takes c s) (Answered c)))
    at false h = still s g
    at true h =
        let two = both (is_dialling s.vehicle) (nat_lt s.taken c) h in
        arrived s c (vehicle_row s.vehicle (Answered c)) (dialling_out s.vehicle s.vehicle.phase two.0) (ltb-true s.taken c two.1)
        (owes_arrival c s.vehicle (Answered c) g.kept (dialling_comes c s.vehicle.network s.vehicle.phase two.0))
part_went s (Rings c) g = at (is_reachable s.vehicle && nat_lt s.taken c) refl
  where
    at : (b : Bool) → (is_reachable s.vehicle && nat_lt s.taken c) ≡ b →
        Went s (hears_if b s (and_then (hears (takes c s) (Incoming c)) (λ u. quiet (gathers (Takes c) u))))
    at false h = still s g
    at true h =
        let two = both (is_reachable s.vehicle) (nat_lt s.taken c) h in
        goes_on s (hears (takes c s) (Incoming c)) (λ u. quiet (gathers (Takes c) u))
        (arrived s c (vehicle_row s.vehicle (Incoming c)) (reachable_out s.vehicle s.vehicle.phase two.0) (ltb-true s.taken c two.1)
        (owes_arrival c s.vehicle (Incoming c) g.kept (reachable_comes c s.vehicle.network s.vehicle.phase two.0)))
        (λ good. record { events = refl; good = record { kept = good.kept; low = good.low } })
part_went s (Leaves c) g = at (is_in c s)
  where
    at : (b : Bool) → Went s (hears_if b s (does s None true (vehicle_row s.vehicle Hangup)))
    at false = still s g
    at true = heard_owed s None true (vehicle_row s.vehicle Hangup) g tt (owes_event Hangup s.vehicle g.kept)
part_went s (Carries c f) g = at (is_in c s) refl
  where
    at : (b : Bool) → is_in c s ≡ b →
        Went s (hears_if b s (does s (Some (record { call = c; frame = f })) false (vehicle_row s.vehicle (Arrives f))))
    at false h = still s g
    at true h =
        heard_owed s (Some (record { call = c; frame = f })) false (vehicle_row s.vehicle (Arrives f)) g
        (sym (number_as c s.vehicle h)) (owes_event (Arrives f) s.vehicle g.kept)

line_went : (s : LiveVehicle) (e : Event) → IsGood s → Went s (hears_line s e)
line_went s (event.Trigger cause) g =
    heard_owed s None false (vehicle_row s.vehicle (Trigger cause)) g tt (owes_event (Trigger cause) s.vehicle g.kept)
line_went s event.Cancel g =
    heard_owed s None false (vehicle_row s.vehicle Cancel) g tt (owes_event Cancel s.vehicle g.kept)
line_went s (event.Net up) g =
    heard_owed s None false (vehicle_row s.vehicle (Net up)) g tt (owes_event (Net up) s.vehicle g.kept)
line_went s event.Fail g =
    heard_owed s None false (vehicle_row s.vehicle Failed) g tt (owes_event Failed s.vehicle g.kept)
line_went s event.Sleep g =
    heard_owed s None false (vehicle_row s.vehicle Sleep) g tt (owes_event Sleep s.vehicle g.kept)
line_went s event.FaultVehicle g =
    heard_owed s None false (vehicle_row s.vehicle Fault) g tt (owes_event Fault s.vehicle g.kept)
line_went s event.DropVehicle g =
    heard_owed s None false (vehicle_row s.vehicle Lost) g tt (owes_event Lost s.vehicle g.kept)
line_went s (event.Reset «end».Vehicle) g =
    heard_owed s None false (vehicle_row s.vehicle Reset) g tt (owes_event Reset s.vehicle g.kept)
line_went s _ g = still s g

parts_went : (parts : List Part) (s : LiveVehicle) → IsGood s → Went s (each hears_part s parts)
parts_went [] s g = still s g
parts_went (part ∷ parts) s g =
    goes_on s (hears_part s part) (λ u. each hears_part u parts) (part_went s part g)
    (λ good. parts_went parts (hears_part s part).new good)

-- Rounds.

round_owed : (n : ℕ) (s : LiveVehicle) (parts : List Part) (ts : List Turn)
    → IsGood s
    → (IsGood (round s parts).new → OwedFrom «end».Vehicle n (place_of (round s parts).new) ts)
    → OwedFrom «end».Vehicle n (place_of s) ((round s parts).turns ++ ts)
round_owed n s parts ts g next =
    let h : VehicleOwes s.vehicle None _ (unit_row s.vehicle) = owes_unit s.vehicle g.kept in
    let u : LiveVehicle = (passes s).new in
    let low : number_of u.vehicle ≤ s.taken =
    low_in (number_of s.vehicle) s.taken u.vehicle g.low u.vehicle.phase h.call in
    let w : Went u (each hears_part u parts) = parts_went parts u (record { kept = h.kept; low = low }) in (
      place_of u,
      inr (
          record {
            now = refl;
            clock = refl;
            stays =
                record {
                  call = stays_in (number_of s.vehicle) u.vehicle u.vehicle.phase h.call;
                  high = refl;
                  low = low;
                };
            owes = h.owes;
          }
          ),
      events_then «end».Vehicle n (place_of u) (place_of (round s parts).new) (each hears_part u parts).turns ts w.events
          (next w.good),
    )

run_owed : (messages : List (List Part)) (stop : Stop) (refused : Option BadLine) (beats : List Beat) (s : LiveVehicle) →
    IsGood s → OwedFrom «end».Vehicle (run_from s messages stop refused beats).rounds (place_of s)
    (run_from s messages stop refused beats).turns
run_owed messages stop None [] s g = omega arith
run_owed messages stop (Some line) [] s g = omega arith
run_owed messages stop refused (Line e ∷ beats) s g =
    let w : Went s (hears_line s e) = line_went s e g in
    let u : LiveVehicle = (hears_line s e).new in
    events_then «end».Vehicle (run_from u messages stop refused beats).rounds (place_of s) (place_of u) (hears_line s e).turns
    (run_from u messages stop refused beats).turns w.events (run_owed messages stop refused beats u w.good)
run_owed [] stop refused (Round first ∷ beats) s g = omega arith
run_owed (parts ∷ messages) stop refused (Round first ∷ beats) s g =
    let u : LiveVehicle = (round s parts).new in
    round_owed (run_from u messages stop refused beats).rounds s parts (run_from u messages stop refused beats).turns g
    (λ good. run_owed messages stop refused beats u good)

pub first_owed : (known : Facts) (messages : List (List Part)) (stop : Stop) (refused : Option BadLine) (beats : List Beat) →
    OwedFrom «end».Vehicle (run_from (first_live known) messages stop refused beats).rounds first_place
    (run_from (first_live known) messages stop refused beats).turns
first_owed known messages stop refused beats =
    run_owed messages stop refused beats (first_live known)
    (record { kept = record { made = tt; phase = tt }; low = omega arith })
