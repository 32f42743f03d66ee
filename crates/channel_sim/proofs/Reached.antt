-- How far one event line goes: at most one more call is drawn, and at most its ticks elapse.
use Rattle.std.proofs.Common.{◌≡◌, ◌≤◌, ℕ, Bool, true, false, List, [], ◌∷◌, ◌+◌, ◌-◌, ◌++◌, Option, Some, None, slice_get, map, zero, suc, if◌then◌else◌, arith, refl}
use Rattle.link_frames.specs.Row.{Row}
use Rattle.link_frames.specs.declared.frame.End.TheVariants as «end»
use Rattle.ivs_machine.specs.Vehicle.{vehicle_call, is_dialling, is_reachable}
use Rattle.ivs_machine.specs.VehicleRows as vehicle
use Rattle.link_frames.specs.declared.note.Why.TheVariants as why
use Rattle.psap_machine.specs.Point.{Point}
use Rattle.psap_machine.specs.PointRows as point
use Rattle.trace_model.specs.History.{Sent}
use Rattle.trace_model.specs.declared.event.Event.{Event}
use Rattle.trace_model.specs.declared.event.Event.TheVariants as event
use Rattle.channel_sim.specs.World.{World, Step, Act, Hears, InCall, Session, Due, quiet_step, session_of, vehicle_is_in, point_is_in, session_acts, does, does_each, consequences, settled, performs, hands_up, hands_down, each, due_in, unit, units, call_of, session_passes, sessions_pass, vehicle_passes, vehicle_did, flows_up}
use Rattle.channel_sim.specs.WorldStands.{TicksIn}
use Rattle.channel_sim.specs.Lines.{Deed, Does, HandsUp, HandsDown, Answers, CallsBack, deed, when, in_its_call, hands_one, sent_up, sent_down, or_nothing, session_resets, step}

-- so many more calls are drawn at most, and so many ticks elapse
pub record Reaches (more late : ℕ) (w u : World) : Type 0 where
  pub drawn : u.drawn ≤ w.drawn + more
  pub tick : u.tick ≤ w.tick + late

here : (more late : ℕ) (w : World) → Reaches more late w w
here more late w = record { drawn = omega arith; tick = omega arith }

both : (m n late later : ℕ) (w u v : World) → Reaches m late w u → Reaches n later u v → Reaches (m + n) (late + later) w v
both m n late later w u v a b = record {
  drawn = omega (arith, a.drawn, b.drawn);
  tick = omega (arith, a.tick, b.tick);
}

same : (w u : World) → u.drawn ≡ w.drawn → u.tick ≡ w.tick → Reaches 0 0 w u
same w u drawn tick = record { drawn = omega (arith, drawn); tick = omega (arith, tick) }

where_so : (b : Bool) (w : World) (s : Step) → Reaches 0 0 w s.world → Reaches 0 0 w (if b then s else quiet_step w).world
where_so true w s h = h
where_so false w s h = here 0 0 w

session_reaches : (c : ℕ) (w : World) (row : Point → Row Point) (o : Option Point) → Reaches 0 0 w (session_acts c w row o).world
session_reaches c w row None = here 0 0 w
session_reaches c w row (Some s) = same w (session_acts c w row (Some s)).world refl refl

does_reaches : (a : Act) (w : World) → Reaches 0 0 w (does a w).world
does_reaches (Hears e) w = same w (does (Hears e) w).world refl refl
does_reaches (InCall c e) w =
    let s : Step = does (Hears e) w in
    where_so (vehicle_is_in c w) w s (same w s.world refl refl)
does_reaches (Session c e) w = session_reaches c w (λ s. point.point_row s e) (session_of c w.calls)

each_reaches : (acts : List Act) (w : World) → Reaches 0 0 w (does_each acts w).world
each_reaches [] w = here 0 0 w
each_reaches (a ∷ acts) w =
    let u : World = (does a w).world in
    both 0 0 0 0 w u (does_each acts u).world (does_reaches a w) (each_reaches acts u)

settled_reaches : (w : World) (s : Step) → Reaches 0 0 w s.world → Reaches 0 0 w (settled s).world
settled_reaches w s h =
    both 0 0 0 0 w s.world (settled s).world h (each_reaches (consequences s.entries) s.world)

performs_reaches : (a : Act) (w : World) → Reaches 0 0 w (performs a w).world
performs_reaches a w = settled_reaches w (does a w) (does_reaches a w)

up_reaches : (d : Due) (w : World) → Reaches 0 0 w (hands_up d w).world
up_reaches d w =
    at_test (point_is_in d.call w)
  where
    at_test : (b : Bool) → Reaches 0 0 w (if b then record (performs (Session d.call (point.Arrives d.frame)) w) { handed = (performs (Session d.call (point.Arrives d.frame)) w).handed + 1 } else quiet_step w).world
    at_test true = performs_reaches (Session d.call (point.Arrives d.frame)) w
    at_test false = here 0 0 w

down_reaches : (d : Due) (w : World) → Reaches 0 0 w (hands_down d w).world
down_reaches d w =
    at_test (vehicle_is_in d.call w)
  where
    at_test : (b : Bool) → Reaches 0 0 w (if b then record (performs (InCall d.call (vehicle.Arrives d.frame)) w) { handed = (performs (InCall d.call (vehicle.Arrives d.frame)) w).handed + 1 } else quiet_step w).world
    at_test true = performs_reaches (InCall d.call (vehicle.Arrives d.frame)) w
    at_test false = here 0 0 w

all_reach : {A : Type 0} → (f : A → World → Step) → ((a : A) (w : World) → Reaches 0 0 w (f a w).world)
    → (l : List A) (w : World) → Reaches 0 0 w (each f l w).world
all_reach f one [] w = here 0 0 w
all_reach f one (a ∷ more) w =
    let u : World = (f a w).world in
    both 0 0 0 0 w u (each f more u).world (one a w) (all_reach f one more u)

passes_reaches : (c : ℕ) (w : World) → Reaches 0 0 w (session_passes c w).world
passes_reaches c w =
    let s : Step = session_acts c w point.unit_row (session_of c w.calls) in
    settled_reaches w s (session_reaches c w point.unit_row (session_of c w.calls))

unit_reaches : (w : World) → Reaches 0 1 w (unit w).world
unit_reaches w =
    let u : World = record w { tick = w.tick + 1 } in
    let a : World = (vehicle_passes u).world in
    let b : World = (sessions_pass a).world in
    let d : World = (flows_up b).world in
    both 0 0 1 0 w u (unit w).world (record { drawn = omega arith; tick = omega arith })
    (both 0 0 0 0 u a (unit w).world (settled_reaches u (vehicle_did u (vehicle.unit_row u.vehicle)) (same u (vehicle_did u (vehicle.unit_row u.vehicle)).world refl refl))
    (both 0 0 0 0 a b (unit w).world (all_reach session_passes passes_reaches (map (λ k. k.number) a.calls) a)
    (both 0 0 0 0 b d (unit w).world (all_reach hands_up up_reaches (due_in (λ k. k.up) b.up_flow b.tick b.calls) b)
    (all_reach hands_down down_reaches (due_in (λ k. k.down) d.down_flow d.tick d.calls) d))))

units_reach : (n : ℕ) (w : World) → Reaches 0 n w (units n w).world
units_reach zero w = here 0 0 w
units_reach (suc n) w =
    let u : World = (unit w).world in
    let h : Reaches 0 n u (units n u).world = units_reach n u in
    let g : Reaches 0 1 w u = unit_reaches w in
    record { drawn = omega (arith, h.drawn, g.drawn); tick = omega (arith, h.tick, g.tick) }

one_more : (w u : World) → Reaches 0 0 w u → Reaches 1 0 w u
one_more w u h = record { drawn = omega (arith, h.drawn); tick = h.tick }

deed_reaches : (d : Deed) (w : World) → Reaches 1 0 w (deed d w).world
deed_reaches (Does a) w = one_more w (performs a w).world (performs_reaches a w)
deed_reaches (HandsUp d) w = one_more w (hands_up d w).world (up_reaches d w)
deed_reaches (HandsDown d) w = one_more w (hands_down d w).world (down_reaches d w)
deed_reaches Answers w = record { drawn = omega arith; tick = omega arith }
deed_reaches CallsBack w = record { drawn = omega arith; tick = omega arith }

module _ (w : World) where
  of_when : (b : Bool) (d : Deed) → Reaches 1 0 w (or_nothing (when b d) w).world
  of_when true d = deed_reaches d w
  of_when false d = here 1 0 w

  of_its_call : (o : Option ℕ) (e : vehicle.Heard) → Reaches 1 0 w (or_nothing (in_its_call o e) w).world
  of_its_call None e = here 1 0 w
  of_its_call (Some c) e = deed_reaches (Does (InCall c e)) w

  of_two : (a b : Bool) (d e : Act) → Reaches 1 0 w (or_nothing (when a (Does d) ++ when b (Does e)) w).world
  of_two true true d e =
      let u : World = (performs d w).world in
      one_more w (performs e u).world (both 0 0 0 0 w u (performs e u).world (performs_reaches d w) (performs_reaches e u))
  of_two true false d e = deed_reaches (Does d) w
  of_two false b d e = of_when b (Does e)

  of_handed : (b : Bool) (hands : Due → Deed) (c : ℕ) (o : Option Sent) →
      Reaches 1 0 w (or_nothing (if b then hands_one hands c o else []) w).world
  of_handed true hands c None = here 1 0 w
  of_handed true hands c (Some s) = deed_reaches (hands (record { call = c; frame = s.frame })) w
  of_handed false hands c o = here 1 0 w

later : (w : World) (late : ℕ) {u : World} → Reaches 1 0 w u → Reaches 1 late w u
later w late h = record { drawn = h.drawn; tick = omega (arith, h.tick) }

-- A line of elapsed ticks has so many of them at most; no other line has one.
pub step_reaches : (w : World) (e : Event) → (late : ℕ) → TicksIn e (λ n. n ≤ late) → Reaches 1 late w (step w e).world
step_reaches w (event.Tick n) late h =
    let r : Reaches 0 n w (units n w).world = units_reach n w in
    record { drawn = omega (arith, r.drawn); tick = omega (arith, r.tick, h) }
step_reaches w (event.Flow true delay) late h = record { drawn = omega arith; tick = omega arith }
step_reaches w (event.Flow false delay) late h = record { drawn = omega arith; tick = omega arith }
step_reaches w (event.Reset «end».Point) late h =
    let cs : List ℕ = map (λ k. k.number) w.calls in
    let r : Reaches 0 0 w (each session_resets cs w).world =
    all_reach session_resets (λ c u. performs_reaches (Session c point.Reset) u) cs w in
    record { drawn = omega (arith, r.drawn); tick = omega (arith, r.tick) }
step_reaches w (event.Reset «end».Vehicle) late h = later w late (deed_reaches (Does (Hears vehicle.Reset)) w)
step_reaches w (event.Trigger cause) late h = later w late (deed_reaches (Does (Hears (vehicle.Trigger cause))) w)
step_reaches w event.Cancel late h = later w late (deed_reaches (Does (Hears vehicle.Cancel)) w)
step_reaches w (event.Net up) late h = later w late (deed_reaches (Does (Hears (vehicle.Net up))) w)
step_reaches w event.Answer late h = later w late (of_when w (is_dialling w.vehicle) Answers)
step_reaches w event.Fail late h = later w late (deed_reaches (Does (Hears vehicle.Failed)) w)
step_reaches w event.Callback late h = later w late (of_when w (is_reachable w.vehicle) CallsBack)
step_reaches w event.Sleep late h = later w late (deed_reaches (Does (Hears vehicle.Sleep)) w)
step_reaches w event.FaultVehicle late h = later w late (deed_reaches (Does (Hears vehicle.Fault)) w)
step_reaches w (event.FaultPoint c) late h = later w late (of_when w (point_is_in c w) (Does (Session c point.Fault)))
step_reaches w (event.Damaged c) late h = later w late (of_when w (point_is_in c w) (Does (Session c point.Damaged)))
step_reaches w (event.Request c) late h = later w late (of_when w (point_is_in c w) (Does (Session c point.Request)))
step_reaches w (event.Clear c) late h = later w late (of_when w (point_is_in c w) (Does (Session c point.Clear)))
step_reaches w (event.Hangup c) late h = later w late (of_when w (point_is_in c w) (Does (Session c point.Hangup)))
step_reaches w event.DropVehicle late h = later w late (of_its_call w (vehicle_call w.vehicle) vehicle.Lost)
step_reaches w (event.DropPoint c) late h = later w late (of_when w (point_is_in c w) (Does (Session c (point.Ended why.Lost))))
step_reaches w (event.DropBoth c) late h =
    later w late (of_two w (vehicle_is_in c w) (point_is_in c w) (InCall c vehicle.Lost) (Session c (point.Ended why.Lost)))
step_reaches w (event.Deliver true c k) late h =
    later w late (of_handed w (point_is_in c w) HandsUp c (slice_get (sent_up (call_of c w.calls)) (k - 1)))
step_reaches w (event.Deliver false c k) late h =
    later w late (of_handed w (vehicle_is_in c w) HandsDown c (slice_get (sent_down (call_of c w.calls)) (k - 1)))

-- what holds of every number of elapsed ticks that the line may have
pub ticks_in : {P : ℕ → Type 0} → (e : Event) → ((n : ℕ) → e ≡ event.Tick n → P n) → TicksIn e P
ticks_in (event.Tick n) all = all n refl
ticks_in (event.Reset e) all = tt
ticks_in (event.Trigger cause) all = tt
ticks_in event.Cancel all = tt
ticks_in (event.Net up) all = tt
ticks_in event.Answer all = tt
ticks_in event.Fail all = tt
ticks_in event.Callback all = tt
ticks_in event.Sleep all = tt
ticks_in event.FaultVehicle all = tt
ticks_in (event.FaultPoint c) all = tt
ticks_in (event.Damaged c) all = tt
ticks_in (event.Request c) all = tt
ticks_in (event.Clear c) all = tt
ticks_in (event.Hangup c) all = tt
ticks_in event.DropVehicle all = tt
ticks_in (event.DropPoint c) all = tt
ticks_in (event.DropBoth c) all = tt
ticks_in (event.Deliver up c k) all = tt
ticks_in (event.Flow up delay) all = tt
