-- At which tick the entries of a step stand: an event line's at the world's tick, a unit tick's at the next one.
use Rattle.std.specs.Prelude.{◌≡◌, ◌≤◌, ℕ, zero, suc, ◌+◌, Bool, true, false, List, [], ◌∷◌, ◌++◌, Option, Some, None, map, if◌then◌else◌}
use Rattle.std.specs.List.{AllByRecursion}
use Rattle.std.proofs.Common.{arith, refl, ◌∙◌, subst, add-zero, sym}
use Rattle.link_frames.specs.Row.{Row}
use Rattle.link_frames.specs.declared.frame.End.TheVariants as «end»
use Rattle.link_frames.specs.declared.note.Note.{Note}
use Rattle.link_frames.specs.declared.note.Note.TheVariants as note
use Rattle.ivs_machine.specs.Vehicle.{Vehicle}
use Rattle.ivs_machine.specs.VehicleRows as vehicle
use Rattle.psap_machine.specs.Point.{Point}
use Rattle.psap_machine.specs.PointRows as point
use Rattle.trace_model.specs.History.{told}
use Rattle.trace_model.specs.declared.entry.Entry.{Entry}
use Rattle.trace_model.specs.declared.event.Event.{Event}
use Rattle.trace_model.specs.declared.event.Event.TheVariants as event
use Rattle.channel_sim.specs.World.{World, Step, Act, Hears, InCall, Session, Due, and_then, quiet_step, one_handed, session_of, session_acts, vehicle_is_in, point_is_in, vehicle_did, session_did, does, does_each, consequences, settled, performs, hands_up, hands_down, each, due_in, flows_up, flows_down, vehicle_passes, session_passes, sessions_pass, unit, units}
use Rattle.channel_sim.specs.Lines.{Deed, Does, HandsUp, HandsDown, Answers, CallsBack, with_call, deed, deeds_of, item_step, or_nothing, session_resets, step}

abbrev pub AllAt : ℕ → List Entry → Type 0
AllAt t entries = AllByRecursion (λ x. x.tick ≡ t) entries

-- all entries of a step stand at this tick, and so does the world behind it
pub record IsAt (t : ℕ) (s : Step) : Type 0 where
  pub entries : AllAt t s.entries
  pub world : s.world.tick ≡ t

pub all_both : (P : Entry → Type 0) (xs ys : List Entry) → AllByRecursion P xs → AllByRecursion P ys
    → AllByRecursion P (xs ++ ys)
all_both P [] ys a b = b
all_both P (x ∷ xs) ys a b = (a.0, all_both P xs ys a.1 b)

told_at : (t : ℕ) (ns : List Note) → AllAt t (told t ns)
told_at t [] = tt
told_at t (n ∷ ns) = (refl, told_at t ns)

then_at : (t : ℕ) (s : Step) (f : World → Step) → IsAt t s → ((w : World) → IsAt w.tick (f w)) → IsAt t (and_then s f)
then_at t s f a stays =
    record {
      entries =
          all_both _ s.entries (f s.world).entries a.entries
          (subst (λ (u : ℕ). AllAt u (f s.world).entries) a.world (stays s.world).entries);
      world = (stays s.world).world ∙ a.world;
    }

where_so : (b : Bool) (w : World) (s : Step) → IsAt w.tick s → IsAt w.tick (if b then s else quiet_step w)
where_so true w s h = h
where_so false w s h = record { entries = tt; world = refl }

session_at : (c : ℕ) (w : World) (row : Point → Row Point) (o : Option Point) → IsAt w.tick (session_acts c w row o)
session_at c w row None = record { entries = tt; world = refl }
session_at c w row (Some s) = record { entries = told_at w.tick (row s).items; world = refl }

does_at : (a : Act) (w : World) → IsAt w.tick (does a w)
does_at (Hears e) w = record { entries = told_at w.tick (vehicle.vehicle_row w.vehicle e).items; world = refl }
does_at (InCall c e) w =
    where_so (vehicle_is_in c w) w (vehicle_did w (vehicle.vehicle_row w.vehicle e))
    (record { entries = told_at w.tick (vehicle.vehicle_row w.vehicle e).items; world = refl })
does_at (Session c e) w = session_at c w (λ s. point.point_row s e) (session_of c w.calls)

acts_at : (acts : List Act) (w : World) → IsAt w.tick (does_each acts w)
acts_at [] w = record { entries = tt; world = refl }
acts_at (a ∷ acts) w = then_at w.tick (does a w) (does_each acts) (does_at a w) (acts_at acts)

settled_at : (t : ℕ) (s : Step) → IsAt t s → IsAt t (settled s)
settled_at t s h = then_at t s (does_each (consequences s.entries)) h (acts_at (consequences s.entries))

performs_at : (a : Act) (w : World) → IsAt w.tick (performs a w)
performs_at a w = settled_at w.tick (does a w) (does_at a w)

handed_at : (t : ℕ) (s : Step) → IsAt t s → IsAt t (one_handed s)
handed_at t s h = record { entries = h.entries; world = h.world }

up_at : (d : Due) (w : World) → IsAt w.tick (hands_up d w)
up_at d w =
    let s : Step = performs (Session d.call (point.Arrives d.frame)) w in
    where_so (point_is_in d.call w) w (one_handed s)
    (handed_at w.tick s (performs_at (Session d.call (point.Arrives d.frame)) w))

down_at : (d : Due) (w : World) → IsAt w.tick (hands_down d w)
down_at d w =
    let s : Step = performs (InCall d.call (vehicle.Arrives d.frame)) w in
    where_so (vehicle_is_in d.call w) w (one_handed s)
    (handed_at w.tick s (performs_at (InCall d.call (vehicle.Arrives d.frame)) w))

each_at : {A : Type 0} (f : A → World → Step) → ((a : A) (w : World) → IsAt w.tick (f a w))
    → (l : List A) (w : World) → IsAt w.tick (each f l w)
each_at f one [] w = record { entries = tt; world = refl }
each_at f one (a ∷ more) w = then_at w.tick (f a w) (each f more) (one a w) (each_at f one more)

passes_at : (c : ℕ) (w : World) → IsAt w.tick (session_passes c w)
passes_at c w =
    settled_at w.tick (session_acts c w point.unit_row (session_of c w.calls))
    (session_at c w point.unit_row (session_of c w.calls))

vehicle_at : (w : World) → IsAt w.tick (vehicle_passes w)
vehicle_at w =
    settled_at w.tick (vehicle_did w (vehicle.unit_row w.vehicle))
    (record { entries = told_at w.tick (vehicle.unit_row w.vehicle).items; world = refl })

-- a unit tick's entries stand at the next tick
pub unit_at : (w : World) → IsAt (w.tick + 1) (unit w)
unit_at w =
    let u : World = record w { tick = w.tick + 1 } in
    then_at (w.tick + 1) (and_then (and_then (vehicle_passes u) sessions_pass) flows_up) flows_down
    (then_at (w.tick + 1) (and_then (vehicle_passes u) sessions_pass) flows_up
    (then_at (w.tick + 1) (vehicle_passes u) sessions_pass (vehicle_at u)
    (λ v. each_at session_passes passes_at (map (λ k. k.number) v.calls) v))
    (λ v. each_at hands_up up_at (due_in (λ k. k.up) v.up_flow v.tick v.calls) v))
    (λ v. each_at hands_down down_at (due_in (λ k. k.down) v.down_flow v.tick v.calls) v)

from_at : (t : ℕ) (xs : List Entry) → AllAt t xs → AllByRecursion (λ x. t ≤ x.tick) xs
from_at t [] h = tt
from_at t (x ∷ xs) h = (omega (arith, h.0), from_at t xs h.1)

lower : (s t : ℕ) (xs : List Entry) → s ≤ t → AllByRecursion (λ x. t ≤ x.tick) xs
    → AllByRecursion (λ x. s ≤ x.tick) xs
lower s t [] le h = tt
lower s t (x ∷ xs) le h = (omega (arith, le, h.0), lower s t xs le h.1)

-- entries of unit ticks stand behind the world's tick
pub units_from : (n : ℕ) (w : World) → AllByRecursion (λ x. w.tick + 1 ≤ x.tick) (units n w).entries
units_from zero w = tt
units_from (suc n) w =
    let u = unit_at w in
    all_both _ (unit w).entries (units n (unit w).world).entries (from_at (w.tick + 1) (unit w).entries u.entries)
    (lower (w.tick + 1) ((unit w).world.tick + 1) (units n (unit w).world).entries (omega (arith, u.world))
    (units_from n (unit w).world))

pub units_tick : (n : ℕ) (w : World) → (units n w).world.tick ≡ w.tick + n
units_tick zero w = sym (add-zero w.tick)
units_tick (suc n) w =
    let u = unit_at w in
    let more = units_tick n (unit w).world in
    omega (arith, u.world, more)

deed_at : (d : Deed) (w : World) → IsAt w.tick (deed d w)
deed_at (Does a) w = performs_at a w
deed_at (HandsUp d) w = up_at d w
deed_at (HandsDown d) w = down_at d w
deed_at Answers w =
    let v : Row Vehicle = vehicle.vehicle_row w.vehicle (vehicle.Answered (w.drawn + 1)) in
    then_at w.tick (vehicle_did (with_call w) v) (λ u. session_did (w.drawn + 1) u (point.arriving (w.drawn + 1)))
    (record { entries = told_at w.tick v.items; world = refl })
    (λ u. record { entries = told_at u.tick (point.arriving (w.drawn + 1)).items; world = refl })
deed_at CallsBack w =
    let v : Row Vehicle = vehicle.vehicle_row w.vehicle (vehicle.Incoming (w.drawn + 1)) in
    then_at w.tick (vehicle_did (with_call w) v) (λ u. session_did (w.drawn + 1) u (point.called (w.drawn + 1)))
    (record { entries = told_at w.tick v.items; world = refl })
    (λ u. record { entries = told_at u.tick (point.called (w.drawn + 1)).items; world = refl })

deeds_at : (ds : List Deed) (w : World) → IsAt w.tick (or_nothing ds w)
deeds_at [] w = record { entries = (refl, tt); world = refl }
deeds_at (d ∷ ds) w = each_at deed deed_at (d ∷ ds) w

-- no ticks elapse in this event
abbrev pub IsTimeless : Event → Type 0
IsTimeless (event.Tick n) = ⊥
IsTimeless _ = Unit {0}

pub step_at : (w : World) (e : Event) → IsTimeless e → IsAt w.tick (step w e)
step_at w (event.Tick n) h = absurd h
step_at w (event.Flow true delay) h = record { entries = tt; world = refl }
step_at w (event.Flow false delay) h = record { entries = tt; world = refl }
step_at w (event.Reset «end».Point) h =
    then_at w.tick (each session_resets (map (λ k. k.number) w.calls) w) (item_step (note.Restart «end».Point))
    (each_at session_resets (λ c u. performs_at (Session c point.Reset) u) (map (λ k. k.number) w.calls) w)
    (λ u. record { entries = (refl, tt); world = refl })
step_at w (event.Reset «end».Vehicle) h = deeds_at (deeds_of w (event.Reset «end».Vehicle)) w
step_at w (event.Trigger cause) h = deeds_at (deeds_of w (event.Trigger cause)) w
step_at w event.Cancel h = deeds_at (deeds_of w event.Cancel) w
step_at w (event.Net up) h = deeds_at (deeds_of w (event.Net up)) w
step_at w event.Answer h = deeds_at (deeds_of w event.Answer) w
step_at w event.Fail h = deeds_at (deeds_of w event.Fail) w
step_at w event.Callback h = deeds_at (deeds_of w event.Callback) w
step_at w event.Sleep h = deeds_at (deeds_of w event.Sleep) w
step_at w event.FaultVehicle h = deeds_at (deeds_of w event.FaultVehicle) w
step_at w (event.FaultPoint c) h = deeds_at (deeds_of w (event.FaultPoint c)) w
step_at w (event.Damaged c) h = deeds_at (deeds_of w (event.Damaged c)) w
step_at w (event.Request c) h = deeds_at (deeds_of w (event.Request c)) w
step_at w (event.Clear c) h = deeds_at (deeds_of w (event.Clear c)) w
step_at w (event.Hangup c) h = deeds_at (deeds_of w (event.Hangup c)) w
step_at w event.DropVehicle h = deeds_at (deeds_of w event.DropVehicle) w
step_at w (event.DropPoint c) h = deeds_at (deeds_of w (event.DropPoint c)) w
step_at w (event.DropBoth c) h = deeds_at (deeds_of w (event.DropBoth c)) w
step_at w (event.Deliver up c k) h = deeds_at (deeds_of w (event.Deliver up c k)) w
