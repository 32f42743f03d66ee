-- What a world does within a line leaves its tick, its flows and its last call number, and its calls in order.
use Rattle.std.proofs.Common.{ℕ, Bool, true, false, List, [], ◌∷◌, ◌==◌, ◌+◌, Option, Some, None, map, if◌then◌else◌, refl, ◌∙◌}
use Rattle.std.specs.List.{AllByRecursion}
use Rattle.link_frames.specs.declared.note.Note.{Note}
use Rattle.link_frames.specs.Row.{Row}
use Rattle.ivs_machine.specs.Vehicle.{Vehicle, vehicle_call}
use Rattle.ivs_machine.specs.VehicleRows as vehicle
use Rattle.psap_machine.specs.Point.{Point}
use Rattle.psap_machine.specs.PointRows as point
use Rattle.trace_model.specs.declared.entry.Entry.{Entry}
use Rattle.trace_model.specs.History.{told}
use Rattle.call_floor.specs.inner.Order.{AreInOrder}
use Rattle.channel_sim.specs.World.{Call, World, Step, Act, Hears, InCall, Session, Due, quiet_step, vehicle_is_in, session_of, point_is_in, seated, carries, did, vehicle_did, session_did, session_acts, does, does_each, consequences, settled, performs, hands_up, hands_down, each, vehicle_passes, session_passes, sessions_pass, flows_up, flows_down, due_in}
use Rattle.trace_fit.specs.Seats.{left_by}
use Rattle.channel_sim.proofs.CallsKept.{carried_order, seated_order, kept_order, kept_all}
use Rattle.call_floor.proofs.Apart.{IsStill, Still}

module _ (P : ℕ → Type 0) where
  pub still_here : (u : World) → IsStill P u u
  still_here u = record { tick = refl; drawn = refl; up_flow = refl; down_flow = refl; order = λ h. h; numbers = λ h. h }

  pub still_both : (u v w : World) → IsStill P u v → IsStill P v w → IsStill P u w
  still_both u v w a b =
      record {
        tick = b.tick ∙ a.tick;
        drawn = b.drawn ∙ a.drawn;
        up_flow = b.up_flow ∙ a.up_flow;
        down_flow = b.down_flow ∙ a.down_flow;
        order = λ h. b.order (a.order h);
        numbers = λ h. b.numbers (a.numbers h);
      }

  carried_all : (es : List Entry) (ks : List Call) → AllByRecursion (λ (k : Call). P k.number) ks → AllByRecursion (λ (k : Call). P k.number) (map (carries es) ks)
  carried_all es [] h = tt
  carried_all es (k ∷ ks) h = (h.0, carried_all es ks h.1)

  seated_all : (c : ℕ) (new : Option Point) (ks : List Call) → AllByRecursion (λ (k : Call). P k.number) ks → AllByRecursion (λ (k : Call). P k.number) (seated c new ks)
  seated_all c new [] h = tt
  seated_all c new (k ∷ ks) h = by (k.number == c) (seated_all c new ks h.1)
    where
      by : (b : Bool) → AllByRecursion (λ (k : Call). P k.number) (seated c new ks) → AllByRecursion (λ (k : Call). P k.number) (if b then record k { session = new } ∷ ks else k ∷ seated c new ks)
      by true further = (h.0, h.1)
      by false further = (h.0, further)

  did_order : (w : World) (items : List Note) (v : Vehicle) (ks : List Call) → AreInOrder 0 ks → AreInOrder 0 (did w items v ks).world.calls
  did_order w items v ks h =
      kept_order (vehicle_call v) 0 (map (carries (told w.tick items)) ks) (carried_order (told w.tick items) 0 ks h)

  did_all : (w : World) (items : List Note) (v : Vehicle) (ks : List Call) → AllByRecursion (λ (k : Call). P k.number) ks → AllByRecursion (λ (k : Call). P k.number) (did w items v ks).world.calls
  did_all w items v ks h =
      kept_all (λ (k : Call). P k.number) (vehicle_call v) (map (carries (told w.tick items)) ks) (carried_all (told w.tick items) ks h)

  pub vehicle_still : (w : World) (row : Row Vehicle) → IsStill P w (vehicle_did w row).world
  vehicle_still w row =
      record { tick = refl; drawn = refl; up_flow = refl; down_flow = refl; order = did_order w row.items row.new w.calls; numbers = did_all w row.items row.new w.calls }

  pub session_still : (c : ℕ) (w : World) (row : Row Point) → IsStill P w (session_did c w row).world
  session_still c w row =
      record {
        tick = refl;
        drawn = refl;
        up_flow = refl;
        down_flow = refl;
        order = λ h. did_order w row.items w.vehicle (seated c (left_by row.new) w.calls) (seated_order c 0 (left_by row.new) w.calls h);
        numbers = λ h. did_all w row.items w.vehicle (seated c (left_by row.new) w.calls) (seated_all c (left_by row.new) w.calls h);
      }

  where_so : (b : Bool) (w : World) (s : Step) → IsStill P w s.world → IsStill P w (if b then s else quiet_step w).world
  where_so true w s h = h
  where_so false w s h = still_here w

  acts_still : (c : ℕ) (w : World) (row : Point → Row Point) (o : Option Point) → IsStill P w (session_acts c w row o).world
  acts_still c w row None = still_here w
  acts_still c w row (Some s) = session_still c w (row s)

  does_still : (a : Act) → Still P (does a)
  does_still (Hears e) w = vehicle_still w (vehicle.vehicle_row w.vehicle e)
  does_still (InCall c e) w =
      let row : Row Vehicle = vehicle.vehicle_row w.vehicle e in
      where_so (vehicle_is_in c w) w (vehicle_did w row) (vehicle_still w row)
  does_still (Session c e) w = acts_still c w (λ s. point.point_row s e) (session_of c w.calls)

  does_each_still : (acts : List Act) → Still P (does_each acts)
  does_each_still [] w = still_here w
  does_each_still (a ∷ acts) w =
      still_both w (does a w).world (does_each acts (does a w).world).world (does_still a w) (does_each_still acts (does a w).world)

  settled_still : (w : World) (s : Step) → IsStill P w s.world → IsStill P w (settled s).world
  settled_still w s h =
      still_both w s.world (settled s).world h (does_each_still (consequences s.entries) s.world)

  pub performs_still : (a : Act) → Still P (performs a)
  performs_still a w = settled_still w (does a w) (does_still a w)

  handed_so : (b : Bool) (w : World) (s : Step) → IsStill P w s.world → IsStill P w (if b then record s { handed = s.handed + 1 } else quiet_step w).world
  handed_so true w s h = h
  handed_so false w s h = still_here w

  pub up_still : (x : Due) → Still P (hands_up x)
  up_still x w =
      let a : Act = Session x.call (point.Arrives x.frame) in
      handed_so (point_is_in x.call w) w (performs a w) (performs_still a w)

  pub down_still : (x : Due) → Still P (hands_down x)
  down_still x w =
      let a : Act = InCall x.call (vehicle.Arrives x.frame) in
      handed_so (vehicle_is_in x.call w) w (performs a w) (performs_still a w)

  pub vehicle_passes_still : Still P vehicle_passes
  vehicle_passes_still w =
      settled_still w (vehicle_did w (vehicle.unit_row w.vehicle)) (vehicle_still w (vehicle.unit_row w.vehicle))

  pub session_passes_still : (c : ℕ) → Still P (session_passes c)
  session_passes_still c w =
      settled_still w (session_acts c w point.unit_row (session_of c w.calls)) (acts_still c w point.unit_row (session_of c w.calls))

  pub each_still : {A : Type 0} (f : A → World → Step) → ((a : A) → Still P (f a)) → (xs : List A) → Still P (each f xs)
  each_still f h [] w = still_here w
  each_still f h (x ∷ xs) w =
      still_both w (f x w).world (each f xs (f x w).world).world (h x w) (each_still f h xs (f x w).world)

  pub sessions_still : Still P sessions_pass
  sessions_still w = each_still session_passes session_passes_still (map (λ k. k.number) w.calls) w

  pub flows_up_still : Still P flows_up
  flows_up_still w = each_still hands_up up_still (due_in (λ k. k.up) w.up_flow w.tick w.calls) w

  pub flows_down_still : Still P flows_down
  flows_down_still w = each_still hands_down down_still (due_in (λ k. k.down) w.down_flow w.tick w.calls) w
