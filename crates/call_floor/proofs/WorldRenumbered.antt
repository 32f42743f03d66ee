-- A world looks at no call's number but to tell it from the others: with other numbers that are apart as these are, of
-- which d more were drawn, it does the same.
use Rattle.std.proofs.Common.{◌≡◌, ℕ, zero, suc, Bool, true, false, List, [], ◌∷◌, ◌++◌, ◌==◌, ◌+◌, ◌-◌, ◌&&◌, ◌||◌, Option, Some, None, map, is_some, option_map, slice_get, if◌then◌else◌, refl, ap, sym, ◌∙◌, arith}
use Rattle.std.specs.List.{AllByRecursion}
use Rattle.std.proofs.lemmas.List.{map-append}
use Rattle.link_frames.specs.declared.frame.End.{End}
use Rattle.link_frames.specs.declared.frame.End.TheVariants as «end»
use Rattle.link_frames.specs.declared.note.Note.{Note}
use Rattle.link_frames.specs.declared.note.Note.TheVariants as note
use Rattle.link_frames.specs.declared.note.Why.TheVariants as why
use Rattle.link_frames.specs.Row.{Row}
use Rattle.ivs_machine.specs.Vehicle.{Vehicle, Phase, InCall as In, call_in, vehicle_call, is_dialling, is_reachable}
use Rattle.ivs_machine.specs.VehicleRows as vehicle
use Rattle.psap_machine.specs.Point.{Point, Over}
use Rattle.psap_machine.specs.Point as state
use Rattle.psap_machine.specs.PointRows as point
use Rattle.trace_model.specs.declared.entry.Entry.{Entry}
use Rattle.trace_model.specs.declared.event.Event.{Event}
use Rattle.trace_model.specs.declared.event.Event.TheVariants as event
use Rattle.trace_model.specs.History.{Sent, told, sends, sent_by}
use Rattle.trace_model.specs.Safety.{same_end}
use Rattle.channel_sim.specs.World.{Call, World, Step, Act, Hears, InCall, Session, Due, quiet_step, and_then, vehicle_is_in, call_of, session_in, session_of, point_is_in, seated, carries, with_legs, did, vehicle_did, session_did, session_acts, does, does_each, consequence, consequences, settled, performs, one_handed, hands_up, hands_down, each, due_frames, due_in, flows_up, flows_down, vehicle_passes, session_passes, sessions_pass, unit, units}
use Rattle.trace_fit.specs.Seats.{is_number, unless_over, left_by}
use Rattle.channel_sim.specs.Lines.{Deed, Does, HandsUp, HandsDown, Answers, CallsBack, with_call, comes_up, deed, when, in_its_call, at_point, sent_up, sent_down, hands_one, deeds_of, or_nothing, item_step, session_resets, point_resets, step}
use Rattle.channel_sim.specs.WorldStands.{NeedsCall}
use Rattle.call_floor.specs.Numbers.{note_with, entry_with, vehicle_with, point_with, call_with, world_with, step_with}
use Rattle.call_floor.specs.inner.Subjects.{event_with}
use Rattle.call_floor.proofs.DeedLemmas.{DrawsNone, draws_none}
use Rattle.call_floor.proofs.PointRenumbered.{point_row_with, point_hears_same, point_passes_same, arriving_same, called_same}
use Rattle.call_floor.proofs.VehicleRenumbered.{vehicle_row_with, heard_with, vehicle_hears_same, vehicle_passes_same}

abbrev pub world_at : (ℕ → ℕ) → ℕ → World → World
world_at f d w = world_with f (w.drawn + d) w

abbrev pub step_at : (ℕ → ℕ) → ℕ → Step → Step
step_at f d s = step_with f (s.world.drawn + d) s

abbrev pub due_with : (ℕ → ℕ) → Due → Due
due_with f x = record { call = f x.call; frame = x.frame }

abbrev act_with : (ℕ → ℕ) → Act → Act
act_with f (Hears e) = Hears (heard_with f e)
act_with f (InCall c e) = InCall (f c) (heard_with f e)
act_with f (Session c e) = Session (f c) e

abbrev deed_with : (ℕ → ℕ) → Deed → Deed
deed_with f (Does a) = Does (act_with f a)
deed_with f (HandsUp x) = HandsUp (due_with f x)
deed_with f (HandsDown x) = HandsDown (due_with f x)
deed_with f Answers = Answers
deed_with f CallsBack = CallsBack

-- a step, and then one that is known
abbrev followed_by : Step → Step → Step
followed_by s t = record { entries = s.entries ++ t.entries; world = t.world; handed = s.handed + t.handed }

mapped : {A B : Type 0} (g : A → B) (b : Bool) (xs ys : List A) → (if b then map g xs else map g ys) ≡ map g (if b then xs else ys)
mapped g true xs ys = refl
mapped g false xs ys = refl

option_mapped : {A B : Type 0} (g : A → B) (b : Bool) (x y : Option A) → (if b then option_map g x else option_map g y) ≡ option_map g (if b then x else y)
option_mapped g true x y = refl
option_mapped g false x y = refl

is_some_mapped : {A B : Type 0} (g : A → B) (o : Option A) → is_some (option_map g o) ≡ is_some o
is_some_mapped g None = refl
is_some_mapped g (Some x) = refl

-- f tells numbers apart, keeps the 0 of items of no call, and its last number is d further
module _ (f : ℕ → ℕ) (same : (a b : ℕ) → (f a == f b) ≡ (a == b)) (z : f 0 ≡ 0) (d : ℕ) where
  in_same : (c : ℕ) (o : Option ℕ) → is_number (f c) (option_map f o) ≡ is_number c o
  in_same c None = refl
  in_same c (Some x) = same x c

  call_in_same : (v : Vehicle) (p : Phase) → call_in (vehicle_with f v) p ≡ option_map f (call_in v p)
  call_in_same v (In stage) = refl
  call_in_same v _ = refl

  vehicle_call_same : (v : Vehicle) → vehicle_call (vehicle_with f v) ≡ option_map f (vehicle_call v)
  vehicle_call_same v = call_in_same v v.phase

  vehicle_in_same : (c : ℕ) (w : World) → vehicle_is_in (f c) (world_at f d w) ≡ vehicle_is_in c w
  vehicle_in_same c w = ap (is_number (f c)) (vehicle_call_same w.vehicle) ∙ in_same c (vehicle_call w.vehicle)

  pub call_of_same : (c : ℕ) (ks : List Call) → call_of (f c) (map (call_with f) ks) ≡ option_map (call_with f) (call_of c ks)
  call_of_same c [] = refl
  call_of_same c (k ∷ ks) =
      ap (λ b. if b then Some (call_with f k) else call_of (f c) (map (call_with f) ks)) (same k.number c)
      ∙ ap (λ o. if k.number == c then Some (call_with f k) else o) (call_of_same c ks)
      ∙ option_mapped (call_with f) (k.number == c) (Some k) (call_of c ks)

  session_in_same : (o : Option Call) → session_in (option_map (call_with f) o) ≡ option_map (point_with f) (session_in o)
  session_in_same None = refl
  session_in_same (Some k) = refl

  session_of_same : (c : ℕ) (ks : List Call) → session_of (f c) (map (call_with f) ks) ≡ option_map (point_with f) (session_of c ks)
  session_of_same c ks = ap session_in (call_of_same c ks) ∙ session_in_same (call_of c ks)

  point_in_same : (c : ℕ) (w : World) → point_is_in (f c) (world_at f d w) ≡ point_is_in c w
  point_in_same c w = ap is_some (session_of_same c w.calls) ∙ is_some_mapped (point_with f) (session_of c w.calls)

  left_same : (s : Point) (p : state.Phase) → unless_over (point_with f s) p ≡ option_map (point_with f) (unless_over s p)
  left_same s Over = refl
  left_same s _ = refl

  seated_same : (c : ℕ) (new : Option Point) (ks : List Call) → seated (f c) (option_map (point_with f) new) (map (call_with f) ks) ≡ map (call_with f) (seated c new ks)
  seated_same c new [] = refl
  seated_same c new (k ∷ ks) =
      ap (λ b. if b then record (call_with f k) { session = option_map (point_with f) new } ∷ map (call_with f) ks else call_with f k ∷ seated (f c) (option_map (point_with f) new) (map (call_with f) ks)) (same k.number c)
      ∙ ap (λ l. if k.number == c then record (call_with f k) { session = option_map (point_with f) new } ∷ map (call_with f) ks else call_with f k ∷ l) (seated_same c new ks)
      ∙ mapped (call_with f) (k.number == c) (record k { session = new } ∷ ks) (k ∷ seated c new ks)

  sends_same : (e : End) (c t : ℕ) (n : Note) (others : List Sent) → sends e (f c) t (note_with f n) others ≡ sends e c t n others
  sends_same e c t (note.Send g x frame) others =
      ap (λ b. if same_end e g && b then record { tick = t; frame = frame } ∷ others else others) (same c x)
  sends_same e c t _ others = refl

  sent_by_same : (e : End) (c : ℕ) (xs : List Entry) → sent_by e (f c) (map (entry_with f) xs) ≡ sent_by e c xs
  sent_by_same e c [] = refl
  sent_by_same e c (x ∷ xs) =
      ap (sends e (f c) x.tick (note_with f x.note)) (sent_by_same e c xs) ∙ sends_same e c x.tick x.note (sent_by e c xs)

  told_same : (t : ℕ) (ns : List Note) → told t (map (note_with f) ns) ≡ map (entry_with f) (told t ns)
  told_same t [] = refl
  told_same t (n ∷ ns) = ap (λ l. record { tick = t; note = note_with f n } ∷ l) (told_same t ns)

  carries_same : (xs : List Entry) (k : Call) → carries (map (entry_with f) xs) (call_with f k) ≡ call_with f (carries xs k)
  carries_same xs k =
      ap (λ up. record (call_with f k) { up = k.up ++ up; down = k.down ++ sent_by «end».Point (f k.number) (map (entry_with f) xs) }) (sent_by_same «end».Vehicle k.number xs)
      ∙ ap (λ down. record (call_with f k) { up = k.up ++ sent_by «end».Vehicle k.number xs; down = k.down ++ down }) (sent_by_same «end».Point k.number xs)

  all_carry_same : (xs : List Entry) (ks : List Call) → map (carries (map (entry_with f) xs)) (map (call_with f) ks) ≡ map (call_with f) (map (carries xs) ks)
  all_carry_same xs [] = refl
  all_carry_same xs (k ∷ ks) =
      ap (λ y. y ∷ map (carries (map (entry_with f) xs)) (map (call_with f) ks)) (carries_same xs k)
      ∙ ap (λ l. call_with f (carries xs k) ∷ l) (all_carry_same xs ks)

  with_legs_same : (o : Option ℕ) (ks : List Call) → with_legs (option_map f o) (map (call_with f) ks) ≡ map (call_with f) (with_legs o ks)
  with_legs_same o [] = refl
  with_legs_same o (k ∷ ks) =
      let rest : List Call = with_legs (option_map f o) (map (call_with f) ks) in
      ap (λ b. if b || is_some (option_map (point_with f) k.session) then call_with f k ∷ rest else rest) (in_same k.number o)
      ∙ ap (λ b. if is_number k.number o || b then call_with f k ∷ rest else rest) (is_some_mapped (point_with f) k.session)
      ∙ ap (λ l. if is_number k.number o || is_some k.session then call_with f k ∷ l else l) (with_legs_same o ks)
      ∙ mapped (call_with f) (is_number k.number o || is_some k.session) (k ∷ with_legs o ks) (with_legs o ks)

  did_same : (w : World) (items : List Note) (v : Vehicle) (ks : List Call) → did (world_at f d w) (map (note_with f) items) (vehicle_with f v) (map (call_with f) ks) ≡ step_at f d (did w items v ks)
  did_same w items v ks =
      let es : List Entry = told w.tick items in
      ap (λ y. record { entries = y; world = record (world_at f d w) { vehicle = vehicle_with f v; calls = with_legs (vehicle_call (vehicle_with f v)) (map (carries y) (map (call_with f) ks)) }; handed = 0 }) (told_same w.tick items)
      ∙ ap (λ y. record { entries = map (entry_with f) es; world = record (world_at f d w) { vehicle = vehicle_with f v; calls = with_legs (vehicle_call (vehicle_with f v)) y }; handed = 0 }) (all_carry_same es ks)
      ∙ ap (λ o. record { entries = map (entry_with f) es; world = record (world_at f d w) { vehicle = vehicle_with f v; calls = with_legs o (map (call_with f) (map (carries es) ks)) }; handed = 0 }) (vehicle_call_same v)
      ∙ ap (λ y. record { entries = map (entry_with f) es; world = record (world_at f d w) { vehicle = vehicle_with f v; calls = y }; handed = 0 }) (with_legs_same (vehicle_call v) (map (carries es) ks))

  vehicle_did_same : (w : World) (row : Row Vehicle) → vehicle_did (world_at f d w) (vehicle_row_with f row) ≡ step_at f d (vehicle_did w row)
  vehicle_did_same w row = did_same w row.items row.new w.calls

  session_did_same : (c : ℕ) (w : World) (row : Row Point) → session_did (f c) (world_at f d w) (point_row_with f row) ≡ step_at f d (session_did c w row)
  session_did_same c w row =
      ap (λ o. did (world_at f d w) (map (note_with f) row.items) (vehicle_with f w.vehicle) (seated (f c) o (map (call_with f) w.calls))) (left_same row.new row.new.phase)
      ∙ ap (λ l. did (world_at f d w) (map (note_with f) row.items) (vehicle_with f w.vehicle) l) (seated_same c (left_by row.new) w.calls)
      ∙ did_same w row.items w.vehicle (seated c (left_by row.new) w.calls)

  session_acts_same : (c : ℕ) (w : World) (row : Point → Row Point) → ((s : Point) → row (point_with f s) ≡ point_row_with f (row s)) → (o : Option Point) → session_acts (f c) (world_at f d w) row (option_map (point_with f) o) ≡ step_at f d (session_acts c w row o)
  session_acts_same c w row h None = refl
  session_acts_same c w row h (Some s) = ap (session_did (f c) (world_at f d w)) (h s) ∙ session_did_same c w (row s)

  where_same : (b : Bool) (s : Step) (w : World) → (if b then step_at f d s else quiet_step (world_at f d w)) ≡ step_at f d (if b then s else quiet_step w)
  where_same true s w = refl
  where_same false s w = refl

  hears_same : (e : vehicle.Heard) (w : World) → vehicle_did (world_at f d w) (vehicle.vehicle_row (vehicle_with f w.vehicle) (heard_with f e)) ≡ step_at f d (vehicle_did w (vehicle.vehicle_row w.vehicle e))
  hears_same e w =
      ap (vehicle_did (world_at f d w)) (vehicle_hears_same f z w.vehicle e) ∙ vehicle_did_same w (vehicle.vehicle_row w.vehicle e)

  does_same : (a : Act) (w : World) → does (act_with f a) (world_at f d w) ≡ step_at f d (does a w)
  does_same (Hears e) w = hears_same e w
  does_same (InCall c e) w =
      ap (λ b. if b then vehicle_did (world_at f d w) (vehicle.vehicle_row (vehicle_with f w.vehicle) (heard_with f e)) else quiet_step (world_at f d w)) (vehicle_in_same c w)
      ∙ ap (λ s. if vehicle_is_in c w then s else quiet_step (world_at f d w)) (hears_same e w)
      ∙ where_same (vehicle_is_in c w) (vehicle_did w (vehicle.vehicle_row w.vehicle e)) w
  does_same (Session c e) w =
      ap (session_acts (f c) (world_at f d w) (λ s. point.point_row s e)) (session_of_same c w.calls)
      ∙ session_acts_same c w (λ s. point.point_row s e) (λ s. point_hears_same f s e) (session_of c w.calls)

  pub then_same : (s : Step) (g h : World → Step) → ((u : World) → h (world_at f d u) ≡ step_at f d (g u)) → and_then (step_at f d s) h ≡ step_at f d (and_then s g)
  then_same s g h k =
      ap (followed_by (step_at f d s)) (k s.world)
      ∙ ap (λ es. record { entries = es; world = world_at f d (g s.world).world; handed = s.handed + (g s.world).handed }) (sym (map-append (entry_with f) s.entries (g s.world).entries))

  does_each_same : (acts : List Act) (w : World) → does_each (map (act_with f) acts) (world_at f d w) ≡ step_at f d (does_each acts w)
  does_each_same [] w = refl
  does_each_same (a ∷ acts) w =
      ap (λ s. and_then s (does_each (map (act_with f) acts))) (does_same a w)
      ∙ then_same (does a w) (does_each acts) (does_each (map (act_with f) acts)) (does_each_same acts)

  consequence_same : (n : Note) → consequence (note_with f n) ≡ map (act_with f) (consequence n)
  consequence_same (note.Down «end».Vehicle c why.Release) = refl
  consequence_same (note.Down «end».Point c why.Release) = refl
  consequence_same (note.Down «end».Point c why.Hangup) = refl
  consequence_same _ = refl

  consequences_same : (xs : List Entry) → consequences (map (entry_with f) xs) ≡ map (act_with f) (consequences xs)
  consequences_same [] = refl
  consequences_same (x ∷ xs) =
      ap (λ l. l ++ consequences (map (entry_with f) xs)) (consequence_same x.note)
      ∙ ap (λ l. map (act_with f) (consequence x.note) ++ l) (consequences_same xs)
      ∙ sym (map-append (act_with f) (consequence x.note) (consequences xs))

  settled_same : (s : Step) → settled (step_at f d s) ≡ step_at f d (settled s)
  settled_same s =
      ap (λ acts. and_then (step_at f d s) (does_each acts)) (consequences_same s.entries)
      ∙ then_same s (does_each (consequences s.entries)) (does_each (map (act_with f) (consequences s.entries))) (does_each_same (consequences s.entries))

  performs_same : (a : Act) (w : World) → performs (act_with f a) (world_at f d w) ≡ step_at f d (performs a w)
  performs_same a w = ap settled (does_same a w) ∙ settled_same (does a w)

  pub hands_up_same : (x : Due) (w : World) → hands_up (due_with f x) (world_at f d w) ≡ step_at f d (hands_up x w)
  hands_up_same x w =
      let a : Act = Session x.call (point.Arrives x.frame) in
      ap (λ b. if b then one_handed (performs (act_with f a) (world_at f d w)) else quiet_step (world_at f d w)) (point_in_same x.call w)
      ∙ ap (λ s. if point_is_in x.call w then one_handed s else quiet_step (world_at f d w)) (performs_same a w)
      ∙ where_same (point_is_in x.call w) (one_handed (performs a w)) w

  pub hands_down_same : (x : Due) (w : World) → hands_down (due_with f x) (world_at f d w) ≡ step_at f d (hands_down x w)
  hands_down_same x w =
      let a : Act = InCall x.call (vehicle.Arrives x.frame) in
      ap (λ b. if b then one_handed (performs (act_with f a) (world_at f d w)) else quiet_step (world_at f d w)) (vehicle_in_same x.call w)
      ∙ ap (λ s. if vehicle_is_in x.call w then one_handed s else quiet_step (world_at f d w)) (performs_same a w)
      ∙ where_same (vehicle_is_in x.call w) (one_handed (performs a w)) w

  pub each_same : {A B : Type 0} (g : A → B) (one : A → World → Step) (other : B → World → Step) → ((a : A) (w : World) → other (g a) (world_at f d w) ≡ step_at f d (one a w)) → (xs : List A) (w : World) → each other (map g xs) (world_at f d w) ≡ step_at f d (each one xs w)
  each_same g one other h [] w = refl
  each_same g one other h (x ∷ xs) w =
      ap (λ s. and_then s (each other (map g xs))) (h x w)
      ∙ then_same (one x w) (each one xs) (each other (map g xs)) (each_same g one other h xs)

  due_frames_same : (c delay now : ℕ) (ss : List Sent) → due_frames (f c) delay now ss ≡ map (due_with f) (due_frames c delay now ss)
  due_frames_same c delay now [] = refl
  due_frames_same c delay now (s ∷ ss) =
      let due : Due = record { call = c; frame = s.frame } in
      ap (λ l. if s.tick + delay == now then due_with f due ∷ l else l) (due_frames_same c delay now ss)
      ∙ mapped (due_with f) (s.tick + delay == now) (due ∷ due_frames c delay now ss) (due_frames c delay now ss)

  pub due_in_same : (sent : Call → List Sent) → ((k : Call) → sent (call_with f k) ≡ sent k) → (delay now : ℕ) (ks : List Call) → due_in sent delay now (map (call_with f) ks) ≡ map (due_with f) (due_in sent delay now ks)
  due_in_same sent keeps zero now ks = refl
  due_in_same sent keeps (suc n) now [] = refl
  due_in_same sent keeps (suc n) now (k ∷ ks) =
      ap (λ ss. due_frames (f k.number) (suc n) now ss ++ due_in sent (suc n) now (map (call_with f) ks)) (keeps k)
      ∙ ap (λ l. l ++ due_in sent (suc n) now (map (call_with f) ks)) (due_frames_same k.number (suc n) now (sent k))
      ∙ ap (λ l. map (due_with f) (due_frames k.number (suc n) now (sent k)) ++ l) (due_in_same sent keeps (suc n) now ks)
      ∙ sym (map-append (due_with f) (due_frames k.number (suc n) now (sent k)) (due_in sent (suc n) now ks))

  flows_up_same : (w : World) → flows_up (world_at f d w) ≡ step_at f d (flows_up w)
  flows_up_same w =
      ap (λ l. each hands_up l (world_at f d w)) (due_in_same (λ k. k.up) (λ k. refl) w.up_flow w.tick w.calls)
      ∙ each_same (due_with f) hands_up hands_up hands_up_same (due_in (λ k. k.up) w.up_flow w.tick w.calls) w

  flows_down_same : (w : World) → flows_down (world_at f d w) ≡ step_at f d (flows_down w)
  flows_down_same w =
      ap (λ l. each hands_down l (world_at f d w)) (due_in_same (λ k. k.down) (λ k. refl) w.down_flow w.tick w.calls)
      ∙ each_same (due_with f) hands_down hands_down hands_down_same (due_in (λ k. k.down) w.down_flow w.tick w.calls) w

  vehicle_same : (w : World) → vehicle_passes (world_at f d w) ≡ step_at f d (vehicle_passes w)
  vehicle_same w =
      ap settled (ap (vehicle_did (world_at f d w)) (vehicle_passes_same f z w.vehicle) ∙ vehicle_did_same w (vehicle.unit_row w.vehicle))
      ∙ settled_same (vehicle_did w (vehicle.unit_row w.vehicle))

  session_same : (c : ℕ) (w : World) → session_passes (f c) (world_at f d w) ≡ step_at f d (session_passes c w)
  session_same c w =
      ap settled (ap (session_acts (f c) (world_at f d w) point.unit_row) (session_of_same c w.calls) ∙ session_acts_same c w point.unit_row (point_passes_same f) (session_of c w.calls))
      ∙ settled_same (session_acts c w point.unit_row (session_of c w.calls))

  numbers_same : (ks : List Call) → map (λ k. k.number) (map (call_with f) ks) ≡ map f (map (λ k. k.number) ks)
  numbers_same [] = refl
  numbers_same (k ∷ ks) = ap (λ l. f k.number ∷ l) (numbers_same ks)

  sessions_same : (w : World) → sessions_pass (world_at f d w) ≡ step_at f d (sessions_pass w)
  sessions_same w =
      ap (λ l. each session_passes l (world_at f d w)) (numbers_same w.calls)
      ∙ each_same f session_passes session_passes session_same (map (λ k. k.number) w.calls) w

  pub unit_same : (w : World) → unit (world_at f d w) ≡ step_at f d (unit w)
  unit_same w =
      let u : World = record w { tick = w.tick + 1 } in
      ap (λ s. and_then (and_then (and_then s sessions_pass) flows_up) flows_down) (vehicle_same u)
      ∙ ap (λ s. and_then (and_then s flows_up) flows_down) (then_same (vehicle_passes u) sessions_pass sessions_pass sessions_same)
      ∙ ap (λ s. and_then s flows_down) (then_same (and_then (vehicle_passes u) sessions_pass) flows_up flows_up flows_up_same)
      ∙ then_same (and_then (and_then (vehicle_passes u) sessions_pass) flows_up) flows_down flows_down flows_down_same

  pub units_same : (n : ℕ) (w : World) → units n (world_at f d w) ≡ step_at f d (units n w)
  units_same zero w = refl
  units_same (suc n) w =
      ap (λ s. and_then s (units n)) (unit_same w) ∙ then_same (unit w) (units n) (units n) (units_same n)

  -- Lines.

  with_call_same : (w : World) → f (w.drawn + 1) ≡ (w.drawn + d) + 1 → with_call (world_at f d w) ≡ world_at f d (with_call w)
  with_call_same w next =
      let last : (w.drawn + d) + 1 ≡ (w.drawn + 1) + d = omega arith in
      ap (λ n. record (world_at f d w) { drawn = (w.drawn + d) + 1; calls = map (call_with f) w.calls ++ record { number = n; session = None; up = []; down = [] } ∷ [] }) (sym next)
      ∙ ap (λ n. record (world_at f d w) { drawn = n; calls = map (call_with f) w.calls ++ record { number = f (w.drawn + 1); session = None; up = []; down = [] } ∷ [] }) last
      ∙ ap (λ ks. record (world_at f d w) { drawn = (w.drawn + 1) + d; calls = ks }) (sym (map-append (call_with f) w.calls (record { number = w.drawn + 1; session = None; up = []; down = [] } ∷ [])))

  comes_up_same : (e : ℕ → vehicle.Heard) (arrival : ℕ → Row Point) → ((c : ℕ) → e (f c) ≡ heard_with f (e c)) → ((c : ℕ) → arrival (f c) ≡ point_row_with f (arrival c)) → (w : World) → f (w.drawn + 1) ≡ (w.drawn + d) + 1 → comes_up e arrival (world_at f d w) ≡ step_at f d (comes_up e arrival w)
  comes_up_same e arrival he ha w next =
      let c : ℕ = w.drawn + 1 in
      ap (λ x. and_then (vehicle_did (with_call (world_at f d w)) (vehicle.vehicle_row (vehicle_with f w.vehicle) (e x))) (λ u. session_did x u (arrival x))) (sym next)
      ∙ ap (λ u0. and_then (vehicle_did u0 (vehicle.vehicle_row (vehicle_with f w.vehicle) (e (f c)))) (λ u. session_did (f c) u (arrival (f c)))) (with_call_same w next)
      ∙ ap (λ h. and_then (vehicle_did (world_at f d (with_call w)) (vehicle.vehicle_row (vehicle_with f w.vehicle) h)) (λ u. session_did (f c) u (arrival (f c)))) (he c)
      ∙ ap (λ s. and_then s (λ u. session_did (f c) u (arrival (f c)))) (hears_same (e c) (with_call w))
      ∙ then_same (vehicle_did (with_call w) (vehicle.vehicle_row w.vehicle (e c))) (λ u. session_did c u (arrival c)) (λ u. session_did (f c) u (arrival (f c))) (λ u. ap (session_did (f c) (world_at f d u)) (ha c) ∙ session_did_same c u (arrival c))

  deed_same : (x : Deed) → DrawsNone x → (w : World) → deed (deed_with f x) (world_at f d w) ≡ step_at f d (deed x w)
  deed_same (Does a) h w = performs_same a w
  deed_same (HandsUp x) h w = hands_up_same x w
  deed_same (HandsDown x) h w = hands_down_same x w
  deed_same Answers h w = absurd h
  deed_same CallsBack h w = absurd h

  deeds_same : (xs : List Deed) → AllByRecursion DrawsNone xs → (w : World) → each deed (map (deed_with f) xs) (world_at f d w) ≡ step_at f d (each deed xs w)
  deeds_same [] h w = refl
  deeds_same (x ∷ xs) h w =
      ap (λ s. and_then s (each deed (map (deed_with f) xs))) (deed_same x h.0 w)
      ∙ then_same (deed x w) (each deed xs) (each deed (map (deed_with f) xs)) (deeds_same xs h.1)

  or_nothing_same : (xs : List Deed) → AllByRecursion DrawsNone xs → (w : World) → or_nothing (map (deed_with f) xs) (world_at f d w) ≡ step_at f d (or_nothing xs w)
  or_nothing_same [] h w = refl
  or_nothing_same (x ∷ xs) h w = deeds_same (x ∷ xs) h w

  when_same : (b : Bool) (x : Deed) → when b (deed_with f x) ≡ map (deed_with f) (when b x)
  when_same true x = refl
  when_same false x = refl

  at_point_same : (c : ℕ) (e : point.Heard) (w : World) → at_point (f c) e (world_at f d w) ≡ map (deed_with f) (at_point c e w)
  at_point_same c e w =
      ap (λ b. when b (Does (Session (f c) e))) (point_in_same c w) ∙ when_same (point_is_in c w) (Does (Session c e))

  in_its_call_same : (o : Option ℕ) → in_its_call (option_map f o) vehicle.Lost ≡ map (deed_with f) (in_its_call o vehicle.Lost)
  in_its_call_same None = refl
  in_its_call_same (Some c) = refl

  sent_up_same : (o : Option Call) → sent_up (option_map (call_with f) o) ≡ sent_up o
  sent_up_same None = refl
  sent_up_same (Some k) = refl

  sent_down_same : (o : Option Call) → sent_down (option_map (call_with f) o) ≡ sent_down o
  sent_down_same None = refl
  sent_down_same (Some k) = refl

  up_one_same : (c : ℕ) (o : Option Sent) → hands_one HandsUp (f c) o ≡ map (deed_with f) (hands_one HandsUp c o)
  up_one_same c None = refl
  up_one_same c (Some s) = refl

  down_one_same : (c : ℕ) (o : Option Sent) → hands_one HandsDown (f c) o ≡ map (deed_with f) (hands_one HandsDown c o)
  down_one_same c None = refl
  down_one_same c (Some s) = refl

  deliver_up_same : (c k : ℕ) (w : World) → deeds_of (world_at f d w) (event.Deliver true (f c) k) ≡ map (deed_with f) (deeds_of w (event.Deliver true c k))
  deliver_up_same c k w =
      ap (λ b. if b then hands_one HandsUp (f c) (slice_get (sent_up (call_of (f c) (map (call_with f) w.calls))) (k - 1)) else []) (point_in_same c w)
      ∙ ap (λ ss. if point_is_in c w then hands_one HandsUp (f c) (slice_get ss (k - 1)) else []) (ap sent_up (call_of_same c w.calls) ∙ sent_up_same (call_of c w.calls))
      ∙ ap (λ l. if point_is_in c w then l else []) (up_one_same c (slice_get (sent_up (call_of c w.calls)) (k - 1)))
      ∙ mapped (deed_with f) (point_is_in c w) (hands_one HandsUp c (slice_get (sent_up (call_of c w.calls)) (k - 1))) []

  deliver_down_same : (c k : ℕ) (w : World) → deeds_of (world_at f d w) (event.Deliver false (f c) k) ≡ map (deed_with f) (deeds_of w (event.Deliver false c k))
  deliver_down_same c k w =
      ap (λ b. if b then hands_one HandsDown (f c) (slice_get (sent_down (call_of (f c) (map (call_with f) w.calls))) (k - 1)) else []) (vehicle_in_same c w)
      ∙ ap (λ ss. if vehicle_is_in c w then hands_one HandsDown (f c) (slice_get ss (k - 1)) else []) (ap sent_down (call_of_same c w.calls) ∙ sent_down_same (call_of c w.calls))
      ∙ ap (λ l. if vehicle_is_in c w then l else []) (down_one_same c (slice_get (sent_down (call_of c w.calls)) (k - 1)))
      ∙ mapped (deed_with f) (vehicle_is_in c w) (hands_one HandsDown c (slice_get (sent_down (call_of c w.calls)) (k - 1))) []

  deeds_of_same : (w : World) (e : Event) → deeds_of (world_at f d w) (event_with f e) ≡ map (deed_with f) (deeds_of w e)
  deeds_of_same w (event.Trigger cause) = refl
  deeds_of_same w event.Cancel = refl
  deeds_of_same w (event.Net up) = refl
  deeds_of_same w event.Answer = when_same (is_dialling w.vehicle) Answers
  deeds_of_same w event.Fail = refl
  deeds_of_same w event.Callback = when_same (is_reachable w.vehicle) CallsBack
  deeds_of_same w event.Sleep = refl
  deeds_of_same w event.FaultVehicle = refl
  deeds_of_same w (event.FaultPoint c) = at_point_same c point.Fault w
  deeds_of_same w (event.Damaged c) = at_point_same c point.Damaged w
  deeds_of_same w (event.Request c) = at_point_same c point.Request w
  deeds_of_same w (event.Clear c) = at_point_same c point.Clear w
  deeds_of_same w (event.Hangup c) = at_point_same c point.Hangup w
  deeds_of_same w event.DropVehicle =
      ap (λ o. in_its_call o vehicle.Lost) (vehicle_call_same w.vehicle) ∙ in_its_call_same (vehicle_call w.vehicle)
  deeds_of_same w (event.DropPoint c) = at_point_same c (point.Ended why.Lost) w
  deeds_of_same w (event.DropBoth c) =
      ap (λ b. when b (Does (InCall (f c) vehicle.Lost)) ++ at_point (f c) (point.Ended why.Lost) (world_at f d w)) (vehicle_in_same c w)
      ∙ ap (λ l. l ++ at_point (f c) (point.Ended why.Lost) (world_at f d w)) (when_same (vehicle_is_in c w) (Does (InCall c vehicle.Lost)))
      ∙ ap (λ l. map (deed_with f) (when (vehicle_is_in c w) (Does (InCall c vehicle.Lost))) ++ l) (at_point_same c (point.Ended why.Lost) w)
      ∙ sym (map-append (deed_with f) (when (vehicle_is_in c w) (Does (InCall c vehicle.Lost))) (at_point c (point.Ended why.Lost) w))
  deeds_of_same w (event.Deliver true c k) = deliver_up_same c k w
  deeds_of_same w (event.Deliver false c k) = deliver_down_same c k w
  deeds_of_same w (event.Flow up delay) = refl
  deeds_of_same w (event.Reset «end».Vehicle) = refl
  deeds_of_same w (event.Reset «end».Point) = refl
  deeds_of_same w (event.Tick n) = refl

  one_deed : (x : Deed) (w : World) → deed (deed_with f x) (world_at f d w) ≡ step_at f d (deed x w) → (b : Bool) → or_nothing (when b (deed_with f x)) (world_at f d w) ≡ step_at f d (or_nothing (when b x) w)
  one_deed x w h true =
      ap (λ s. and_then s quiet_step) h ∙ then_same (deed x w) quiet_step quiet_step (λ u. refl)
  one_deed x w h false = refl

  other_line : (w : World) (e : Event) → AllByRecursion DrawsNone (deeds_of w e) → or_nothing (deeds_of (world_at f d w) (event_with f e)) (world_at f d w) ≡ step_at f d (or_nothing (deeds_of w e) w)
  other_line w e h = ap (λ l. or_nothing l (world_at f d w)) (deeds_of_same w e) ∙ or_nothing_same (deeds_of w e) h w

  -- the point restarts
  resets_same : (w : World) → point_resets (world_at f d w) ≡ step_at f d (point_resets w)
  resets_same w =
      let numbers : List ℕ = map (λ k. k.number) w.calls in
      ap (λ l. and_then (each session_resets l (world_at f d w)) (item_step (note.Restart «end».Point))) (numbers_same w.calls)
      ∙ ap (λ s. and_then s (item_step (note.Restart «end».Point))) (each_same f session_resets session_resets (λ c u. performs_same (Session c point.Reset) u) numbers w)
      ∙ then_same (each session_resets numbers w) (item_step (note.Restart «end».Point)) (item_step (note.Restart «end».Point)) (λ u. refl)

  -- what one event line does; the next number is the next one
  pub line_same : (e : Event) (w : World) → (NeedsCall e → f (w.drawn + 1) ≡ (w.drawn + d) + 1) → step (world_at f d w) (event_with f e) ≡ step_at f d (step w e)
  line_same event.Answer w next =
      one_deed Answers w (comes_up_same vehicle.Answered point.arriving (λ c. refl) (arriving_same f) w (next tt)) (is_dialling w.vehicle)
  line_same event.Callback w next =
      one_deed CallsBack w (comes_up_same vehicle.Incoming point.called (λ c. refl) (called_same f) w (next tt)) (is_reachable w.vehicle)
  line_same (event.Flow true delay) w next = refl
  line_same (event.Flow false delay) w next = refl
  line_same (event.Tick n) w next = units_same n w
  line_same (event.Reset «end».Point) w next = resets_same w
  line_same (event.Reset «end».Vehicle) w next = other_line w (event.Reset «end».Vehicle) (draws_none (event.Reset «end».Vehicle) (λ h. h) w)
  line_same (event.Trigger cause) w next = other_line w (event.Trigger cause) (draws_none (event.Trigger cause) (λ h. h) w)
  line_same event.Cancel w next = other_line w event.Cancel (draws_none event.Cancel (λ h. h) w)
  line_same (event.Net up) w next = other_line w (event.Net up) (draws_none (event.Net up) (λ h. h) w)
  line_same event.Fail w next = other_line w event.Fail (draws_none event.Fail (λ h. h) w)
  line_same event.Sleep w next = other_line w event.Sleep (draws_none event.Sleep (λ h. h) w)
  line_same event.FaultVehicle w next = other_line w event.FaultVehicle (draws_none event.FaultVehicle (λ h. h) w)
  line_same (event.FaultPoint c) w next = other_line w (event.FaultPoint c) (draws_none (event.FaultPoint c) (λ h. h) w)
  line_same (event.Damaged c) w next = other_line w (event.Damaged c) (draws_none (event.Damaged c) (λ h. h) w)
  line_same (event.Request c) w next = other_line w (event.Request c) (draws_none (event.Request c) (λ h. h) w)
  line_same (event.Clear c) w next = other_line w (event.Clear c) (draws_none (event.Clear c) (λ h. h) w)
  line_same (event.Hangup c) w next = other_line w (event.Hangup c) (draws_none (event.Hangup c) (λ h. h) w)
  line_same event.DropVehicle w next = other_line w event.DropVehicle (draws_none event.DropVehicle (λ h. h) w)
  line_same (event.DropPoint c) w next = other_line w (event.DropPoint c) (draws_none (event.DropPoint c) (λ h. h) w)
  line_same (event.DropBoth c) w next = other_line w (event.DropBoth c) (draws_none (event.DropBoth c) (λ h. h) w)
  line_same (event.Deliver up c k) w next = other_line w (event.Deliver up c k) (draws_none (event.Deliver up c k) (λ h. h) w)
