-- What the vehicle's end does where it takes a call.
use Rattle.std.specs.Prelude.{◌≡◌, ◌≤◌, ◌+◌, IfSome, ℕ, true, false, List, [], ◌∷◌, ◌++◌, ◌&&◌, nat_lt, None, Result, Ok, Err, OnOk}
use Rattle.std.specs.List.{flat_map}
use Rattle.std.proofs.Common.{refl, sym, ap, subst, ◌∙◌, ◌<◌, arith, append_assoc, length, get_or, take, drop}
use Rattle.std.proofs.lemmas.List.{append-nil, take_more, take-append-drop}
use Rattle.link_frames.specs.Does.{Does}
use Rattle.link_frames.specs.Ranks.{Deadline, soonest}
use Rattle.link_frames.specs.declared.note.Note.{Note}
use Rattle.ivs_machine.specs.IvsStands.{IvsStandsFor}
use Rattle.ivs_machine.specs.Vehicle.{Vehicle, is_dialling, is_reachable}
use Rattle.ivs_machine.specs.VehicleRows.{Answered, Incoming, vehicle_row, unit_row, units, due_of, aged, deadlines}
use Rattle.ivs_machine.specs.declared.vehicle.Ivs.{Ivs}
use Rattle.trace_model.specs.declared.entry.Entry.{Entry}
use Rattle.trace_model.specs.History.{told}
use Rattle.link_parts.specs.Messages.{number_octets, part_octets, parts_of}
use Rattle.live_link.specs.Runs.{Steps, quiet, and_then, each}
use Rattle.live_link.specs.Turns.{Turn, entries_of}
use Rattle.live_link.specs.VehicleLive.{LiveVehicle, does, hears, takes, gathers, hears_if, hears_part, passes}
use Rattle.link_parts.specs.declared.part.Part.{Part}
use Rattle.link_parts.specs.declared.part.Part.TheVariants.{Answers, Rings, Takes}
use Rattle.live_link.specs.declared.vehicle_end.VehicleEnd.{VehicleEnd}
use Rattle.live_link.specs.inner.VehicleEnd.{Acts, ActsPartly, EndStandsFor, all_parts}
use Rattle.live_link.proofs.GatherLemmas.{octets_append}
use Rattle.live_link.proofs.Ticks.{entries_append}

takes_stands : (e : VehicleEnd) (s : LiveVehicle) (call : ℕ) → EndStandsFor e s →
    EndStandsFor (record e { taken = call }) (takes call s)
takes_stands e s call h = record { ivs = h.ivs; taken = refl; tick = h.tick; gathered = h.gathered }

-- it takes the call that it dialled

answered_is : (s : LiveVehicle) (call : ℕ) → (is_dialling s.vehicle && nat_lt s.taken call) ≡ true →
    hears_part s (Answers call) ≡ hears (takes call s) (Answered call)
answered_is s call h = ap (λ b. hears_if b s (hears (takes call s) (Answered call))) h

pub answered_acts : (grew : List Entry → Type 0) (old new : VehicleEnd) (call : ℕ)
    → ((s : LiveVehicle) → EndStandsFor old s → (is_dialling s.vehicle && nat_lt s.taken call) ≡ true)
    → Acts grew (record old { taken = call }) new (λ s. does s None false (vehicle_row s.vehicle (Answered call)))
    → Acts grew old new (λ s. hears_part s (Answers call))
answered_acts grew old new call dials h =
    record {
      told =
          λ s e.
          subst (λ (z : Steps LiveVehicle). grew (entries_of z.turns)) (sym (answered_is s call (dials s e)))
          (h.told (takes call s) (takes_stands old s call e));
      stands =
          λ s e.
          subst (λ (z : Steps LiveVehicle). EndStandsFor new z.new) (sym (answered_is s call (dials s e)))
          (h.stands (takes call s) (takes_stands old s call e));
    }

pub answered_partly : (partly : List Entry → Type 0) (old : VehicleEnd) (call : ℕ)
    → ((s : LiveVehicle) → EndStandsFor old s → (is_dialling s.vehicle && nat_lt s.taken call) ≡ true)
    → ActsPartly partly (record old { taken = call }) (λ s. does s None false (vehicle_row s.vehicle (Answered call)))
    → ActsPartly partly old (λ s. hears_part s (Answers call))
answered_partly partly old call dials h =
    λ s e.
    subst (λ (z : Steps LiveVehicle). partly (entries_of z.turns)) (sym (answered_is s call (dials s e)))
    (h (takes call s) (takes_stands old s call e))

-- it takes a call of the point

abbrev rung : ℕ → LiveVehicle → Steps LiveVehicle
rung call s = hears (takes call s) (Incoming call)

rung_is : (s : LiveVehicle) (call : ℕ) → (is_reachable s.vehicle && nat_lt s.taken call) ≡ true →
    hears_part s (Rings call) ≡ and_then (rung call s) (λ u. quiet (gathers (Takes call) u))
rung_is s call h = ap (λ b. hears_if b s (and_then (rung call s) (λ u. quiet (gathers (Takes call) u)))) h

rung_turns : (s : LiveVehicle) (call : ℕ) → (is_reachable s.vehicle && nat_lt s.taken call) ≡ true →
    (hears_part s (Rings call)).turns ≡ (rung call s).turns
rung_turns s call h = ap (λ z. z.turns) (rung_is s call h)

pub rung_partly : (partly : List Entry → Type 0) (old : VehicleEnd) (call : ℕ)
    → ((s : LiveVehicle) → EndStandsFor old s → (is_reachable s.vehicle && nat_lt s.taken call) ≡ true)
    → ActsPartly partly (record old { taken = call }) (λ s. does s None false (vehicle_row s.vehicle (Incoming call)))
    → ActsPartly partly old (λ s. hears_part s (Rings call))
rung_partly partly old call reach h =
    λ s e.
    subst (λ (z : List Turn). partly (entries_of z)) (sym (rung_turns s call (reach s e)))
    (h (takes call s) (takes_stands old s call e))

pub rung_acts : (grew : List Entry → Type 0) (old new last : VehicleEnd) (call : ℕ)
    → ((s : LiveVehicle) → EndStandsFor old s → (is_reachable s.vehicle && nat_lt s.taken call) ≡ true)
    → Acts grew (record old { taken = call }) new (λ s. does s None false (vehicle_row s.vehicle (Incoming call)))
    → last ≡ record new { gathered = last.gathered }
    → last.gathered.items ≡ new.gathered.items ++ 20 ∷ number_octets call
    → Acts grew old last (λ s. hears_part s (Rings call))
rung_acts grew old new last call reach h same more =
    record {
      told =
          λ s e.
          subst (λ (z : List Turn). grew (entries_of z)) (sym (rung_turns s call (reach s e)))
          (h.told (takes call s) (takes_stands old s call e));
      stands =
          λ s e.
          subst (λ (z : Steps LiveVehicle). EndStandsFor last z.new) (sym (rung_is s call (reach s e)))
          (further (rung call s).new (h.stands (takes call s) (takes_stands old s call e)));
    }
  where
    further : (u : LiveVehicle) → EndStandsFor new u → EndStandsFor last (gathers (Takes call) u)
    further u e =
        subst (λ (z : VehicleEnd). EndStandsFor z (gathers (Takes call) u)) (sym same)
        (record {
          ivs = e.ivs;
          taken = e.taken;
          tick = e.tick;
          gathered =
              octets_append u.gathered (Takes call ∷ [])
              ∙ ap (λ z. z ++ (20 ∷ number_octets call)) e.gathered
              ∙ sym more;
        })

-- One tick passes.

soonest_least : {A : Type 0} → (ds : List (Deadline A)) → IfSome (soonest ds) (λ due. 1 ≤ due)
soonest_least [] = tt
soonest_least (d ∷ ds) = omega arith

pub due_least : (v : Vehicle) → IfSome (due_of v) (λ due. 1 ≤ due)
due_least v = let next : Vehicle = aged 1 v in soonest_least (deadlines next next.phase)

pub one_unit : (v : Vehicle) → (units 1 v).items ≡ (unit_row v).items
one_unit v = append-nil (unit_row v).items

pub passes_acts : (grew : List Entry → Type 0) (old new : VehicleEnd) (ivs : Ivs) (items : List Note)
    → Does IvsStandsFor IvsStandsFor old.ivs ivs items (units 1)
    → grew (told (old.tick + 1) items)
    → new ≡ record old { ivs = ivs; tick = old.tick + 1; gathered = new.gathered }
    → new.gathered.items ≡ flat_map part_octets (parts_of false items)
    → Acts grew old new passes
passes_acts grew old new ivs items did h same gathered =
    record {
      told =
          λ s e.
          subst grew
          (sym (append-nil (told (s.tick + 1) (unit_row s.vehicle).items)
          ∙ ap (λ z. told (s.tick + 1) z) (sym (gave s e))
          ∙ ap (λ z. told (z + 1) items) e.tick))
          h;
      stands =
          λ s e.
          subst (λ (z : VehicleEnd). EndStandsFor z (passes s).new) (sym same)
          (record {
            ivs = did.stands s.vehicle e.ivs;
            taken = e.taken;
            tick = ap (λ z. z + 1) e.tick;
            gathered = ap (λ z. flat_map part_octets (parts_of false z)) (sym (gave s e)) ∙ sym gathered;
          });
    }
  where
    gave : (s : LiveVehicle) → EndStandsFor old s → items ≡ (unit_row s.vehicle).items
    gave s e = did.gives s.vehicle e.ivs ∙ one_unit s.vehicle

pub passes_partly : (partly : List Entry → Type 0) (old : VehicleEnd) (ivs : Ivs) (items : List Note)
    → Does IvsStandsFor IvsStandsFor old.ivs ivs items (units 1)
    → partly (told (old.tick + 1) items)
    → ActsPartly partly old passes
passes_partly partly old ivs items did h =
    λ s e.
    subst partly
    (sym (append-nil (told (s.tick + 1) (unit_row s.vehicle).items)
    ∙ ap (λ z. told (s.tick + 1) z) (sym (did.gives s.vehicle e.ivs ∙ one_unit s.vehicle))
    ∙ ap (λ z. told (z + 1) items) e.tick))
    h

-- One step behind another.
pub then_acts : (grew grew' all : List Entry → Type 0) (old mid new : VehicleEnd) (first second : LiveVehicle → Steps LiveVehicle)
    → Acts grew old mid first
    → Acts grew' mid new second
    → ((s t : List Entry) → grew s → grew' t → all (s ++ t))
    → Acts all old new (λ s. and_then (first s) second)
then_acts grew grew' all old mid new first second h k join =
    record {
      told =
          λ s e.
          subst all (sym (entries_append (first s).turns (second (first s).new).turns))
          (join (entries_of (first s).turns) (entries_of (second (first s).new).turns) (h.told s e) (k.told (first s).new (h.stands s e)));
      stands = λ s e. k.stands (first s).new (h.stands s e);
    }

pub on_ok_two : {T E P Q R : Type 0} (r : Result T E) → (P → Q → R) → OnOk r P → OnOk r Q → OnOk r R
on_ok_two (Ok x) f p q = f p q
on_ok_two (Err e) f p q = tt

-- The parts of a message, one behind the other.

each_append : (xs ys : List Part) (s : LiveVehicle) →
    each hears_part s (xs ++ ys) ≡ and_then (each hears_part s xs) (λ u. each hears_part u ys)
each_append [] ys s = refl
each_append (x ∷ xs) ys s =
    let u : LiveVehicle = (hears_part s x).new in
    ap (λ z. record { turns = (hears_part s x).turns ++ z.turns; new = z.new }) (each_append xs ys u)
    ∙ ap (λ z. record { turns = z; new = (each hears_part (each hears_part u xs).new ys).new })
    (sym (append_assoc (hears_part s x).turns (each hears_part u xs).turns (each hears_part (each hears_part u xs).new ys).turns))

all_more : (parts : List Part) (i : ℕ) (part : Part) → i < length parts → part ≡ get_or parts i part → (s : LiveVehicle) →
    all_parts (take (i + 1) parts) s ≡ and_then (all_parts (take i parts) s) (λ u. all_parts (part ∷ []) u)
all_more parts i part inside read s =
    ap (λ z. all_parts z s) (take_more parts i part inside ∙ ap (λ z. take i parts ++ z ∷ []) (sym read))
    ∙ each_append (take i parts) (part ∷ []) s

all_around : (parts : List Part) (i : ℕ) (part : Part) → i < length parts → part ≡ get_or parts i part → (s : LiveVehicle) →
    all_parts parts s
    ≡ and_then (all_parts (take i parts) s) (λ u. and_then (all_parts (part ∷ []) u) (λ w. all_parts (drop (i + 1) parts) w))
all_around parts i part inside read s =
    ap (λ z. all_parts z s) (sym (take-append-drop (i + 1) parts))
    ∙ each_append (take (i + 1) parts) (drop (i + 1) parts) s
    ∙ ap (λ z. and_then z (λ w. all_parts (drop (i + 1) parts) w)) (all_more parts i part inside read s)
    ∙ ap (λ z. record { turns = z; new = (all_parts (drop (i + 1) parts) (all_parts (part ∷ []) (all_parts (take i parts) s).new).new).new })
    (append_assoc (all_parts (take i parts) s).turns (all_parts (part ∷ []) (all_parts (take i parts) s).new).turns
    (all_parts (drop (i + 1) parts) (all_parts (part ∷ []) (all_parts (take i parts) s).new).new).turns)

one_entries : (part : Part) (s : LiveVehicle) → entries_of (all_parts (part ∷ []) s).turns ≡ entries_of (hears_part s part).turns
one_entries part s = ap entries_of (append-nil (hears_part s part).turns)

pub parts_first : (grew : List Entry → Type 0) (e : VehicleEnd) → grew [] → Acts grew e e (all_parts [])
parts_first grew e h = record { told = λ s k. h; stands = λ s k. k }

pub parts_more : (grew grew' all : List Entry → Type 0) (old mid new : VehicleEnd) (parts : List Part) (i : ℕ) (part : Part)
    → i < length parts
    → part ≡ get_or parts i part
    → Acts grew old mid (all_parts (take i parts))
    → Acts grew' mid new (λ s. hears_part s part)
    → ((s t : List Entry) → grew s → grew' t → all (s ++ t))
    → Acts all old new (all_parts (take (i + 1) parts))
parts_more grew grew' all old mid new parts i part inside read h k join =
    let both : Acts all old new (λ s. and_then (all_parts (take i parts) s) (λ u. hears_part u part)) =
    then_acts grew grew' all old mid new (all_parts (take i parts)) (λ u. hears_part u part) h k join in
    record {
      told =
          λ s e.
          subst all
          (entries_append (all_parts (take i parts) s).turns (hears_part (all_parts (take i parts) s).new part).turns
          ∙ ap (λ z. entries_of (all_parts (take i parts) s).turns ++ z) (sym (one_entries part (all_parts (take i parts) s).new))
          ∙ sym (entries_append (all_parts (take i parts) s).turns (all_parts (part ∷ []) (all_parts (take i parts) s).new).turns)
          ∙ ap (λ z. entries_of z.turns) (sym (all_more parts i part inside read s)))
          (both.told s e);
      stands =
          λ s e.
          subst (λ (z : Steps LiveVehicle). EndStandsFor new z.new) (sym (all_more parts i part inside read s)) (both.stands s e);
    }

pub parts_partly : (grew partly' all : List Entry → Type 0) (old mid : VehicleEnd) (parts : List Part) (i : ℕ) (part : Part)
    → i < length parts
    → part ≡ get_or parts i part
    → Acts grew old mid (all_parts (take i parts))
    → ActsPartly partly' mid (λ s. hears_part s part)
    → ((s t u : List Entry) → grew s → partly' t → all (s ++ (t ++ u)))
    → ActsPartly all old (all_parts parts)
parts_partly grew partly' all old mid parts i part inside read h k join =
    λ s e.
    let u : LiveVehicle = (all_parts (take i parts) s).new in
    let w : LiveVehicle = (all_parts (part ∷ []) u).new in
    subst all
    (ap (λ z. entries_of (all_parts (take i parts) s).turns ++ (z ++ entries_of (all_parts (drop (i + 1) parts) w).turns)) (sym (one_entries part u))
    ∙ ap (λ z. entries_of (all_parts (take i parts) s).turns ++ z) (sym (entries_append (all_parts (part ∷ []) u).turns (all_parts (drop (i + 1) parts) w).turns))
    ∙ sym (entries_append (all_parts (take i parts) s).turns ((all_parts (part ∷ []) u).turns ++ (all_parts (drop (i + 1) parts) w).turns))
    ∙ ap (λ z. entries_of z.turns) (sym (all_around parts i part inside read s)))
    (join (entries_of (all_parts (take i parts) s).turns) (entries_of (hears_part u part).turns)
    (entries_of (all_parts (drop (i + 1) parts) w).turns) (h.told s e) (k u (h.stands s e)))
