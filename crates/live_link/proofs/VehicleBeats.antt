-- The beats of a line at the vehicle's end: its rounds, or what it hears at once.
use Rattle.std.specs.Prelude.{◌≡◌, ℕ, zero, suc, ◌+◌, ◌-◌, ◌<◌, ◌≤◌, Bool, true, false, List, [], ◌∷◌, ◌++◌, length, Option, Some, None, replicate}
use Rattle.std.proofs.Common.{refl, sym, ap, subst, ◌∙◌, arith}
use Rattle.std.proofs.lemmas.List.{append-nil}
use Rattle.call_io.specs.Bytes.{Grew, GrewPartly}
use Rattle.call_io.proofs.BytesLemmas.{Grew-append, GrewPartly-after, GrewPartly-longer, GrewPartly-whole}
use Rattle.link_frames.specs.declared.frame.End.TheVariants as «end»
use Rattle.line_input.specs.declared.reason.BadLine.{BadLine}
use Rattle.link_parts.specs.Rounds.{Stop, parts_in, rounds_from}
use Rattle.link_parts.specs.declared.part.Part.{Part}
use Rattle.link_parts.specs.declared.part.Part.TheVariants.{Dials, Answers, Leaves, Rings, Takes, Carries}
use Rattle.trace_model.specs.declared.entry.Entry.{Entry}
use Rattle.trace_model.specs.declared.event.Event.{Event}
use Rattle.trace_model.specs.declared.event.Event.TheVariants as event
use Rattle.trace_text.specs.EntryLine.{text_of}
use Rattle.live_link.specs.LiveOutcome.{LiveStreams, Over}
use Rattle.live_link.specs.Runs.{Beat, Round, Line, Steps, beat_of, beats_of, each, rounds_of, run_behind}
use Rattle.live_link.specs.Turns.{entries_of}
use Rattle.live_link.specs.VehicleLive.{LiveVehicle, hears_if, hears_line, hears_part, passes, round, run_from}
use Rattle.live_link.specs.declared.vehicle_run.VehicleSide.{VehicleSide}
use Rattle.live_link.specs.inner.Brought.{CutOff, Rest, vehicle_left}
use Rattle.live_link.specs.inner.VehicleEnd.{Acts, ActsPartly}
use Rattle.live_link.specs.inner.VehicleGoes.{VehicleAt}
use Rattle.live_link.proofs.RoundLemmas.{cut_at, run_twice, turns_text}

-- Ticks: a round passes one, and nothing else any.

if_tick : (b : Bool) (s : LiveVehicle) (steps : Steps LiveVehicle) → steps.new.tick ≡ s.tick
    → (hears_if b s steps).new.tick ≡ s.tick
if_tick true s steps h = h
if_tick false s steps h = refl

part_tick : (s : LiveVehicle) (p : Part) → (hears_part s p).new.tick ≡ s.tick
part_tick s (Answers c) = if_tick _ s _ refl
part_tick s (Rings c) = if_tick _ s _ refl
part_tick s (Leaves c) = if_tick _ s _ refl
part_tick s (Carries c f) = if_tick _ s _ refl
part_tick s Dials = refl
part_tick s (Takes c) = refl

parts_tick : (parts : List Part) (s : LiveVehicle) → (each hears_part s parts).new.tick ≡ s.tick
parts_tick [] s = refl
parts_tick (p ∷ parts) s = parts_tick parts (hears_part s p).new ∙ part_tick s p

pub round_tick : (s : LiveVehicle) (parts : List Part) → (round s parts).new.tick ≡ s.tick + 1
round_tick s parts = parts_tick parts (passes s).new

pub line_tick : (s : LiveVehicle) (e : Event) → (hears_line s e).new.tick ≡ s.tick
line_tick s (event.Trigger cause) = refl
line_tick s event.Cancel = refl
line_tick s (event.Net up) = refl
line_tick s event.Fail = refl
line_tick s event.Sleep = refl
line_tick s event.FaultVehicle = refl
line_tick s event.DropVehicle = refl
line_tick s (event.Reset «end».Vehicle) = refl
line_tick s (event.Reset «end».Point) = refl
line_tick s event.Answer = refl
line_tick s event.Callback = refl
line_tick s (event.FaultPoint c) = refl
line_tick s (event.Damaged c) = refl
line_tick s (event.Request c) = refl
line_tick s (event.Clear c) = refl
line_tick s (event.Hangup c) = refl
line_tick s (event.DropPoint c) = refl
line_tick s (event.DropBoth c) = refl
line_tick s (event.Deliver up c k) = refl
line_tick s (event.Flow up d) = refl
line_tick s (event.Tick n) = refl

-- a run has no fewer rounds than were begun, but for one
pub vehicle_least : (s : LiveVehicle) (messages : List (List Part)) (stop : Stop) (refused : Option BadLine)
    (beats : List Beat) → s.tick ≤ (run_from s messages stop refused beats).rounds + 1
vehicle_least s messages stop None [] = omega arith
vehicle_least s messages stop (Some bad) [] = omega arith
vehicle_least s messages stop refused (Line e ∷ beats) =
    let tick = line_tick s e in
    let more = vehicle_least (hears_line s e).new messages stop refused beats in
    omega (arith, tick, more)
vehicle_least s [] stop refused (Round first ∷ beats) = omega arith
vehicle_least s (parts ∷ messages) stop refused (Round first ∷ beats) =
    let tick = round_tick s parts in
    let more = vehicle_least (round s parts).new messages stop refused beats in
    omega (arith, tick, more)

pub vehicle_counted : (passes start : ℕ) (s : LiveVehicle) (pending : List Beat) (rest : Rest) (place : ℕ)
    (more : List (List ℕ)) (others : List ℕ) → passes ≤ start + s.tick
    → passes ≤ start + (vehicle_left s pending rest place more others).rounds + 1
vehicle_counted passes start s pending rest place more others at_most =
    let r = rounds_from «end».Vehicle [] [] place others in
    let least = vehicle_least s (parts_in r.messages) r.stop (rest more).refused (pending ++ beats_of (rest more).events) in
    omega (arith, at_most, least)

-- Rounds that are left of a line's, behind so many.

abbrev pub rounds_left : (done count : ℕ) → List Beat
rounds_left zero count = rounds_of count
rounds_left (suc done) count = replicate (count - suc done) (Round false)

pub next_round : (done count : ℕ) → done < count
    → (first : Bool) × (rounds_left done count ≡ Round first ∷ rounds_left (done + 1) count)
next_round zero count h = (true, refl)
next_round (suc done) count h = (
  false,
  by_count (count - suc done) (count - suc (suc done)) (omega (arith, h))
      ∙ ap (λ k. Round false ∷ rounds_left k count) (next (suc (suc done)) (suc done + 1) (omega arith)),
)
  where
    next : (n m : ℕ) → n ≡ m → n ≡ m
    next n m e = e

    by_count : (n m : ℕ) → n ≡ suc m
        → replicate n (Round false) ≡ Round false ∷ replicate m (Round false)
    by_count n m e =
        subst (λ (k : ℕ). replicate k (Round false) ≡ Round false ∷ replicate m (Round false)) (sym e) refl

pub no_round : (done count : ℕ) → done ≡ count → 0 < count → rounds_left done count ≡ []
no_round zero count same h = absurd (omega (arith, same, h))
no_round (suc done) count same h = by_count (count - suc done) (omega (arith, same))
  where
    by_count : (n : ℕ) → n ≡ 0 → replicate n (Round false) ≡ []
    by_count n e = subst (λ (k : ℕ). replicate k (Round false) ≡ []) (sym e) refl

-- a line that is no tick is heard at once
pub heard_beat : (e : Event) → ((n : ℕ) → e ≡ event.Tick n → ⊥) → beat_of e ≡ Line e ∷ []
heard_beat (event.Tick n) h = absurd (h n refl)
heard_beat event.Callback h = refl
heard_beat (event.Request c) h = refl
heard_beat (event.Clear c) h = refl
heard_beat (event.Hangup c) h = refl
heard_beat (event.Damaged c) h = refl
heard_beat (event.FaultPoint c) h = refl
heard_beat (event.DropPoint c) h = refl
heard_beat (event.Reset e) h = refl
heard_beat (event.Trigger cause) h = refl
heard_beat event.Cancel h = refl
heard_beat (event.Net up) h = refl
heard_beat event.Answer h = refl
heard_beat event.Fail h = refl
heard_beat event.Sleep h = refl
heard_beat event.FaultVehicle h = refl
heard_beat event.DropVehicle h = refl
heard_beat (event.DropBoth c) h = refl
heard_beat (event.Deliver up c k) h = refl
heard_beat (event.Flow up d) h = refl

-- A line that is heard at once.
module _ (over : Over) (start old now : LiveStreams) (side : VehicleSide) (lines : List (List ℕ)) (rest : Rest)
    (e : Event) (pending : List Beat) (at : VehicleAt over start old side lines rest (Line e ∷ pending))
    (from : now.from ≡ old.from) (to : now.to ≡ old.to) where
  same_line : (more : List (List ℕ)) (others : List ℕ)
      → over (lines ++ more) (at.brought.octets ++ others)
      ≡ run_behind (at.brought.turns ++ (hears_line at.left e).turns) at.brought.sent
      (vehicle_left (hears_line at.left e).new pending rest (length at.brought.octets) more others)
  same_line more others =
      at.brought.same more others
      ∙ run_twice at.brought.turns (hears_line at.left e).turns at.brought.sent []
      (vehicle_left (hears_line at.left e).new pending rest (length at.brought.octets) more others)
      ∙ ap (λ z. run_behind (at.brought.turns ++ (hears_line at.left e).turns) z
      (vehicle_left (hears_line at.left e).new pending rest (length at.brought.octets) more others)) (append-nil at.brought.sent)

  -- all of it is told
  pub tells_line : (grew : List Entry → Type 0) (side' : VehicleSide)
      → ((es : List Entry) → grew es → Grew old.trace now.trace (text_of es))
      → Acts grew side.end side'.end (λ s. hears_line s e) → side'.receiver ≡ side.receiver → now.passes ≡ old.passes
      → VehicleAt over start now side' lines rest pending
  tells_line grew side' is acts same passes =
      record {
        left = (hears_line at.left e).new;
        stands = acts.stands at.left at.stands;
        counted = let at_most = at.counted in let tick = line_tick at.left e in omega (arith, passes, at_most, tick);
        brought =
            record {
              octets = at.brought.octets;
              turns = at.brought.turns ++ (hears_line at.left e).turns;
              sent = at.brought.sent;
              stands = rw same (rw from at.brought.stands);
              traced =
                  subst (λ (z : List ℕ). Grew start.trace now.trace z)
                  (sym (turns_text at.brought.turns (hears_line at.left e).turns))
                  (Grew-append start.trace old.trace now.trace (text_of (entries_of at.brought.turns))
                  (text_of (entries_of (hears_line at.left e).turns)) at.brought.traced
                  (is (entries_of (hears_line at.left e).turns) (acts.told at.left at.stands)));
              wrote = rw to at.brought.wrote;
              same = same_line;
            };
      }

  -- a part of it is told
  pub tells_line_partly : (partly : List Entry → Type 0)
      → ((es : List Entry) → partly es → GrewPartly old.trace now.trace (text_of es))
      → ActsPartly partly side.end (λ s. hears_line s e) → now.passes ≡ old.passes → CutOff over start now lines
  tells_line_partly partly is acts passes =
      cut_at over start now lines (at.brought.octets ++ side.receiver.octets.pending)
      (at.brought.turns ++ (hears_line at.left e).turns) at.brought.sent
      (λ more. vehicle_left (hears_line at.left e).new pending rest (length at.brought.octets) more side.receiver.octets.pending)
      (rw from at.brought.stands.so_far.took)
      (λ more. same_line more side.receiver.octets.pending)
      (subst (λ (z : List ℕ). GrewPartly start.trace now.trace z)
      (sym (turns_text at.brought.turns (hears_line at.left e).turns))
      (GrewPartly-after start.trace old.trace now.trace (text_of (entries_of at.brought.turns))
      (text_of (entries_of (hears_line at.left e).turns)) at.brought.traced
      (is (entries_of (hears_line at.left e).turns) (acts at.left at.stands))))
      (λ more. GrewPartly-longer start.to now.to at.brought.sent
      (vehicle_left (hears_line at.left e).new pending rest (length at.brought.octets) more side.receiver.octets.pending).octets
      (GrewPartly-whole start.to now.to at.brought.sent (rw to at.brought.wrote)))
      (λ more. vehicle_counted now.passes start.passes (hears_line at.left e).new pending rest (length at.brought.octets) more
      side.receiver.octets.pending
      (let at_most = at.counted in let tick = line_tick at.left e in omega (arith, passes, at_most, tick)))
