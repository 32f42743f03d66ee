-- The beats of a line at the point's end: its rounds, or what it hears at once.
use Rattle.std.specs.Prelude.{◌≡◌, ℕ, zero, suc, ◌+◌, ◌-◌, ◌<◌, ◌≤◌, Bool, true, false, List, [], ◌∷◌, ◌++◌, length, Option, Some, None, replicate, cond, ◌==◌}
use Rattle.std.proofs.Common.{refl, sym, ap, subst, ◌∙◌, arith}
use Rattle.std.proofs.lemmas.List.{append-nil}
use Rattle.call_io.specs.Bytes.{Grew, GrewPartly}
use Rattle.call_io.proofs.BytesLemmas.{Grew-append, GrewPartly-after, GrewPartly-longer, GrewPartly-whole}
use Rattle.link_frames.specs.declared.frame.End.TheVariants as «end»
use Rattle.link_frames.specs.declared.note.Why.TheVariants as why
use Rattle.line_input.specs.declared.reason.BadLine.{BadLine}
use Rattle.link_parts.specs.Rounds.{Message, Parts, ScriptEnd, Stop, rounds_from}
use Rattle.link_parts.specs.declared.part.Part.{Part}
use Rattle.link_parts.specs.declared.part.Part.TheVariants.{Dials, Answers, Leaves, Rings, Takes, Carries}
use Rattle.psap_machine.specs.Point.{Point}
use Rattle.psap_machine.specs.PointRows.{Heard, Arrives, Clear, Damaged, Ended, Fault, Hangup, Request, Reset, point_row}
use Rattle.trace_model.specs.declared.entry.Entry.{Entry}
use Rattle.trace_model.specs.declared.event.Event.{Event}
use Rattle.trace_model.specs.declared.event.Event.TheVariants as event
use Rattle.trace_text.specs.EntryLine.{text_of}
use Rattle.live_link.specs.LiveOutcome.{LiveStreams, Over}
use Rattle.live_link.specs.PointLive.{LivePoint, at_peer_end, calls, does, draws, hears_in, hears_line, hears_part, in_session, is_rung, lines_follow, loses, nothing, passes, passes_in, round, run_from, run_on, up_hears}
use Rattle.live_link.specs.Runs.{Beat, Round, Line, Steps, beats_of, each, quiet, run_behind}
use Rattle.live_link.specs.Turns.{entries_of}
use Rattle.live_link.specs.declared.point_run.PointSide.{PointSide}
use Rattle.live_link.specs.inner.Brought.{CutOff, Rest, point_left}
use Rattle.live_link.specs.inner.PointEnd.{PointActs, PointActsPartly}
use Rattle.live_link.specs.inner.PointGoes.{PointAt}
use Rattle.live_link.proofs.RoundLemmas.{cut_at, run_twice, turns_text}
use Rattle.live_link.proofs.VehicleBeats.{rounds_left}

-- Ticks: a round passes one, and nothing else any.

loses_tick : (s : LivePoint) (o : Option Point) → (loses s o).new.tick ≡ s.tick
loses_tick s None = refl
loses_tick s (Some p) = refl

session_tick : (n c : ℕ) (o : Option Point) (hears : Point → Steps LivePoint) (other : Steps LivePoint)
    → ((p : Point) → (hears p).new.tick ≡ n) → other.new.tick ≡ n → (in_session c o hears other).new.tick ≡ n
session_tick n c None hears other h k = k
session_tick n c (Some p) hears other h k = by (p.call == c)
  where
    by : (b : Bool) → (cond b (hears p) other).new.tick ≡ n
    by true = h p
    by false = k

rung_tick : (s : LivePoint) (c : ℕ) (b : Bool) → (cond b (calls c s) (quiet s)).new.tick ≡ s.tick
rung_tick s c true = loses_tick s s.session
rung_tick s c false = refl

part_tick : (s : LivePoint) (p : Part) → (hears_part s p).new.tick ≡ s.tick
part_tick s Dials = loses_tick (draws s) s.session
part_tick s (Takes c) = rung_tick s c (is_rung c s)
part_tick s (Leaves c) =
    session_tick s.tick c s.session (λ p. does s None true (point_row p (Ended why.Release))) (quiet s) (λ p. refl) refl
part_tick s (Carries c f) =
    session_tick s.tick c s.session
    (λ p. does s (Some (record { call = c; frame = f })) false (point_row p (Arrives f))) (quiet s) (λ p. refl) refl
part_tick s (Answers c) = refl
part_tick s (Rings c) = refl

parts_tick : (parts : List Part) (s : LivePoint) → (each hears_part s parts).new.tick ≡ s.tick
parts_tick [] s = refl
parts_tick (p ∷ parts) s = parts_tick parts (hears_part s p).new ∙ part_tick s p

passes_tick : (s : LivePoint) (o : Option Point) → (passes_in s o).new.tick ≡ s.tick
passes_tick s None = refl
passes_tick s (Some p) = refl

pub round_tick : (s : LivePoint) (parts : List Part) → (round s parts).new.tick ≡ s.tick + 1
round_tick s parts =
    parts_tick parts (passes s).new ∙ passes_tick (record s { tick = s.tick + 1; gathered = [] }) s.session

in_tick : (c : ℕ) (e : Heard) (s : LivePoint) → (hears_in c e s).new.tick ≡ s.tick
in_tick c e s =
    session_tick s.tick c s.session (λ p. does s None false (point_row p e)) (nothing s) (λ p. refl) refl

up_tick : (s : LivePoint) (e : Heard) (o : Option Point) → (up_hears s false e o).new.tick ≡ s.tick
up_tick s e None = refl
up_tick s e (Some p) = refl

pub line_tick : (s : LivePoint) (e : Event) → (hears_line s e).new.tick ≡ s.tick
line_tick s event.Callback = refl
line_tick s (event.Request c) = in_tick c Request s
line_tick s (event.Clear c) = in_tick c Clear s
line_tick s (event.Hangup c) = in_tick c Hangup s
line_tick s (event.Damaged c) = in_tick c Damaged s
line_tick s (event.FaultPoint c) = in_tick c Fault s
line_tick s (event.DropPoint c) = in_tick c (Ended why.Lost) s
line_tick s (event.Reset «end».Point) = up_tick s Reset s.session
line_tick s (event.Reset «end».Vehicle) = refl
line_tick s (event.Trigger cause) = refl
line_tick s event.Cancel = refl
line_tick s (event.Net up) = refl
line_tick s event.Answer = refl
line_tick s event.Fail = refl
line_tick s event.Sleep = refl
line_tick s event.FaultVehicle = refl
line_tick s event.DropVehicle = refl
line_tick s (event.DropBoth c) = refl
line_tick s (event.Deliver up c k) = refl
line_tick s (event.Flow up d) = refl
line_tick s (event.Tick n) = refl

-- a run has no fewer rounds than were begun, but for one
pub peer_least : (s : LivePoint) (refused : Option BadLine) (follows : Bool)
    → s.tick ≤ (at_peer_end s refused follows).rounds + 1
peer_least s refused true = omega arith
peer_least s None false = omega arith
peer_least s (Some bad) false = omega arith

on_least : (s : LivePoint) (stop : Stop) (messages : List Message) → s.tick ≤ (run_on s stop messages).rounds + 1
on_least s stop [] = omega arith
on_least s stop (ScriptEnd ∷ messages) = peer_least s None false
on_least s stop (Parts parts ∷ messages) =
    let tick = round_tick s parts in
    let more = on_least (round s parts).new stop messages in
    omega (arith, tick, more)

point_least : (s : LivePoint) (messages : List Message) (stop : Stop) (refused : Option BadLine) (beats : List Beat)
    → s.tick ≤ (run_from s messages stop refused beats).rounds + 1
point_least s messages stop None [] = on_least s stop messages
point_least s messages stop (Some bad) [] = omega arith
point_least s messages stop refused (Line e ∷ beats) =
    let tick = line_tick s e in
    let more = point_least (hears_line s e).new messages stop refused beats in
    omega (arith, tick, more)
point_least s [] stop refused (Round first ∷ beats) = omega arith
point_least s (ScriptEnd ∷ messages) stop refused (Round first ∷ beats) = peer_least s refused (lines_follow beats)
point_least s (Parts parts ∷ messages) stop refused (Round first ∷ beats) =
    let tick = round_tick s parts in
    let more = point_least (round s parts).new messages stop refused beats in
    omega (arith, tick, more)

pub point_counted : (passes start : ℕ) (s : LivePoint) (pending : List Beat) (rest : Rest) (place : ℕ)
    (more : List (List ℕ)) (others : List ℕ) → passes ≤ start + s.tick
    → passes ≤ start + (point_left s pending rest place more others).rounds + 1
point_counted passes start s pending rest place more others at_most =
    let r = rounds_from «end».Point [] [] place others in
    let least = point_least s r.messages r.stop (rest more).refused (pending ++ beats_of (rest more).events) in
    omega (arith, at_most, least)

-- of the rounds of a line, the ones behind the next
pub later_rounds : (done count : ℕ) → done < count
    → (first : Bool)
    × (rounds_left done count ≡ Round first ∷ replicate (count - (done + 1)) (Round false))
later_rounds zero count h = (true, refl)
later_rounds (suc done) count h = (false, by_count (count - suc done) (count - (suc done + 1)) (omega (arith, h)))
  where
    by_count : (n m : ℕ) → n ≡ suc m → replicate n (Round false) ≡ Round false ∷ replicate m (Round false)
    by_count n m e =
        subst (λ (k : ℕ). replicate k (Round false) ≡ Round false ∷ replicate m (Round false)) (sym e) refl

-- and these are those that are left behind it
pub left_rounds : (done count : ℕ) → rounds_left (done + 1) count ≡ replicate (count - (done + 1)) (Round false)
left_rounds done count =
    subst (λ (k : ℕ). rounds_left k count ≡ replicate (count - k) (Round false)) (next (suc done) (done + 1) (omega arith)) refl
  where
    next : (n m : ℕ) → n ≡ m → n ≡ m
    next n m e = e

-- A line that is heard at once.
module _ (over : Over) (start old now : LiveStreams) (side : PointSide) (lines : List (List ℕ)) (rest : Rest)
    (e : Event) (pending : List Beat) (at : PointAt over start old side lines rest (Line e ∷ pending))
    (from : now.from ≡ old.from) (to : now.to ≡ old.to) where
  same_line : (more : List (List ℕ)) (others : List ℕ)
      → over (lines ++ more) (at.brought.octets ++ others)
      ≡ run_behind (at.brought.turns ++ (hears_line at.left e).turns) at.brought.sent
      (point_left (hears_line at.left e).new pending rest (length at.brought.octets) more others)
  same_line more others =
      at.brought.same more others
      ∙ run_twice at.brought.turns (hears_line at.left e).turns at.brought.sent []
      (point_left (hears_line at.left e).new pending rest (length at.brought.octets) more others)
      ∙ ap (λ z. run_behind (at.brought.turns ++ (hears_line at.left e).turns) z
      (point_left (hears_line at.left e).new pending rest (length at.brought.octets) more others)) (append-nil at.brought.sent)

  -- all of it is told
  pub tells_line : (grew : List Entry → Type 0) (side' : PointSide)
      → ((es : List Entry) → grew es → Grew old.trace now.trace (text_of es))
      → PointActs grew side.end side'.end (λ s. hears_line s e) → side'.receiver ≡ side.receiver → now.passes ≡ old.passes
      → PointAt over start now side' lines rest pending
  tells_line grew side' is acts same passes =
      record {
        left = (hears_line at.left e).new;
        stands = acts.stands at.left at.stands;
        counted = let at_most = at.counted in let tick = line_tick at.left e in omega (arith, passes, at_most, tick);
        brought =
            record {
              octets = at.brought.octets;
              turns = at.brought.turns ++ (hears_line at.left e).turns;
              sent = at.brought.sent;
              stands = rw same (rw from at.brought.stands);
              traced =
                  subst (λ (z : List ℕ). Grew start.trace now.trace z)
                  (sym (turns_text at.brought.turns (hears_line at.left e).turns))
                  (Grew-append start.trace old.trace now.trace (text_of (entries_of at.brought.turns))
                  (text_of (entries_of (hears_line at.left e).turns)) at.brought.traced
                  (is (entries_of (hears_line at.left e).turns) (acts.told at.left at.stands)));
              wrote = rw to at.brought.wrote;
              same = same_line;
            };
      }

  -- a part of it is told
  pub tells_line_partly : (partly : List Entry → Type 0)
      → ((es : List Entry) → partly es → GrewPartly old.trace now.trace (text_of es))
      → PointActsPartly partly side.end (λ s. hears_line s e) → now.passes ≡ old.passes → CutOff over start now lines
  tells_line_partly partly is acts passes =
      cut_at over start now lines (at.brought.octets ++ side.receiver.octets.pending)
      (at.brought.turns ++ (hears_line at.left e).turns) at.brought.sent
      (λ more. point_left (hears_line at.left e).new pending rest (length at.brought.octets) more side.receiver.octets.pending)
      (rw from at.brought.stands.so_far.took)
      (λ more. same_line more side.receiver.octets.pending)
      (subst (λ (z : List ℕ). GrewPartly start.trace now.trace z)
      (sym (turns_text at.brought.turns (hears_line at.left e).turns))
      (GrewPartly-after start.trace old.trace now.trace (text_of (entries_of at.brought.turns))
      (text_of (entries_of (hears_line at.left e).turns)) at.brought.traced
      (is (entries_of (hears_line at.left e).turns) (acts at.left at.stands))))
      (λ more. GrewPartly-longer start.to now.to at.brought.sent
      (point_left (hears_line at.left e).new pending rest (length at.brought.octets) more side.receiver.octets.pending).octets
      (GrewPartly-whole start.to now.to at.brought.sent (rw to at.brought.wrote)))
      (λ more. point_counted now.passes start.passes (hears_line at.left e).new pending rest (length at.brought.octets) more
      side.receiver.octets.pending
      (let at_most = at.counted in let tick = line_tick at.left e in omega (arith, passes, at_most, tick)))
