-- How far the lines and the octets that came have brought the run of an end, whatever follows, and how a round of it
-- ends. Cited by private contracts alone.
use Rattle.std.specs.Prelude.{◌≡◌, ℕ, ◌+◌, ◌<◌, ◌≤◌, List, [], ◌++◌, length}
use Rattle.std.specs.Io.KnownBytes.{IsAtEnd}
use Rattle.call_io.specs.Bytes.{Took, Grew, GrewPartly}
use Rattle.line_input.specs.Lines.{most_bytes}
use Rattle.link_frames.specs.declared.frame.End.TheVariants as «end»
use Rattle.link_parts.specs.Rounds.{LinkCut, Faulty, Rounds, Stop, parts_in, rounds_from}
use Rattle.trace_text.specs.EntryLine.{text_of}
use Rattle.trace_text.specs.Script.{Script}
use Rattle.live_link.specs.LiveOutcome.{LiveStreams, Over}
use Rattle.live_link.specs.PointLive as point
use Rattle.live_link.specs.PointLive.{LivePoint}
use Rattle.live_link.specs.Runs.{Beat, Ending, Run, beats_of, run_behind}
use Rattle.live_link.specs.Runs as ending
use Rattle.live_link.specs.Turns.{Turn, entries_of}
use Rattle.live_link.specs.VehicleLive as vehicle
use Rattle.live_link.specs.VehicleLive.{LiveVehicle}
use Rattle.live_link.specs.declared.answer.LiveStatus.{LiveStatus}
use Rattle.live_link.specs.declared.answer.LiveStatus.TheVariants as status
use Rattle.live_link.specs.declared.receiver.Receiver.{Receiver}
use Rattle.live_link.specs.inner.Receiving.{StandsBehind}

-- a trace whose last line is not written yet
abbrev pub no_last : Ending → List ℕ
no_last how = []

-- what the lines still to come say
abbrev pub Rest : Type 0
Rest = List (List ℕ) → Script

-- What is left of a vehicle's run, with the beats that are still to come of the last line, behind so many octets.
abbrev pub vehicle_behind : LiveVehicle → (pending : List Beat) → Script → Rounds → Run
vehicle_behind s pending script r =
    vehicle.run_from s (parts_in r.messages) r.stop script.refused (pending ++ beats_of script.events)

abbrev pub vehicle_left : LiveVehicle → (pending : List Beat) → Rest → (place : ℕ) → Over
vehicle_left s pending rest place lines octets =
    vehicle_behind s pending (rest lines) (rounds_from «end».Vehicle [] [] place octets)

-- the same of a point's
abbrev pub point_behind : LivePoint → (pending : List Beat) → Script → Rounds → Run
point_behind s pending script r =
    point.run_from s r.messages r.stop script.refused (pending ++ beats_of script.events)

abbrev pub point_left : LivePoint → (pending : List Beat) → Rest → (place : ℕ) → Over
point_left s pending rest place lines octets =
    point_behind s pending (rest lines) (rounds_from «end».Point [] [] place octets)

-- These lines and octets came, with these turns told and these octets written, and the run is what is left of it behind
-- them, whatever follows.
pub record Brought (over : Over) (start now : LiveStreams) (r : Receiver) (lines : List (List ℕ)) (left : ℕ → Over)
    : Type 0 where
  pub octets : List ℕ
  pub turns : List Turn
  pub sent : List ℕ
  pub stands : StandsBehind start.from now.from r octets
  pub traced : Grew start.trace now.trace (text_of (entries_of turns))
  pub wrote : Grew start.to now.to sent
  pub same :
      (more : List (List ℕ)) (others : List ℕ)
      → over (lines ++ more) (octets ++ others) ≡ run_behind turns sent (left (length octets) more others)

-- The same of what was taken of the other end, whatever reads it.
pub record Standing (over : Over) (start now : LiveStreams) (lines : List (List ℕ)) (left : ℕ → Over) : Type 0 where
  pub octets : List ℕ
  pub pending : List ℕ
  pub turns : List Turn
  pub sent : List ℕ
  pub took : Took start.from now.from (octets ++ pending)
  pub within : length octets ≤ most_bytes
  pub traced : Grew start.trace now.trace (text_of (entries_of turns))
  pub wrote : Grew start.to now.to sent
  pub same :
      (more : List (List ℕ)) (others : List ℕ)
      → over (lines ++ more) (octets ++ others) ≡ run_behind turns sent (left (length octets) more others)
  pub counted :
      (more : List (List ℕ)) (others : List ℕ)
      → now.passes ≤ start.passes + (left (length octets) more others).rounds + 1

-- These lines came, and octets at which the link stops the run, whatever lines follow.
pub record LinkEnded (over : Over) (start now : LiveStreams) (lines : List (List ℕ)) (stop : Stop) : Type 0 where
  pub octets : List ℕ
  pub run : Run
  pub took : Took start.from now.from octets
  pub same : (more : List (List ℕ)) → over (lines ++ more) octets ≡ run
  pub ended : run.ending ≡ ending.LinkStopped stop
  pub traced : Grew start.trace now.trace (text_of (entries_of run.turns))
  pub wrote : Grew start.to now.to run.octets
  pub counted : now.passes ≤ start.passes + run.rounds + 1

-- These lines and octets came, and fronts were written of what the run over them writes, whatever lines follow.
pub record CutOff (over : Over) (start now : LiveStreams) (lines : List (List ℕ)) : Type 0 where
  pub octets : List ℕ
  pub took : Took start.from now.from octets
  pub traced :
      (more : List (List ℕ))
      → GrewPartly start.trace now.trace (text_of (entries_of (over (lines ++ more) octets).turns))
  pub wrote : (more : List (List ℕ)) → GrewPartly start.to now.to (over (lines ++ more) octets).octets
  pub counted : (more : List (List ℕ)) → now.passes ≤ start.passes + (over (lines ++ more) octets).rounds + 1

-- Behind as many octets as may be taken the run is still within a round, whatever lines follow.
pub record LinkOver (over : Over) (lines : List (List ℕ)) (octets : List ℕ) : Type 0 where
  pub front : List ℕ
  pub rest : List ℕ
  pub split : octets ≡ front ++ rest
  pub full : length front ≡ most_bytes
  pub beyond : 0 < length rest
  pub wants : (more : List (List ℕ)) → (over (lines ++ more) front).ending ≡ ending.LinkStopped LinkCut

-- the run is this one, whatever lines follow these, and whatever octets those
abbrev pub Stays : Over → (lines : List (List ℕ)) → (octets : List ℕ) → Run → Type 0
Stays over lines octets run =
    (more : List (List ℕ)) (others : List ℕ) → over (lines ++ more) (octets ++ others) ≡ run

-- how a run ends in a round
abbrev pub RoundEnds : Over → (start now : LiveStreams) → (lines : List (List ℕ)) → LiveStatus → Type 0
RoundEnds over start now lines status.LinkCut =
    (e : LinkEnded over start now lines LinkCut) × IsAtEnd now.from × (length e.octets ≤ most_bytes)
RoundEnds over start now lines (status.LinkFault fault) =
    (e : LinkEnded over start now lines (Faulty fault)) × Stays over lines e.octets e.run × (fault.place < most_bytes)
RoundEnds over start now lines status.ReadFault = CutOff over start now lines
RoundEnds over start now lines status.WriteFault = CutOff over start now lines
RoundEnds over start now lines status.Memory = CutOff over start now lines
RoundEnds over start now lines status.TooLong =
    (c : CutOff over start now lines) × LinkOver over lines c.octets
RoundEnds over start now lines _ = ⊥
