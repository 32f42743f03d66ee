-- Where the run of the vehicle's end stands between two beats, and what an exchange, a round and a line make of that.
-- Cited by private contracts alone.
use Rattle.std.specs.Prelude.{◌≡◌, ℕ, ◌+◌, ◌≤◌, Some, Bool, true, List, [], ◌∷◌, ◌++◌, length, Option, Result, Ok, Err}
use Rattle.call_io.specs.Bytes.{Grew}
use Rattle.line_input.specs.Reading.{Reading}
use Rattle.line_input.specs.Taken.{LinesSoFar}
use Rattle.link_frames.specs.declared.frame.End.TheVariants as «end»
use Rattle.msd_fit.specs.declared.facts.Facts.{Facts}
use Rattle.trace_model.specs.declared.event.Event.{Event}
use Rattle.trace_text.specs.EntryLine.{text_of}
use Rattle.trace_text.specs.Facts.{facts_in}
use Rattle.trace_text.specs.Script.{Said}
use Rattle.live_link.specs.LiveOutcome.{LiveOutcome, LiveStreams, Over, streams}
use Rattle.live_link.specs.Runs.{Beat, Round, beat_of, run_behind}
use Rattle.live_link.specs.Scripts.{script_from}
use Rattle.live_link.specs.Turns.{Turn, entries_of}
use Rattle.live_link.specs.VehicleLive.{LiveVehicle, round}
use Rattle.live_link.specs.declared.answer.LiveStatus.{LiveStatus}
use Rattle.live_link.specs.declared.vehicle_run.VehicleSide.{VehicleSide}
use Rattle.live_link.specs.inner.Brought.{Brought, Rest, RoundEnds, no_last, vehicle_left}
use Rattle.live_link.specs.inner.Receiving.{StandsBehind}
use Rattle.live_link.specs.inner.VehicleEnd.{EndStandsFor}

-- The end stands for what these lines and the octets that came left of it, with these beats of the last line to come.
pub record VehicleAt (over : Over) (start now : LiveStreams) (side : VehicleSide) (lines : List (List ℕ)) (rest : Rest)
    (pending : List Beat) : Type 0 where
  pub left : LiveVehicle
  pub stands : EndStandsFor side.end left
  pub counted : now.passes ≤ start.passes + left.tick
  pub brought : Brought over start now side.receiver lines (vehicle_left left pending rest)

-- The messages of a round were exchanged, and the rest of the round is to come.
pub record Exchanged (over : Over) (start now : LiveStreams) (side : VehicleSide) (lines : List (List ℕ)) (rest : Rest)
    (pending : List Beat) : Type 0 where
  pub left : LiveVehicle
  pub stands : EndStandsFor side.end left
  pub counted : now.passes ≤ start.passes + left.tick
  pub octets : List ℕ
  pub turns : List Turn
  pub sent : List ℕ
  pub behind : StandsBehind start.from now.from side.receiver octets
  pub traced : Grew start.trace now.trace (text_of (entries_of turns))
  pub wrote : Grew start.to now.to sent
  pub same :
      (more : List (List ℕ)) (others : List ℕ)
      → over (lines ++ more) (octets ++ others)
      ≡ run_behind (turns ++ (round left side.parts.items).turns) sent
      (vehicle_left (round left side.parts.items).new pending rest (length octets) more others)

abbrev pub Exchanges : Over → (start now : LiveStreams) → VehicleSide → (lines : List (List ℕ)) → Rest
    → (pending : List Beat) → Result Unit LiveStatus → Type 0
Exchanges over start now side lines rest pending (Ok _) = Exchanged over start now side lines rest pending
Exchanges over start now side lines rest pending (Err how) = RoundEnds over start now lines how

abbrev pub Comes : Over → (start now : LiveStreams) → VehicleSide → (lines : List (List ℕ)) → Rest
    → (pending : List Beat) → Result Unit LiveStatus → Type 0
Comes over start now side lines rest pending (Ok _) = VehicleAt over start now side lines rest pending
Comes over start now side lines rest pending (Err how) = RoundEnds over start now lines how

-- what is told outside but for the script and the count of rounds
abbrev pub Outside : Type 0
Outside = (script : Option (List ℕ)) → (passes : ℕ) → LiveStreams

abbrev pub outside : (trace from to : Option (List ℕ)) → Outside
outside trace from to script passes = streams script trace from to passes

-- the messages of a round are exchanged
abbrev pub ExchangesFrom : (old new : Outside) → (side side' : VehicleSide) → Result Unit LiveStatus → Type 0
ExchangesFrom old new side side' result =
    (over : Over) (start : LiveStreams) (script : Option (List ℕ)) (passes : ℕ) (lines : List (List ℕ)) (rest : Rest)
    (first : Bool) (pending : List Beat)
    → VehicleAt over start (old script passes) side lines rest (Round first ∷ pending)
    → Exchanges over start (new script passes) side' lines rest pending result

-- a round is done
abbrev pub RoundFrom : (old new : (script : Option (List ℕ)) → LiveStreams) → (side side' : VehicleSide)
    → Result Unit LiveStatus → Type 0
RoundFrom old new side side' result =
    (over : Over) (start : LiveStreams) (script : Option (List ℕ)) (lines : List (List ℕ)) (rest : Rest)
    (first : Bool) (pending : List Beat)
    → VehicleAt over start (old script) side lines rest (Round first ∷ pending)
    → Comes over start (new script) side' lines rest pending result

-- these beats are done
abbrev pub BeatsFrom : (old new : (script : Option (List ℕ)) → LiveStreams) → (side side' : VehicleSide)
    → (beats : List Beat) → Result Unit LiveStatus → Type 0
BeatsFrom old new side side' beats result =
    (over : Over) (start : LiveStreams) (script : Option (List ℕ)) (lines : List (List ℕ)) (rest : Rest)
    → VehicleAt over start (old script) side lines rest beats
    → Comes over start (new script) side' lines rest [] result

-- Behind the first event line: the run stands behind these lines, with these beats of the last of them to come.
pub record VehicleOver (over : Over) (start now : LiveStreams) (side : VehicleSide) (reading : Reading)
    (pending : List Beat) : Type 0 where
  pub lines : List (List ℕ)
  pub said : Said
  pub known : Facts
  pub so_far : LinesSoFar start.script now.script reading lines
  pub facts : facts_in said.facts ≡ Some known
  pub eventful : said.eventful ≡ true
  pub at : VehicleAt over start now side lines (script_from «end».Vehicle said (length lines + 1)) pending

-- what a line's beats, and the reading of the next line, come to
abbrev pub Turns : Over → (start now : LiveStreams) → VehicleSide → Reading → Result Event LiveStatus → Type 0
Turns over start now side reading (Ok next) = VehicleOver over start now side reading (beat_of next)
Turns over start now side reading (Err how) = LiveOutcome no_last over start now how

abbrev pub TurnsFrom : (old new : LiveStreams) → (side side' : VehicleSide) → (reading reading' : Reading) → Event
    → Result Event LiveStatus → Type 0
TurnsFrom old new side side' reading reading' event result =
    (over : Over) (start : LiveStreams) → VehicleOver over start old side reading (beat_of event)
    → Turns over start new side' reading' result

-- the run ends so
abbrev pub EndsFrom : (old new : LiveStreams) → VehicleSide → Reading → Event → LiveStatus → Type 0
EndsFrom old new side reading event how =
    (over : Over) (start : LiveStreams) → VehicleOver over start old side reading (beat_of event)
    → LiveOutcome no_last over start new how
