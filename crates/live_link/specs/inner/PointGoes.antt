-- Where the run of the point's end stands between two beats, and what a message, a round and a line make of that. Cited
-- by private contracts alone.
use Rattle.std.specs.Prelude.{◌≡◌, ℕ, ◌+◌, ◌≤◌, Bool, false, List, [], ◌∷◌, ◌++◌, length, replicate, Option, None, Result, Ok, Err}
use Rattle.call_io.specs.Bytes.{Took, Grew}
use Rattle.line_input.specs.Lines.{most_bytes}
use Rattle.line_input.specs.Reading.{Reading}
use Rattle.line_input.specs.Taken.{LinesSoFar}
use Rattle.link_frames.specs.declared.frame.End.TheVariants as «end»
use Rattle.link_parts.specs.Messages.{message_octets}
use Rattle.trace_text.specs.EntryLine.{text_of}
use Rattle.trace_text.specs.Script.{Said}
use Rattle.live_link.specs.LiveOutcome.{LiveOutcome, LiveStreams, Over}
use Rattle.live_link.specs.PointLive.{LivePoint, at_peer_end, lines_follow, round}
use Rattle.live_link.specs.Runs.{Beat, Ending, Round, Run, beat_of, beats_of, run_behind}
use Rattle.live_link.specs.Runs as ending
use Rattle.live_link.specs.Scripts.{script_from}
use Rattle.live_link.specs.Turns.{Turn, entries_of}
use Rattle.live_link.specs.declared.answer.LiveStatus.{LiveStatus}
use Rattle.live_link.specs.declared.answer.LiveStatus.TheVariants as status
use Rattle.live_link.specs.declared.point_run.PointSide.{PointSide}
use Rattle.live_link.specs.declared.receiver.Came.{Came}
use Rattle.live_link.specs.declared.receiver.Came.TheVariants as came
use Rattle.live_link.specs.inner.Brought.{Brought, Rest, RoundEnds, no_last, point_left}
use Rattle.live_link.specs.inner.PointEnd.{PointStandsFor}
use Rattle.live_link.specs.inner.Receiving.{StandsBehind}

-- The end stands for what these lines and the octets that came left of it, with these beats of the last line to come.
pub record PointAt (over : Over) (start now : LiveStreams) (side : PointSide) (lines : List (List ℕ)) (rest : Rest)
    (pending : List Beat) : Type 0 where
  pub left : LivePoint
  pub stands : PointStandsFor side.end left
  pub counted : now.passes ≤ start.passes + left.tick
  pub brought : Brought over start now side.receiver lines (point_left left pending rest)

-- A message was read, and the rest of the round is to come: its own message is the first that is written.
pub record PointRead (over : Over) (start now : LiveStreams) (side : PointSide) (lines : List (List ℕ)) (rest : Rest)
    (pending : List Beat) : Type 0 where
  pub left : LivePoint
  pub stands : PointStandsFor side.end left
  pub counted : now.passes ≤ start.passes + left.tick
  pub octets : List ℕ
  pub turns : List Turn
  pub sent : List ℕ
  pub behind : StandsBehind start.from now.from side.receiver octets
  pub traced : Grew start.trace now.trace (text_of (entries_of turns))
  pub wrote : Grew start.to now.to sent
  pub same :
      (more : List (List ℕ)) (others : List ℕ)
      → over (lines ++ more) (octets ++ others)
      ≡ run_behind (turns ++ (round left side.parts.items).turns) (sent ++ message_octets left.gathered)
      (point_left (round left side.parts.items).new pending rest (length octets) more others)

-- In place of a message the vehicle's script was at its end: the next line decides.
pub record PeerAt (over : Over) (start now : LiveStreams) (lines : List (List ℕ)) (rest : Rest) : Type 0 where
  pub left : LivePoint
  pub octets : List ℕ
  pub pending : List ℕ
  pub turns : List Turn
  pub sent : List ℕ
  pub counted : now.passes ≤ start.passes + left.tick
  pub took : Took start.from now.from (octets ++ pending)
  pub within : length octets ≤ most_bytes
  pub traced : Grew start.trace now.trace (text_of (entries_of turns))
  pub wrote : Grew start.to now.to sent
  pub same :
      (more : List (List ℕ)) (others : List ℕ)
      → over (lines ++ more) (octets ++ others)
      ≡ run_behind turns sent (at_peer_end left (rest more).refused (lines_follow (beats_of (rest more).events)))

-- what is read in a round
abbrev pub ReadsRound : Over → (start now : LiveStreams) → PointSide → (lines : List (List ℕ)) → Rest
    → (pending : List Beat) → Result Came LiveStatus → Type 0
ReadsRound over start now side lines rest pending (Ok came.Message) = PointRead over start now side lines rest pending
ReadsRound over start now side lines rest pending (Ok came.ScriptEnd) = PeerAt over start now lines rest
ReadsRound over start now side lines rest pending (Err how) = RoundEnds over start now lines how

-- what a round, and the beats of a line, come to
abbrev pub PointComes : Over → (start now : LiveStreams) → PointSide → (lines : List (List ℕ)) → Rest
    → (pending : List Beat) → Result Came LiveStatus → Type 0
PointComes over start now side lines rest pending (Ok came.Message) = PointAt over start now side lines rest pending
PointComes over start now side lines rest pending (Ok came.ScriptEnd) = PeerAt over start now lines rest
PointComes over start now side lines rest pending (Err how) = RoundEnds over start now lines how

-- a message is answered
abbrev pub Replies : Over → (start now : LiveStreams) → PointSide → (lines : List (List ℕ)) → Rest
    → (pending : List Beat) → Result Unit LiveStatus → Type 0
Replies over start now side lines rest pending (Ok _) = PointAt over start now side lines rest pending
Replies over start now side lines rest pending (Err how) = RoundEnds over start now lines how

-- a script of no more lines
abbrev pub no_more : Rest
no_more lines = record { facts = None; events = []; refused = None }

-- Behind its script the run ends so, or in a round.
pub record DoneAt (over : Over) (start now : LiveStreams) (lines : List (List ℕ)) : Type 0 where
  pub octets : List ℕ
  pub pending : List ℕ
  pub run : Run
  pub took : Took start.from now.from (octets ++ pending)
  pub within : length octets ≤ most_bytes
  pub ended : run.ending ≡ ending.Done
  pub traced : Grew start.trace now.trace (text_of (entries_of run.turns))
  pub wrote : Grew start.to now.to run.octets
  pub counted : now.passes ≤ start.passes + run.rounds + 1
  pub same : (more : List (List ℕ)) (others : List ℕ) → over (lines ++ more) (octets ++ others) ≡ run

abbrev pub EndsOn : Over → (start now : LiveStreams) → (lines : List (List ℕ)) → LiveStatus → Type 0
EndsOn over start now lines status.Done = DoneAt over start now lines
EndsOn over start now lines how = RoundEnds over start now lines how

-- Between two lines of the script.
pub record PointOver (over : Over) (start now : LiveStreams) (side : PointSide) (reading : Reading) : Type 0 where
  pub lines : List (List ℕ)
  pub said : Said
  pub so_far : LinesSoFar start.script now.script reading lines
  pub at : PointAt over start now side lines (script_from «end».Point said (length lines + 1)) []

-- what a line comes to
abbrev pub PointTurns : Over → (start now : LiveStreams) → PointSide → Reading → Result Unit LiveStatus → Type 0
PointTurns over start now side reading (Ok _) = PointOver over start now side reading
PointTurns over start now side reading (Err how) = LiveOutcome no_last over start now how

-- The same from any place to stand.

abbrev pub Told : Type 0
Told = (script : Option (List ℕ)) → LiveStreams

-- a message is read, with so many more rounds of the line to come
abbrev pub ReceivesFrom : (old new : (script to : Option (List ℕ)) → (passes : ℕ) → LiveStreams)
    → (side side' : PointSide) → Result Came LiveStatus → Type 0
ReceivesFrom old new side side' result =
    (over : Over) (start : LiveStreams) (script to : Option (List ℕ)) (passes : ℕ) (lines : List (List ℕ)) (rest : Rest)
    (first : Bool) (later : ℕ)
    → PointAt over start (old script to passes) side lines rest (Round first ∷ replicate later (Round false))
    → ReadsRound over start (new script to passes) side' lines rest (replicate later (Round false)) result

-- a message is answered
abbrev pub RepliesFrom : (old new : (script from : Option (List ℕ)) → LiveStreams) → (side side' : PointSide)
    → Result Unit LiveStatus → Type 0
RepliesFrom old new side side' result =
    (over : Over) (start : LiveStreams) (script from : Option (List ℕ)) (lines : List (List ℕ)) (rest : Rest)
    (pending : List Beat)
    → PointRead over start (old script from) side lines rest pending
    → Replies over start (new script from) side' lines rest pending result

-- a round is done
abbrev pub PointRoundFrom : (old new : Told) → (side side' : PointSide) → Result Came LiveStatus → Type 0
PointRoundFrom old new side side' result =
    (over : Over) (start : LiveStreams) (script : Option (List ℕ)) (lines : List (List ℕ)) (rest : Rest)
    (first : Bool) (later : ℕ)
    → PointAt over start (old script) side lines rest (Round first ∷ replicate later (Round false))
    → PointComes over start (new script) side' lines rest (replicate later (Round false)) result

-- these beats are done
abbrev pub PointBeatsFrom : (old new : Told) → (side side' : PointSide) → (beats : List Beat) → Result Came LiveStatus
    → Type 0
PointBeatsFrom old new side side' beats result =
    (over : Over) (start : LiveStreams) (script : Option (List ℕ)) (lines : List (List ℕ)) (rest : Rest)
    → PointAt over start (old script) side lines rest beats
    → PointComes over start (new script) side' lines rest [] result

-- the run goes on without events
abbrev pub OnFrom : (old new : Told) → PointSide → LiveStatus → Type 0
OnFrom old new side how =
    (over : Over) (start : LiveStreams) (script : Option (List ℕ)) (lines : List (List ℕ))
    → PointAt over start (old script) side lines no_more []
    → EndsOn over start (new script) lines how
