-- What a dial series does at each event and at each unit tick: the moves, then one line for each row. After EN 16072
-- (redial); the order of timers that end together is this project's profile. Cited by the contracts of `Redial`.
use Rattle.std.specs.Prelude.{ℕ, zero, suc, Bool, true, false, List, [], ◌∷◌, Option, Some, None, ◌+◌, ◌==◌, ◌||◌, nat_le, if◌then◌else◌}
use Rattle.link_frames.specs.declared.note.Timer.{Timer}
use Rattle.link_frames.specs.declared.note.Timer.TheVariants as timer
use Rattle.link_frames.specs.Ranks.{Deadline, first_of, left, soonest}
use Rattle.redial.specs.declared.series.Move.{Move}
use Rattle.redial.specs.declared.series.Next.{Next}
use Rattle.redial.specs.declared.series.Next.TheVariants as next
use Rattle.redial.specs.declared.series.Phase.{Phase}
use Rattle.redial.specs.declared.series.Phase.TheVariants.{Dialling, Pausing, Seeking, Over}
use Rattle.redial.specs.declared.series.Series.{Series}
use Rattle.redial.specs.declared.series.Ticked.{Ticked}
use Rattle.redial.specs.declared.series.Turn.{Turn}
use Rattle.redial.specs.Series.{longest_attempt, pause, window, most_attempts}

-- The moves.

-- the next attempt
abbrev pub dials : Series → Move
dials s = record { next = next.Dial (s.attempts + 1); new = record s { phase = Dialling 0; attempts = s.attempts + 1 } }

abbrev pub seeks : Series → Move
seeks s = record { next = next.Seek; new = record s { phase = Seeking } }

abbrev pub pauses : Series → Move
pauses s = record { next = next.Pause; new = record s { phase = Pausing 0 } }

abbrev pub gives_up : Series → Move
gives_up s = record { next = next.GaveUp; new = record s { phase = Over } }

-- an attempt failed: it was the last one, or the window is over, or there is a pause
abbrev pub fails : Series → Move
fails s = if s.attempts == most_attempts || nat_le window s.ticks then gives_up s else pauses s

-- the next attempt where there is network
abbrev pub goes_on : Series → Move
goes_on s = if s.net then dials s else seeks s

-- a series of this network, before its first attempt
abbrev pub first_series : (net : Bool) → Series
first_series net = record { phase = Seeking; net = net; attempts = 0; ticks = 0 }

abbrev pub begins : (net : Bool) → Move
begins net = goes_on (first_series net)

-- The network comes up or goes down.

-- What the series does when it is told of it, if anything, and the series then.
pub record Told : Type 0 where
  pub next : Option Next
  pub new : Series

abbrev pub moves : Move → Told
moves move = record { next = Some move.next; new = move.new }

abbrev pub stays : Series → Told
stays s = record { next = None; new = s }

abbrev pub net_row : (up : Bool) → Series → Phase → Told
net_row true s Seeking = moves (dials s)
net_row true s (Dialling ticks) = stays s
net_row true s (Pausing ticks) = stays s
net_row true s Over = stays s
net_row false s (Dialling ticks) = moves (fails s)
net_row false s (Pausing ticks) = stays s
net_row false s Seeking = stays s
net_row false s Over = stays s

abbrev pub told : (up : Bool) → Series → Told
told up s = net_row up (record s { net = up }) s.phase

-- The unit tick.

-- no line acts
abbrev pub quiet : Series → Ticked
quiet s = record { turn = None; new = s }

-- a line: after so many ticks a timer ends, which a trace names or not, and the series makes this move
abbrev pub at : (limit elapsed : ℕ) → Option Timer → Move → Deadline Ticked
at limit elapsed ended move =
    record {
      left = left limit elapsed;
      row = record { turn = Some (record { ended = ended; next = move.next }); new = move.new };
    }

-- the lines of a phase, by rank
abbrev pub deadlines : Series → Phase → List (Deadline Ticked)
deadlines s (Dialling ticks) = at longest_attempt ticks (Some timer.TD) (fails s) ∷ []
deadlines s (Pausing ticks) = at window s.ticks (Some timer.TW) (gives_up s) ∷ at pause ticks None (goes_on s) ∷ []
deadlines s Seeking = at window s.ticks (Some timer.TW) (gives_up s) ∷ []
deadlines s Over = []

-- each sum that runs, n ticks later
abbrev pub grown_in : ℕ → Series → Phase → Series
grown_in n s (Dialling ticks) = record s { phase = Dialling (ticks + n); ticks = s.ticks + n }
grown_in n s (Pausing ticks) = record s { phase = Pausing (ticks + n); ticks = s.ticks + n }
grown_in n s Seeking = record s { ticks = s.ticks + n }
grown_in n s Over = s

abbrev pub grown : ℕ → Series → Series
grown n s = grown_in n s s.phase

-- what the lines bring that have no tick left
abbrev pub acts : Series → Ticked
acts s = first_of (quiet s) (deadlines s s.phase)

-- one unit tick: the sums grow by one, and a line acts
abbrev pub unit_tick : Series → Ticked
unit_tick s = acts (grown 1 s)

-- What several unit ticks give, in order, and the series behind them.
pub record Units : Type 0 where
  pub turns : List Turn
  pub new : Series

-- the units behind the first one
abbrev pub and_then : Option Turn → Units → Units
and_then None units = units
and_then (Some turn) units = record units { turns = turn ∷ units.turns }

abbrev pub unit_ticks : ℕ → Series → Units
unit_ticks zero s = record { turns = []; new = s }
unit_ticks (suc n) s = and_then (unit_tick s).turn (unit_ticks n (unit_tick s).new)

-- after how many unit ticks a line acts; None where the series is over
abbrev pub due_of : Series → Option ℕ
due_of s = let next : Series = grown 1 s in soonest (deadlines next next.phase)
