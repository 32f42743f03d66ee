-- The run of an end of a live link: its turns, the octets that it wrote to the other end, how many whole rounds it had,
-- and how it ended. This project's profile. Cited by the runs of both ends.
use Rattle.std.specs.Prelude.{ℕ, ◌-◌, Bool, true, false, List, [], ◌∷◌, ◌++◌, Option, Some, None, replicate}
use Rattle.std.specs.List.{flat_map}
use Rattle.trace_model.specs.declared.event.Event.{Event}
use Rattle.trace_model.specs.declared.event.Event.TheVariants as event
use Rattle.line_input.specs.declared.reason.BadLine.{BadLine}
use Rattle.live_link.specs.Turns.{Turn}
use Rattle.link_parts.specs.Rounds.{Stop}

-- One line of a script, as an end takes it: something that it hears at once, or rounds. The first round of a line is
-- told apart.
pub data Beat : Type 0 where
  Line : Event → Beat
  Round : (first : Bool) → Beat

abbrev pub rounds_of : ℕ → List Beat
rounds_of n = Round true ∷ replicate (n - 1) (Round false)

abbrev pub beat_of : Event → List Beat
beat_of (event.Tick n) = rounds_of n
beat_of e = Line e ∷ []

abbrev pub beats_of : List Event → List Beat
beats_of events = flat_map beat_of events

-- How a run ended.
pub data Ending : Type 0 where
  Done : Ending
  Refused : BadLine → Ending
  PeerEnded : Ending
  LinkStopped : Stop → Ending

pub record Run : Type 0 where
  pub turns : List Turn
  pub octets : List ℕ
  pub rounds : ℕ
  pub ending : Ending

-- these turns and octets, and then a run
abbrev pub run_behind : List Turn → List ℕ → Run → Run
run_behind turns octets run = record run { turns = turns ++ run.turns; octets = octets ++ run.octets }

-- What some hearings do: their turns, and the end's state behind them.
pub record Steps (S : Type 0) : Type 0 where
  pub turns : List Turn
  pub new : S

abbrev pub quiet : {S : Type 0} → S → Steps S
quiet s = record { turns = []; new = s }

abbrev pub and_then : {S : Type 0} → Steps S → (S → Steps S) → Steps S
and_then first second = record { turns = first.turns ++ (second first.new).turns; new = (second first.new).new }

abbrev pub each : {S A : Type 0} → (S → A → Steps S) → S → List A → Steps S
each step s [] = quiet s
each step s (a ∷ more) = and_then (step s a) (λ u. each step u more)

-- the run ends at the end of a script, or at its refused line, in front of which the round was not whole
abbrev pub at_script_end : (tick : ℕ) → (last : List ℕ) → Option BadLine → Run
at_script_end tick last None = record { turns = []; octets = last; rounds = tick; ending = Done }
at_script_end tick last (Some line) = record { turns = []; octets = []; rounds = tick - 1; ending = Refused line }
