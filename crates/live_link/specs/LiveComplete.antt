-- What is owed to a script and to octets of the other end that are all there and are no more than they may be: the
-- answer of the run over all of them, unless a read or a write failed or there was no memory. This project's profile.
-- Cited by the contracts of `live_vehicle`, `live_point` and `live`.
use Rattle.std.specs.Prelude.{◌≡◌, ℕ, ◌≤◌, ◌⊎◌, List, length, Some}
use Rattle.call_io.specs.Bytes.{Grew}
use Rattle.line_input.specs.Lines.{most_bytes}
use Rattle.link_parts.specs.Rounds as rounds
use Rattle.live_link.specs.LiveOutcome.{LiveStreams, Over, ending_line, run_over, trace_of}
use Rattle.live_link.specs.Runs.{Ending}
use Rattle.live_link.specs.Runs as ending
use Rattle.live_link.specs.declared.answer.LiveStatus.{LiveStatus}
use Rattle.live_link.specs.declared.answer.LiveStatus.TheVariants as status

-- the answer where a run ended so
abbrev pub status_of : Ending → LiveStatus
status_of ending.Done = status.Done
status_of (ending.Refused bad) = status.Refused bad
status_of ending.PeerEnded = status.PeerEnded
status_of (ending.LinkStopped rounds.LinkCut) = status.LinkCut
status_of (ending.LinkStopped (rounds.Faulty fault)) = status.LinkFault fault

-- a read or a write failed, or there was no memory
abbrev pub IsInterrupted : LiveStatus → Type 0
IsInterrupted status.ReadFault = Unit {0}
IsInterrupted status.WriteFault = Unit {0}
IsInterrupted status.Memory = Unit {0}
IsInterrupted _ = ⊥

-- the run over these was answered, and all of it written
pub record Completed (over : Over) (old new : LiveStreams) (script octets : List ℕ) (how : LiveStatus) : Type 0 where
  pub answer : how ≡ status_of (run_over over script octets).ending
  pub traced : Grew old.trace new.trace (trace_of ending_line (run_over over script octets))
  pub sent : Grew old.to new.to (run_over over script octets).octets

abbrev pub Completes : Over → (old new : LiveStreams) → LiveStatus → Type 0
Completes over old new how =
    (script octets : List ℕ) → old.script ≡ Some script → old.from ≡ Some octets → length script ≤ most_bytes
    → length octets ≤ most_bytes → Completed over old new script octets how ⊎ IsInterrupted how
