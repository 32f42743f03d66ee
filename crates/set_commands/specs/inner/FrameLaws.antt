-- The law of `frames` as a command over lines, proved. Cited by that command.
use Rattle.std.specs.Prelude.{◌≡◌, ℕ, ◌+◌, List, ◌∷◌, Option, None, Result, Ok, Err}
use Rattle.std.proofs.Common.{sym, refl, subst, arith}
use Rattle.link_frames.specs.Reading as frames
use Rattle.line_input.specs.declared.reason.Reason.{Reason}
use Rattle.set_commands.specs.Decode.{judged_set}
use Rattle.set_commands.specs.Frames.{AreFrames, ClosesFrames, IsLineOfFrames, rest_line}
use Rattle.command_base.specs.LineCommands.{IsLined}
use Rattle.command_base.specs.Refusals.{Reply, refusal_reply}
use Rattle.command_base.specs.declared.refusal.Refused.TheVariants as refused
use Rattle.command_base.specs.declared.status.Status.TheVariants as status
use Rattle.set_commands.specs.inner.DecodeLaws.{judged_set-passed, judged_set-fault}
use Rattle.set_commands.specs.inner.FrameReplies.{frames_some}
use Rattle.set_commands.specs.inner.FrameTurns.{FollowFrames, FramesSeen, FramesStand}

-- a line that is judged so has this reply
pub by_place : (number : ℕ) (text : List ℕ) (texts : List (List ℕ)) (seen : FramesSeen)
    (place : Result (Option (List ℕ)) Reason) (r : Reply) → judged_set text ≡ place
    → IsLineOfFrames number place seen.stream seen.ended (AreFrames (number + 1) texts) r
    → FollowFrames seen number (text ∷ texts) r
by_place number text texts seen place r judged is =
    subst (λ (p : Result (Option (List ℕ)) Reason).
    IsLineOfFrames number p seen.stream seen.ended (AreFrames (number + 1) texts) r) (sym judged) is

-- the reply behind a stream is one to lines
pub frames_lined : (before : ℕ) (seen : FramesSeen) (reader : frames.Reading) → FramesStand before seen reader
    → IsLined (FollowFrames seen) (λ number texts. 0) ClosesFrames
frames_lined before seen reader s =
    record {
      done = λ number. (
        record { text = rest_line reader.kept; status = status.Done },
        record { unfinished = reader.kept; holds = s.read.holds; says = refl },
        refl,
        (reader.kept, refl),
      );
      some = λ number texts. frames_some number texts seen.stream seen.ended reader.kept s.read.holds;
      passed = λ number text texts r passed follows.
          by_place number text texts seen (Ok None) r (judged_set-passed text passed) follows;
      counted = λ number text texts passed. omega arith;
      faulty = λ number text texts why fails.
          by_place number text texts seen (Err why)
          (refusal_reply (refused.Line (record { line = number; reason = why })))
          (judged_set-fault text why fails) refl;
    }
