-- What a line comes to, by what is read in it.
use Rattle.std.specs.Prelude.{◌≡◌, ℕ, false, List, Option, Some, Result, Ok, Err}
use Rattle.std.proofs.Common.{sym, ap, subst, ◌∙◌, inl, inr}
use Rattle.call_io.specs.Bytes.{Grew, GrewPartly}
use Rattle.line_input.specs.Lines.{Numbered, line_answer}
use Rattle.line_input.specs.declared.reason.BadLine.{BadLine}
use Rattle.line_input.specs.declared.reason.Reason.{Reason}
use Rattle.trace_text.specs.EntryLine.{text_of}
use Rattle.trace_text.specs.Script.{placed_line, script_line}
use Rattle.trace_text.specs.declared.script.ScriptLine.{ScriptLine}
use Rattle.command_base.specs.Ends.{EndsWithText}
use Rattle.command_base.specs.Refusals.{refusal_line}
use Rattle.command_base.specs.declared.refusal.Refused.TheVariants as refused
use Rattle.command_base.specs.declared.status.Status.{Status}
use Rattle.command_base.specs.declared.status.Status.TheVariants as status
use Rattle.script_stage.specs.declared.stage.Stage.{Stage}
use Rattle.script_stage.proofs.PlayedLines.{plays_refused}
use Rattle.tones_command.specs.declared.sent.SentFrames.{SentFrames}
use Rattle.tones_command.specs.inner.Hearing.{FramesGrew}
use Rattle.tones_command.specs.inner.ToneSeen.{ToneSeen}
use Rattle.tones_command.specs.inner.ToneTurns.{LineTurn, PlaysTones, SaidTurn, line_draws, line_lost}

pub read_ok : (line : Numbered) (says : ScriptLine) → (r : Result ScriptLine Reason) → Ok says ≡ line_answer line r
    → r ≡ Ok says
read_ok line says (Ok told) h = cc
read_ok line says (Err why) h = absurd (cc)

read_err : (line : Numbered) (bad : BadLine) (told : ScriptLine) → (r : Result ScriptLine Reason)
    → Err bad ≡ line_answer line r → r ≡ Ok told → ⊥
read_err line bad told (Ok says) h e = cc
read_err line bad told (Err why) h e = cc

same_read : (a b : ScriptLine) (r : Result ScriptLine Reason) → r ≡ Ok a → r ≡ Ok b → a ≡ b
same_read a b r p q = cc

-- what is said was read
pub line_said : (line : Numbered) (says : ScriptLine) (number : ℕ) (seen : ToneSeen) (old new : Stage)
    (frames frames' : SentFrames) (held held' : Option (List ℕ)) (Counted : ℕ → Type 0) (answer : Option Status)
    → Ok says ≡ line_answer line (script_line line.text) → number ≡ line.number
    → SaidTurn seen says number old new frames frames' held held' Counted answer
    → LineTurn seen line.text line.number old new frames frames' held held' Counted answer
line_said line says number seen old new frames frames' held held' Counted answer h same (inl lost) =
    inl (record { says = says; reads = read_ok line says (script_line line.text) h; lost = lost.0 }, lost.1)
line_said line says number seen old new frames frames' held held' Counted answer h same (inr left) =
    let reads = read_ok line says (script_line line.text) h in
    inr (
      λ told e. subst (λ (s : ScriptLine). line_lost seen s ≡ false) (same_read says told (script_line line.text) reads e) left.0,
      subst (λ (n : ℕ). PlaysTones (placed_line seen.said (script_line line.text)) n seen old new frames frames' held held' Counted answer)
          same
          (subst (λ (r : Result ScriptLine Reason).
          PlaysTones (placed_line seen.said r) number seen old new frames frames' held held' Counted answer) (sym reads) left.1),
    )

pub draws_said : (line : Numbered) (says told : ScriptLine) (seen : ToneSeen) (x : ℕ)
    → Ok says ≡ line_answer line (script_line line.text) → x ≡ line_draws seen says → script_line line.text ≡ Ok told
    → x ≡ line_draws seen told
draws_said line says told seen x h is e =
    is ∙ ap (line_draws seen) (same_read says told (script_line line.text) (read_ok line says (script_line line.text) h) e)

-- what is refused was refused
pub line_refused : (line : Numbered) (bad : BadLine) (seen : ToneSeen) (stage : Stage) (frames : SentFrames)
    (held held' : Option (List ℕ)) (Counted : ℕ → Type 0) (answer : Status) → Counted 0
    → Err bad ≡ line_answer line (script_line line.text)
    → EndsWithText held held' (refusal_line (refused.Line bad)) (status.Refused (refused.Line bad)) answer
    → LineTurn seen line.text line.number stage stage frames frames held held' Counted (Some answer)
line_refused line bad seen stage frames held held' Counted answer none h ends =
    inr (
      λ told e. absurd (read_err line bad told (script_line line.text) h e),
      plays_refused line bad (λ said events. Unit {0}) stage stage held held'
          (λ es. Grew held held' (text_of es) × FramesGrew frames frames es) (λ es. GrewPartly held held' (text_of es))
          Counted answer none h ends seen.said seen.toning.kept tt,
    )

pub no_draws : (line : Numbered) (bad : BadLine) (told : ScriptLine) (seen : ToneSeen) (x : ℕ)
    → Err bad ≡ line_answer line (script_line line.text) → script_line line.text ≡ Ok told → x ≡ line_draws seen told
no_draws line bad told seen x h e = absurd (read_err line bad told (script_line line.text) h e)
