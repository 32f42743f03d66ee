-- What one line of `tones` comes to: it is lost, or it is played as every line of a script. Cited by the contracts of
-- private functions.
use Rattle.std.specs.Prelude.{◌≡◌, ℕ, ◌⊎◌, Bool, true, false, List, Option, Some, None, Result, Ok}
use Rattle.call_io.specs.Bytes.{Grew, GrewPartly}
use Rattle.link_frames.specs.declared.frame.Frame.{Frame}
use Rattle.line_input.specs.declared.reason.Reason.{Reason}
use Rattle.trace_text.specs.EntryLine.{text_of}
use Rattle.trace_text.specs.Script.{placed, placed_line, script_line}
use Rattle.trace_text.specs.declared.script.ScriptLine.{ScriptLine}
use Rattle.script_stage.specs.ScriptTurns.{PlaysTo}
use Rattle.script_stage.specs.declared.stage.Stage.{Stage}
use Rattle.command_base.specs.declared.status.Status.{Status}
use Rattle.tones_command.specs.Modem.{behind_frame, is_lost}
use Rattle.tones_command.specs.declared.sent.SentFrames.{SentFrames}
use Rattle.tones_command.specs.inner.Hearing.{FramesGrew}
use Rattle.tones_command.specs.inner.ToneSeen.{ToneSeen, line_carries}

-- whether a frame, if there is one, is lost
abbrev pub loses : (most x : ℕ) → Option Frame → Bool
loses most x None = false
loses most x (Some frame) = is_lost most x frame

-- x behind the draws of a frame, if there is one
abbrev pub draws_behind : (x : ℕ) → Option Frame → ℕ
draws_behind x None = x
draws_behind x (Some frame) = behind_frame x frame

-- whether a line is lost
abbrev pub line_lost : ToneSeen → ScriptLine → Bool
line_lost seen says = loses seen.most seen.toning.x (line_carries seen says)

-- x behind a line
abbrev pub line_draws : ToneSeen → ScriptLine → ℕ
line_draws seen says = draws_behind seen.toning.x (line_carries seen says)

-- Nothing happens.
pub record IsStill (old new : Stage) (frames frames' : SentFrames) (held held' : Option (List ℕ))
    (Counted : ℕ → Type 0) (answer : Option Status) : Type 0 where
  pub none : answer ≡ None
  pub same_stage : new ≡ old
  pub same_frames : frames' ≡ frames
  pub same_held : held' ≡ held
  pub counted : Counted 0

-- a line is played: the lines of its entries are written, and the frames that these send are kept
abbrev pub PlaysTones : Result (Option ScriptLine) Reason → (number : ℕ) → ToneSeen → (old new : Stage)
    → (frames frames' : SentFrames) → (held held' : Option (List ℕ)) → (Counted : ℕ → Type 0) → Option Status → Type 0
PlaysTones place number seen old new frames frames' held held' Counted answer =
    PlaysTo place number seen.said seen.toning.kept old new held held'
    (λ es. Grew held held' (text_of es) × FramesGrew frames frames' es) (λ es. GrewPartly held held' (text_of es))
    Counted answer

-- what is said is lost, or it is played
abbrev pub SaidTurn : ToneSeen → ScriptLine → (number : ℕ) → (old new : Stage) → (frames frames' : SentFrames)
    → (held held' : Option (List ℕ)) → (Counted : ℕ → Type 0) → Option Status → Type 0
SaidTurn seen says number old new frames frames' held held' Counted answer =
    ((line_lost seen says ≡ true) × IsStill old new frames frames' held held' Counted answer)
    ⊎ ((line_lost seen says ≡ false)
    × PlaysTones (placed seen.said says) number seen old new frames frames' held held' Counted answer)

-- this is read in the line, and it is lost
pub record IsLineLost (seen : ToneSeen) (text : List ℕ) : Type 0 where
  pub says : ScriptLine
  pub reads : script_line text ≡ Ok says
  pub lost : line_lost seen says ≡ true

-- the line is lost, or it is played, and what is read in it, if anything is, isn't lost
abbrev pub LineTurn : ToneSeen → (text : List ℕ) → (number : ℕ) → (old new : Stage) → (frames frames' : SentFrames)
    → (held held' : Option (List ℕ)) → (Counted : ℕ → Type 0) → Option Status → Type 0
LineTurn seen text number old new frames frames' held held' Counted answer =
    (IsLineLost seen text × IsStill old new frames frames' held held' Counted answer)
    ⊎ (((says : ScriptLine) → script_line text ≡ Ok says → line_lost seen says ≡ false)
    × PlaysTones (placed_line seen.said (script_line text)) number seen old new frames frames' held held' Counted
    answer)
