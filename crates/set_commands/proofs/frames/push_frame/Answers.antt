use Rattle.std.specs.Prelude.{List, ℕ, [], ◌∷◌, ◌++◌}
use Rattle.std.proofs.Common.{◌∙◌, ap}
use Rattle.link_frames.specs.Frame.{lent}
use Rattle.line_input.specs.Characters.{newline}
use Rattle.trace_text.specs.EntryLine.{frame_words, spaced}
use Rattle.set_commands.specs.Frames.{frame_line}
use Rattle.set_commands.proofs.FramesTaken.{spaced_frame}
use Rattle.set_commands.proofs.frames.push_frame.Goals as goal

pub returns : goal.returns
unfolding frame_line
returns g c =
    c.push.ensures.items
    ∙ ap (λ (words : List ℕ). words ++ newline ∷ [])
    (c.push_frame_words.ensures.bytes
    ∙ (ap (λ (front : List ℕ). front ++ spaced (frame_words (lent c.args.frame.now))) c.requires.empty
    ∙ spaced_frame (lent c.args.frame.now)))
