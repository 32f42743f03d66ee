use Rattle.std.proofs.Common.{rules, ◌≡◌, ◌∷◌, [], ◌++◌, List, ℕ, refl, ap, ◌∙◌}
use Rattle.std.specs.Prelude.{decimal}
use Rattle.msd_codec.specs.Reading.{reading_of}
use Rattle.line_input.specs.Characters.{newline}
use Rattle.trace_text.specs.EntryLine.{spaced}
use Rattle.set_commands.specs.inner.ConformLines.{answer_words, vector_line}
use Rattle.set_commands.proofs.ConformTold.{text_octets}
use Rattle.set_commands.proofs.conform.line_of_vector.Goals as goal

pub returns : goal.returns
unfolding vector_line
returns c =
    let octets =
    text_octets c.args.text.now c.decode_to_slice.new.out _ c.decode_to_slice.result c.requires.hex c.requires.short
    refl c.decode_to_slice.ensures.value in
    let number : c.try_extend_from_slice.new.self.items ≡ decimal c.args.number = search rules in
    c.push.ensures.items
    ∙ ap (λ (l : List ℕ). l ++ newline ∷ [])
    (c.push_answer.ensures.bytes
    ∙ ap (λ (l : List ℕ). l ++ spaced (answer_words (reading_of c.decode_to_slice.new.out))) number
    ∙ ap (λ (o : List ℕ). decimal c.args.number ++ spaced (answer_words (reading_of o))) octets)
