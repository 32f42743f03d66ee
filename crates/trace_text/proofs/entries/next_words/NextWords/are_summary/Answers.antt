use Rattle.std.proofs.Common.{◌≡◌, ℕ, List, ◌∷◌, ◌++◌, sym, ap, ◌∙◌}
use Rattle.std.specs.Option.{option_copied}
use Rattle.std.specs.Str.{bytes_eq}
use Rattle.trace_text.specs.EntryLine.{spaced}
use Rattle.trace_text.specs.Summary.{summary_words}
use Rattle.line_input.specs.Arguments.{words_behind}
use Rattle.trace_text.proofs.EntryWords.{spaced-words}
use Rattle.trace_text.proofs.entries.next_words.NextWords.are_summary.Goals as goal

pub returns-in-Some : goal.returns-in-Some
returns-in-Some c =
    let summary = spaced (summary_words c.args.octets.now) in
    let left : 32 ∷ c.in-Some.text.now ≡ spaced c.args.self.now =
    sym (spaced-words c.in-Some.text.now)
    ∙ ap (λ t. spaced (words_behind (option_copied t))) (sym c.in-Some.is)
    ∙ ap spaced c.self.view_is in
    let wrote : c.deref.result.now ≡ summary = c.deref.ensures.0 ∙ c.push_summary.ensures.bytes ∙ ap (λ (l : List ℕ). l ++ summary) c.new-summary.ensures in
    c.is_behind_space.ensures ∙ ap (λ (l : List ℕ). bytes_eq l (32 ∷ c.in-Some.text.now)) wrote ∙ ap (bytes_eq summary) left
