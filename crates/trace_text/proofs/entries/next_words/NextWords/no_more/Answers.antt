use Rattle.std.proofs.Common.{refl}
use Rattle.line_input.proofs.WordsLemmas.{words-some}
use Rattle.trace_text.proofs.entries.next_words.NextWords.no_more.Goals as goal

pub returns-in-Some : goal.returns-in-Some
returns-in-Some c = let w = words-some c.in-Some.field-0.now in rw (← c.self.view_is, c.in-Some.is, w.2) refl
