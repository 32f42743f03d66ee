use Rattle.std.proofs.Common.{sym}
use Rattle.line_input.proofs.WordsLemmas.{words-found, words-one}
use Rattle.line_input.proofs.words.split_word.Goals as goal

pub returns-in-Some : goal.returns-in-Some
returns-in-Some c = words-found c.args.text.now c.in-Some.at (sym c.in-Some.ensures)

pub returns-in-None : goal.returns-in-None
returns-in-None c = words-one c.args.text.now (sym c.in-None.ensures)
