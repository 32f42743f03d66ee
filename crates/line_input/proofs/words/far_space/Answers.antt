use Rattle.line_input.proofs.WordsLemmas.{first_space}
use Rattle.line_input.proofs.words.far_space.Goals as goal

pub returns : goal.returns
returns c = first_space c.args.text.now c.memchr.result c.memchr.ensures
