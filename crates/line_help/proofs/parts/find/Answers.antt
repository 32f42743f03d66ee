use Rattle.line_help.proofs.PartsLemmas.{first_place}
use Rattle.line_help.proofs.parts.find.Goals as goal

pub returns : goal.returns
returns c = first_place c.args.separator c.args.text.now c.memchr.result c.memchr.ensures
