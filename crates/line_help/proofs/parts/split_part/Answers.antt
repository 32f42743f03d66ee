use Rattle.std.proofs.Common.{sym}
use Rattle.line_help.proofs.PartsLemmas.{parts-found, parts-one}
use Rattle.line_help.proofs.parts.split_part.Goals as goal

pub returns-in-Some : goal.returns-in-Some
returns-in-Some c = parts-found c.args.separator c.args.text.now c.in-Some.at (sym c.in-Some.ensures)

pub returns-in-None : goal.returns-in-None
returns-in-None c = parts-one c.args.separator c.args.text.now (sym c.in-None.ensures)
