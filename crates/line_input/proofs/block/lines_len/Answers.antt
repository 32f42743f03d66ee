use Rattle.line_input.proofs.BlockLemmas.{behind_last, behind_none}
use Rattle.line_input.proofs.block.lines_len.Goals as goal

pub returns-in-Some-clause-last : goal.returns-in-Some-clause-last
returns-in-Some-clause-last c = behind_last c.args.bytes.now c.in-Some.at c.in-Some.ensures

pub returns-in-None-clause-last : goal.returns-in-None-clause-last
returns-in-None-clause-last c = behind_none c.args.bytes.now c.in-None.ensures
