use Rattle.std.proofs.Common.{◌∙◌}
use Rattle.line_input.proofs.BlockLemmas.{first_or_end}
use Rattle.line_input.proofs.block.newline_or_end.Goals as goal

pub returns-clause-place : goal.returns-clause-place
returns-clause-place c = c.unwrap_or.ensures ∙ first_or_end c.args.bytes.now c.memchr.result c.memchr.ensures
