use Rattle.std.proofs.Common.{◌∙◌}
use Rattle.line_input.proofs.FeedLemmas.{run_place}
use Rattle.line_input.proofs.block.run_len.Goals as goal

pub returns-clause-place : goal.returns-clause-place
returns-clause-place c = c.newline_or_end.ensures.place ∙ run_place c.args.bytes.now c.args.most c.min.result c.min.ensures
