use Rattle.script_commands.proofs.MadeText.{AreLines, line_more, no_lines}
use Rattle.script_commands.proofs.Trialled.{lines_of_counts, lines_told}
use Rattle.script_commands.proofs.trial.counts_text.Goals as goal

pub returns : goal.returns
returns c =
    let first =
    line_more (line_more (no_lines _ c.new-lines.ensures) c.push_count_line.ensures.line)
    c.push_count_line-2.ensures.line in
    let all : AreLines c.push_count_line-5.new.lines.items (lines_of_counts c.counts.result) =
    line_more (line_more (line_more first c.push_count_line-3.ensures.line) c.push_count_line-4.ensures.line)
    c.push_count_line-5.ensures.line in
    lines_told _ c.counts.result c.args.tally.now c.counts.ensures all
