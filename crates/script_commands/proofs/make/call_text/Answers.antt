use Rattle.script_commands.specs.Make.{call_lines}
use Rattle.script_commands.specs.inner.Made.{text_of_call}
use Rattle.script_commands.proofs.MadeText.{AreLines, line_more, no_lines}
use Rattle.script_commands.proofs.make.call_text.Goals as goal

pub returns : goal.returns
unfolding text_of_call
returns c =
    let flows =
    line_more (line_more (no_lines _ c.new-lines.ensures) c.push_delay_line.ensures.line)
    c.push_delay_line-2.ensures.line in
    let dialled = line_more (line_more flows c.push_line.ensures.line) c.push_line-2.ensures.line in
    let asked =
    line_more (line_more dialled c.push_positive_line.ensures.line) c.push_positive_line-2.ensures.line in
    let cleared =
    line_more (line_more asked c.push_positive_line-3.ensures.line) c.push_positive_line-4.ensures.line in
    let all : AreLines c.push_positive_line-5.new.lines.items (call_lines c.args.call c.args.times.now) =
    line_more (line_more cleared c.push_line-3.ensures.line) c.push_positive_line-5.ensures.line in
    all.says
