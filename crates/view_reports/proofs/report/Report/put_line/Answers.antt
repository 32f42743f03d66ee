use Rattle.view_reports.proofs.ReportLemmas.{line_reported}
use Rattle.view_reports.proofs.report.Report.put_line.Goals as goal

pub returns-clause-told : goal.returns-clause-told
returns-clause-told c =
    λ before whole heard counts kept.
    line_reported c.put_judged.result before whole c.args.line.now c.args.self.now c.put_judged.new.self c.args.number
    c.judge_line-judged.result c.args.text.now.items c.put_judged.new.text.items heard counts kept
    c.judge_line-judged.ensures c.put_judged.ensures.told c.put_judged.ensures.watch c.put_judged.ensures.tick
