use Rattle.view_reports.proofs.ReportLemmas.{in_manner}
use Rattle.view_reports.proofs.telling.ReportLinesLineTeller.put_line.Goals as goal

pub returns : goal.returns
returns g c =
    λ before whole heard counts kept.
    in_manner c.put_line.result before whole c.args.self.now.report.manner g.M.InManner.manner c.args.text.now.items
    c.put_line.new.text.items c.put_line.new.self heard.0 c.put_line.ensures.manner
    (c.put_line.ensures.told before whole heard.1 counts kept)
