use Rattle.view_reports.specs.BreakTexts.{long_part}
use Rattle.view_reports.proofs.break_text.put_long.Goals as goal

pub returns : goal.returns
unfolding long_part
returns c =
    simp (c.as_bytes.ensures.value, c.format.ensures.text, c.as_bytes-2.ensures.value, c.format-2.ensures.text) at
    c.put_all.ensures
