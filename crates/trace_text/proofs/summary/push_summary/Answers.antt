use Rattle.std.proofs.Common.{◌++◌, ap, sym, ◌∙◌}
use Rattle.trace_text.specs.EntryLine.{spaced}
use Rattle.trace_text.proofs.SummaryLemmas.{summary-read}
use Rattle.trace_text.proofs.summary.push_summary.Goals as goal

pub returns-in-Ok-clause-bytes : goal.returns-in-Ok-clause-bytes
returns-in-Ok-clause-bytes g c =
    c.push_ok.ensures.bytes
    ∙ ap (λ words. c.args.line.now.items ++ spaced words) (sym (summary-read c.args.octets.now c.in-Ok.msd c.in-Ok.ensures.read))
