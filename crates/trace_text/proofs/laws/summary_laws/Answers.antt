use Rattle.std.proofs.Common.{sym}
use Rattle.msd_codec.proofs.SetLaws.{shows_read, stops_read}
use Rattle.msd_codec.specs.Trees.{tree}
use Rattle.trace_text.proofs.SummaryLemmas.{summary-read, summary-refused}
use Rattle.trace_text.proofs.laws.summary_laws.Goals as goal

pub returns-clause-shown : goal.returns-clause-shown
returns-clause-shown c = λ octets msd shows. summary-read octets msd (sym (shows_read octets (tree msd) shows))

pub returns-clause-stopped : goal.returns-clause-stopped
returns-clause-stopped c = λ octets refusal stops. summary-refused octets refusal (sym (stops_read octets refusal stops))
