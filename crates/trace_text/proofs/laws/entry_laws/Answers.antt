use Rattle.trace_text.proofs.EntryLaw.{entry-law}
use Rattle.trace_text.proofs.laws.entry_laws.Goals as goal

pub returns : goal.returns
returns c = entry-law
