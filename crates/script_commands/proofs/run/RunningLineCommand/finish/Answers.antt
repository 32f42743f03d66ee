use Rattle.std.proofs.Common.{[]}
use Rattle.call_io.proofs.BytesLemmas.{Grew-nothing}
use Rattle.script_commands.specs.inner.RunLaws.{run_done}
use Rattle.script_commands.proofs.run.RunningLineCommand.finish.Goals as goal

pub returns-clause-ends : goal.returns-clause-ends
returns-clause-ends g c = λ before seen stands number.
    ([], run_done seen number, Grew-nothing _)
