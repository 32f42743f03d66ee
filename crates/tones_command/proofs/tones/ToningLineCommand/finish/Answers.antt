use Rattle.std.proofs.Common.{[]}
use Rattle.call_io.proofs.BytesLemmas.{Grew-nothing}
use Rattle.tones_command.specs.inner.ToneLaws.{tones_done}
use Rattle.tones_command.proofs.tones.ToningLineCommand.finish.Goals as goal

pub returns-clause-ends : goal.returns-clause-ends
returns-clause-ends g c = λ before seen stands number.
    ([], tones_done seen number, Grew-nothing _)
