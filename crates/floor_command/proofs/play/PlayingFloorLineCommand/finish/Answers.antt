use Rattle.std.proofs.Common.{[]}
use Rattle.call_io.proofs.BytesLemmas.{Grew-nothing}
use Rattle.floor_command.specs.inner.FloorLaws.{floor_done}
use Rattle.floor_command.proofs.play.PlayingFloorLineCommand.finish.Goals as goal

pub returns-clause-ends : goal.returns-clause-ends
returns-clause-ends g c = λ before seen stands number.
    ([], floor_done seen number, Grew-nothing _)
