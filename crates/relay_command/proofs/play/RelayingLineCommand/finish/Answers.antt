use Rattle.std.proofs.Common.{[]}
use Rattle.call_io.proofs.BytesLemmas.{Grew-nothing}
use Rattle.relay_command.specs.inner.Seen.{reply-done}
use Rattle.relay_command.proofs.play.RelayingLineCommand.finish.Goals as goal

pub returns-clause-ends : goal.returns-clause-ends
returns-clause-ends g c = λ before seen stands number. ([], reply-done seen.said seen.scene number, Grew-nothing _)
