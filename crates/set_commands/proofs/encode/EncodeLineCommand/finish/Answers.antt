use Rattle.std.proofs.Common.{[]}
use Rattle.call_io.proofs.BytesLemmas.{Grew-nothing}
use Rattle.set_commands.specs.inner.EncodeLaws.{encoded_end}
use Rattle.set_commands.proofs.encode.EncodeLineCommand.finish.Goals as goal

pub returns-clause-ends : goal.returns-clause-ends
returns-clause-ends g c = λ before facts stands number.
    ([], encoded_end facts number, Grew-nothing (g.O.Sink.held c.args._output.now))
