use Rattle.trace_text.specs.Encode.{encode_placed}
use Rattle.trace_text.specs.declared.encode.EncodeLine.TheVariants as line
use Rattle.line_input.specs.declared.reason.Reason.TheVariants as reason
use Rattle.set_commands.proofs.EncodeLines.{fifth, refuses}
use Rattle.set_commands.proofs.encode.take_fact.Goals as goal

pub returns-else-add-clause-takes : goal.returns-else-add-clause-takes
returns-else-add-clause-takes g c = λ facts drafted.
    refuses facts (encode_placed facts (line.Fact c.args.fact.now)) c.args.line reason.Many
    (g.O.Sink.held c.args.output.now) (g.O.Sink.held c.refuse_line.new.output) c.add.new.self
    (fifth facts c.args.fact.now (rw c.if-add.false at c.add.ensures.answer facts drafted)) c.refuse_line.result
    c.refuse_line.ensures.ends
