use Rattle.trace_text.specs.declared.encode.EncodeLine.TheVariants as line
use Rattle.set_commands.proofs.EncodeLines.{said, unsaid}
use Rattle.set_commands.proofs.encode.obey.Goals as goal

pub returns-in-Ok-Fact-clause-takes : goal.returns-in-Ok-Fact-clause-takes
returns-in-Ok-Fact-clause-takes g c = λ facts drafted.
    said c.args.line.now (line.Fact c.in-Ok-Fact.fact) c.number.result facts (g.O.Sink.held c.args.output.now)
    (g.O.Sink.held c.take_fact.new.output) c.take_fact.new.draft c.take_fact.result
    (rw c.in-Ok-Fact.field-0-is at c.in-Ok-Fact.ensures) c.number.ensures (c.take_fact.ensures.takes facts drafted)

pub returns-in-Ok-Write-clause-takes : goal.returns-in-Ok-Write-clause-takes
returns-in-Ok-Write-clause-takes g c = λ facts drafted.
    said c.args.line.now (line.Write c.in-Ok-Write.cause c.in-Ok-Write.number) c.number-in-Ok-Write.result facts
    (g.O.Sink.held c.args.output.now) (g.O.Sink.held c.write_asked.new.output) c.args.draft.now c.write_asked.result
    (rw c.in-Ok-Write.field-0-is at c.in-Ok-Write.ensures) c.number-in-Ok-Write.ensures
    (c.write_asked.ensures.takes facts drafted)

pub returns-in-Err-clause-takes : goal.returns-in-Err-clause-takes
returns-in-Err-clause-takes g c = λ facts drafted.
    unsaid c.args.line.now c.in-Err.bad facts (g.O.Sink.held c.args.output.now)
    (g.O.Sink.held c.refuse.new.output) c.args.draft.now c.refuse.result c.in-Err.ensures c.refuse.ensures.ends
