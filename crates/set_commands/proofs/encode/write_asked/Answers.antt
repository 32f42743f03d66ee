use Rattle.trace_text.specs.Encode.{encode_placed}
use Rattle.trace_text.specs.declared.encode.EncodeLine.TheVariants as line
use Rattle.line_input.specs.declared.reason.Reason.TheVariants as reason
use Rattle.set_commands.proofs.EncodeLines.{missing, refuses, set_cut}
use Rattle.set_commands.proofs.encode.write_asked.Goals as goal

pub returns-in-Err-clause-takes : goal.returns-in-Err-clause-takes
returns-in-Err-clause-takes g c = λ facts drafted.
    set_cut facts c.args.cause c.args.number c.args.line (g.O.Sink.held c.args.output.now)
    (g.O.Sink.held c.write_set.new.output) c.args.draft.now c.in-Some.own.now
    (c.in-Some.ensures facts drafted) c.in-Err.ensures.partly

pub returns-in-None-clause-takes : goal.returns-in-None-clause-takes
returns-in-None-clause-takes g c = λ facts drafted.
    refuses facts (encode_placed facts (line.Write c.args.cause c.args.number)) c.args.line reason.Missing
    (g.O.Sink.held c.args.output.now) (g.O.Sink.held c.refuse_line.new.output) c.args.draft.now
    (missing facts c.args.cause c.args.number (c.in-None.ensures facts drafted)) c.refuse_line.result
    c.refuse_line.ensures.ends
