use Rattle.set_commands.proofs.DecodeLines.{set_given, set_cut, set_stops}
use Rattle.set_commands.proofs.decode.decode_set.Goals as goal

pub returns-in-Ok-describe-clause-takes : goal.returns-in-Ok-describe-clause-takes
returns-in-Ok-describe-clause-takes g c =
    set_given c.args.octets.now c.args.number (g.O.Sink.held c.args.output.now) (g.O.Sink.held c.describe.new.out)
    c.in-Ok.msd c.in-Ok.ensures.shown c.in-Ok-describe.ensures.ok

pub returns-in-Err-describe-clause-takes : goal.returns-in-Err-describe-clause-takes
returns-in-Err-describe-clause-takes g c =
    set_cut c.args.octets.now c.args.number (g.O.Sink.held c.args.output.now) (g.O.Sink.held c.describe.new.out)
    c.in-Ok.msd c.in-Ok.ensures.shown c.in-Err-describe.ensures.partly

pub returns-in-Err-clause-takes : goal.returns-in-Err-clause-takes
returns-in-Err-clause-takes g c =
    set_stops c.args.octets.now c.args.number (g.O.Sink.held c.args.output.now) (g.O.Sink.held c.refuse.new.output)
    c.in-Err.refusal c.in-Err.ensures.stopped c.refuse.result c.refuse.ensures.ends
