use Rattle.live_link.proofs.Received.{notes_step}
use Rattle.live_link.proofs.receiver.Receiver.step.Goals as goal

pub returns-in-Ok-clause-takes : goal.returns-in-Ok-clause-takes
returns-in-Ok-clause-takes g c start octets more s =
    notes_step c.args.end start (g.I.Source.left c.take.new.from) c.take.new.self octets c.args.parts.now.items c.note.new.parts.items
    c.in-Ok.taking c.note.result (c.in-Ok.ensures.takes start octets more c.args.parts.now.items s) c.note.ensures

pub returns-in-Err-clause-takes : goal.returns-in-Err-clause-takes
returns-in-Err-clause-takes g c start octets more s = c.in-Err.ensures.takes start octets more c.args.parts.now.items s
