use Rattle.live_link.proofs.Received.{takes_end, takes_none, takes_octet}
use Rattle.live_link.proofs.receiver.Receiver.take.Goals as goal

pub returns-in-Err-clause-takes : goal.returns-in-Err-clause-takes
returns-in-Err-clause-takes g c start octets more parts s =
    rw c.halted.ensures
    (takes_none c.args.end start (g.I.Source.left c.args.from.now) (g.I.Source.left c.next.new.source) c.args.self.now
    c.next.new.self octets more parts c.in-Err.fault s c.in-Err.ensures.next)

pub returns-in-Ok-None-clause-takes : goal.returns-in-Ok-None-clause-takes
returns-in-Ok-None-clause-takes g c start octets more parts s =
    takes_end c.args.end start (g.I.Source.left c.args.from.now) (g.I.Source.left c.next.new.source) c.args.self.now
    c.next.new.self octets more parts s (rw c.in-Ok-None.field-0-is at c.in-Ok-None.ensures.next)

pub returns-in-Ok-Some-clause-takes : goal.returns-in-Ok-Some-clause-takes
returns-in-Ok-Some-clause-takes g c start octets more parts s =
    takes_octet c.args.end start (g.I.Source.left c.args.from.now) (g.I.Source.left c.next.new.source) c.args.self.now
    c.next.new.self octets more parts c.in-Ok-Some.octet s (rw c.in-Ok-Some.field-0-is at c.in-Ok-Some.ensures.next) c.in-Ok-Some.ensures.limit
    c.hear.new.self c.hear.result c.hear.ensures.hears
