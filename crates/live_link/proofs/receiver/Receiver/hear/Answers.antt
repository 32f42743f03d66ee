use Rattle.std.proofs.Common.{refl}
use Rattle.link_parts.specs.PartReading.{kept_of}
use Rattle.link_parts.specs.Rounds.{take_octet}
use Rattle.live_link.proofs.GoingLemmas.{takes_on}
use Rattle.live_link.proofs.receiver.Receiver.hear.Goals as goal

pub returns-in-Ok-clause-going : goal.returns-in-Ok-clause-going
returns-in-Ok-clause-going c =
    takes_on c.args.end c.args.self.now.reader.none (kept_of c.args.self.now.reader.reader) c.args.octet
    (take_octet c.args.end c.args.self.now.reader.none (kept_of c.args.self.now.reader.reader) c.args.octet) refl
    c.args.self.now.reader
    (record { octets = c.args.self.now.octets; reader = c.take.new.self; place = c.saturating_add-self.result })
    c.in-Ok.taking c.in-Ok.ensures
