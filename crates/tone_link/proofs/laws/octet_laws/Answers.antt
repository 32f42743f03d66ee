use Rattle.tone_link.proofs.Said.{are_octets}
use Rattle.tone_link.proofs.laws.octet_laws.Goals as goal

pub returns : goal.returns
returns c = are_octets c.args.octets.now (λ k. (c.type_inv.octets k).fits)
