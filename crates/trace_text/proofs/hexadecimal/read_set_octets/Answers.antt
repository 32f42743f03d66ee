use Rattle.std.proofs.Common.{refl, sym}
use Rattle.trace_text.proofs.OctetsLemmas.{set_of-decodes}
use Rattle.trace_text.proofs.hexadecimal.read_set_octets.Goals as goal

pub returns-in-true : goal.returns-in-true
returns-in-true c = sym (set_of-decodes c.args.text.now c.decode_front.new.into 140 refl (c.in-true.ensures.yes refl))
