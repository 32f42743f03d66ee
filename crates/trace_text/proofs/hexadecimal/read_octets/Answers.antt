use Rattle.std.proofs.Common.{refl}
use Rattle.trace_text.proofs.OctetsLemmas.{few_of-decodes, half-few}
use Rattle.trace_text.proofs.hexadecimal.read_octets.Goals as goal

pub shared_ref_as_front-result : goal.shared_ref_as_front-result
shared_ref_as_front-result c = half-few c.args.text.now c.args.room.now c.decode_front.new.into c.told-room (c.if-decode_front.ensures.yes refl)

pub returns-then-decode_front : goal.returns-then-decode_front
returns-then-decode_front c = few_of-decodes c.args.text.now c.args.room.now c.decode_front.new.into c.told-room (c.if-decode_front.ensures.yes refl)
