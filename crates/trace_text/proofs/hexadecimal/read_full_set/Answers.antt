use Rattle.std.proofs.Common.{sym}
use Rattle.trace_text.proofs.OctetsLemmas.{full-set}
use Rattle.trace_text.proofs.hexadecimal.read_full_set.Goals as goal

pub returns-then-is_lower : goal.returns-then-is_lower
returns-then-is_lower c =
    full-set c.decode_front.result c.args.text.now c.args.into.now c.decode_front.new.into
    c.if-text-eq280.true (sym c.if-is_lower.ensures) c.told-into c.decode_front.ensures.yes c.decode_front.ensures.no
