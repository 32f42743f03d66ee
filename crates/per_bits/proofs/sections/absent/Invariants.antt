use Rattle.std.proofs.Common.{◌≡◌, false, take, replicate}
use Rattle.per_bits.proofs.sections.absent.Given as goal

abbrev pub invariant-loop-i : goal.invariant-loop-i
invariant-loop-i l = take l.i l.present.bits ≡ replicate l.i false
