use Rattle.std.proofs.Common.{◌≡◌, ◌+◌, drop}
use Rattle.msd_codec.specs.Reading.{pad_fault}
use Rattle.msd_codec.proofs.reading.rest.check_padding.Given as goal

abbrev pub invariant-loop-i : goal.invariant-loop-i
invariant-loop-i l = pad_fault l.bits.start l.bits.bits ≡ pad_fault (l.bits.start + l.i) (drop l.i l.bits.bits)
