use Rattle.std.proofs.Common.{◌≡◌, ◌*◌, drop}
use Rattle.msd_codec.specs.Reading.{appended_fault}
use Rattle.msd_codec.proofs.reading.rest.check_appended.Given as goal

abbrev pub invariant-loop-i : goal.invariant-loop-i
invariant-loop-i l = appended_fault (8 * l.from) (drop l.from l.octets) ≡ appended_fault (8 * l.i) (drop l.i l.octets)
