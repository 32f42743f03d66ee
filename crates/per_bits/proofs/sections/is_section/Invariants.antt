use Rattle.std.proofs.Common.{◌≡◌, ◌+◌, ◌≤◌, drop}
use Rattle.per_bits.proofs.SectionLaws.{rest_behind}
use Rattle.per_bits.proofs.sections.is_section.Given as goal

abbrev pub invariant-loop-i : goal.invariant-loop-i
invariant-loop-i l = (l.place ≤ l.len) × (rest_behind (drop l.i l.present.bits) (drop l.place l.bits.bits) ≡ rest_behind l.present.bits (drop (7 + l.count) l.bits.bits))
