use Rattle.std.proofs.Common.{refl, ap, sym, arith, ◌-◌, ◌+◌}
use Rattle.per_types.specs.Kinds.{width_of, width_from}
use Rattle.per_bits.proofs.Digits.{length_digits}
use Rattle.per_types.specs.Types.{root, added, enumerated}
use Rattle.per_types.proofs.Written.{root_spelled, added_spelled}
use Rattle.msd_codec.specs.Trees.{kind_tree}
use Rattle.msd_codec.specs.Module.{vehicle_type}
use Rattle.msd_codec.proofs.Lengths.{spelled_length, length_same}
use Rattle.msd_codec.proofs.writing.lengths.vehicle_type_len.Goals as goal

pub returns-in-Root-clause-count : goal.returns-in-Root-clause-count
unfolding vehicle_type width_of width_from
returns-in-Root-clause-count c =
    let known = c.number-known.ensures in
    length_same (kind_tree c.args.kind) (sym (ap kind_tree c.in-Root.is))
    (spelled_length (enumerated 13) (root (c.in-Root.root - 1)) _ 5 (root_spelled 13 (c.in-Root.root - 1) 4 (c.in-Root.root - 1) refl (omega (arith, known.value, known.low, known.high)) (omega (arith, known.value, known.low, known.high)) refl) (length_digits 5 _))

pub returns-in-Added-clause-count : goal.returns-in-Added-clause-count
unfolding vehicle_type
returns-in-Added-clause-count c =
    let known = c.number-known-in-Added.ensures in
    length_same (kind_tree c.args.kind) (sym (ap kind_tree c.in-Added.is))
    (spelled_length (enumerated 13) (added c.in-Added.added) _ 8 (added_spelled c.in-Added.added (128 + c.in-Added.added) (omega (arith, known.value, known.high)) refl) (length_digits 8 _))
