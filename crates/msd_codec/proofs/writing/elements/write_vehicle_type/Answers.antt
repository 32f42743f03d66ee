use Rattle.std.proofs.Common.{ℕ, ◌-◌, ◌∙◌, ap, sym, refl}
use Rattle.per_types.specs.Kinds.{width_of, width_from}
use Rattle.per_types.specs.Types.{root, added, enumerated}
use Rattle.msd_codec.specs.Trees.{kind_tree}
use Rattle.msd_codec.specs.Module.{vehicle_type}
use Rattle.msd_codec.proofs.Puts.{put_canon, canon_is}
use Rattle.msd_codec.proofs.writing.elements.write_vehicle_type.Goals as goal

pub write_enum-requires-clause-width : goal.write_enum-requires-clause-width
unfolding width_of width_from
write_enum-requires-clause-width c = refl

pub write_enum-requires-in-Added-clause-width : goal.write_enum-requires-in-Added-clause-width
unfolding width_of width_from
write_enum-requires-in-Added-clause-width c = refl

pub returns-in-Root : goal.returns-in-Root
unfolding vehicle_type
returns-in-Root c =
    canon_is (enumerated 13) (kind_tree c.args.kind) refl (ap (λ (n : ℕ). root (n - 1)) c.number.ensures.value ∙ sym (ap kind_tree c.in-Root.is))
    (put_canon (enumerated 13) (root (c.number.result - 1)) _ _ _ c.write_enum.ensures)

pub returns-in-Added : goal.returns-in-Added
unfolding vehicle_type
returns-in-Added c =
    canon_is (enumerated 13) (kind_tree c.args.kind) refl (ap added c.number-in-Added.ensures.value ∙ sym (ap kind_tree c.in-Added.is))
    (put_canon (enumerated 13) (added c.number-in-Added.result) _ _ _ c.write_enum-in-Added.ensures)
