use Rattle.std.proofs.Common.{refl, ap, subst, ◌∙◌}
use Rattle.msd_codec.specs.Canonical.{canonical_octets}
use Rattle.msd_codec.specs.Sets.{AreCanonical}
use Rattle.msd_codec.specs.Trees.{tree}
use Rattle.msd_fit.specs.Fitting.{fits}
use Rattle.msd_fit.proofs.Choice.{with_extra, found_is, put_in, set_is, is_written}
use Rattle.msd_fit.proofs.fitting.spell.Goals as goal

pub unwrap-requires : goal.unwrap-requires
unwrap-requires c =
    let found = found_is c.args.facts.now c.args.cause c.args.number c.set_without_data-set.result _ _ _ _ c.set_without_data-set.ensures.tree c.set_without_data-set.ensures.format c.set_without_data-set.ensures.plain c.encoded_bits-room.ensures.bits c.encoded_bits-room.ensures.few refl c.as_slice.ensures.value c.first_within.ensures in
    let same = put_in c.args.facts.now c.args.cause c.args.number c.set_without_data-set.result _ _ c.set_without_data-set.ensures.tree c.extra_with-set.ensures in
    is_written (λ e. e.bits) (with_extra c.set_without_data-set.result c.extra_with-set.result) _ found same c.set_without_data-set.ensures.format c.encode.ensures.bits

pub returns-clause-set : goal.returns-clause-set
unfolding fits
returns-clause-set c =
    let found = found_is c.args.facts.now c.args.cause c.args.number c.set_without_data-set.result _ _ _ _ c.set_without_data-set.ensures.tree c.set_without_data-set.ensures.format c.set_without_data-set.ensures.plain c.encoded_bits-room.ensures.bits c.encoded_bits-room.ensures.few refl c.as_slice.ensures.value c.first_within.ensures in
    let same = put_in c.args.facts.now c.args.cause c.args.number c.set_without_data-set.result _ _ c.set_without_data-set.ensures.tree c.extra_with-set.ensures in
    (rw c.unwrap.ensures at c.encode.ensures.octets) ∙ ap canonical_octets (set_is _ found same)

pub returns-clause-canonical : goal.returns-clause-canonical
returns-clause-canonical c =
    let found = found_is c.args.facts.now c.args.cause c.args.number c.set_without_data-set.result _ _ _ _ c.set_without_data-set.ensures.tree c.set_without_data-set.ensures.format c.set_without_data-set.ensures.plain c.encoded_bits-room.ensures.bits c.encoded_bits-room.ensures.few refl c.as_slice.ensures.value c.first_within.ensures in
    let same = put_in c.args.facts.now c.args.cause c.args.number c.set_without_data-set.result _ _ c.set_without_data-set.ensures.tree c.extra_with-set.ensures in
    subst (AreCanonical c.unwrap.result.items) (set_is _ found same) (rw c.unwrap.ensures at c.encode.ensures.canonical)
