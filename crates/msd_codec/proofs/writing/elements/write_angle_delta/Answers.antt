use Rattle.std.proofs.Common.{refl, ◌∙◌, w64, w16}
use Rattle.std.specs.Prelude.{neg_ℤ, pos}
use Rattle.std.proofs.lemmas.Int.{to_z-of_z}
use Rattle.per_types.specs.Kinds.{width_of, width_from}
use Rattle.msd_codec.specs.Module.{angle_delta}
use Rattle.msd_codec.proofs.Puts.{put_whole}
use Rattle.msd_codec.proofs.writing.elements.write_angle_delta.Goals as goal

pub write_whole-requires-clause-width : goal.write_whole-requires-clause-width
unfolding width_of width_from
write_whole-requires-clause-width c = refl

pub returns : goal.returns
unfolding angle_delta
returns c = put_whole (neg_ℤ (pos 512)) (pos 511) _ _ _ _ _ (to_z-of_z w64 _ (record { sfits = c.from.type_inv }) ∙ c.from.ensures ∙ to_z-of_z w16 _ c.ranges.value) c.write_whole.ensures
