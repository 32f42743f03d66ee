use Rattle.std.proofs.Common.{refl, ◌∙◌, w64}
use Rattle.std.specs.Prelude.{pos}
use Rattle.std.proofs.lemmas.Int.{to_z-of_z}
use Rattle.per_types.specs.Kinds.{width_of, width_from}
use Rattle.msd_codec.specs.Module.{timestamp}
use Rattle.msd_codec.proofs.Puts.{put_whole}
use Rattle.msd_codec.proofs.writing.elements.write_timestamp.Goals as goal

pub write_whole-requires-clause-width : goal.write_whole-requires-clause-width
unfolding width_of width_from
write_whole-requires-clause-width c = refl

pub returns : goal.returns
unfolding timestamp
returns c = put_whole (pos 0) (pos 4294967295) _ _ _ _ _ (to_z-of_z w64 _ (record { sfits = c.from.type_inv }) ∙ c.from.ensures) c.write_whole.ensures
