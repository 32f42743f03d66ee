use Rattle.std.proofs.Common.{refl, ◌∙◌}
use Rattle.msd_codec.specs.Module.{msd_message}
use Rattle.msd_codec.specs.Trees.{additions_of, extra_tree}
use Rattle.msd_codec.proofs.Puts.{mapped_some, one_bit, mark_stop, marked, optional_next, optional_stop, presence_stop, required_next, required_stop, rest_more}
use Rattle.msd_codec.proofs.writing.message.write_body.Goals as goal

pub returns-in_err-write_extended : goal.returns-in_err-write_extended
unfolding msd_message
returns-in_err-write_extended c = mark_stop _ _ _ _ c.from_residual.ensures.1 c.in_err-write_extended.ensures

pub returns-in_err-write_present : goal.returns-in_err-write_present
unfolding msd_message
returns-in_err-write_present c = presence_stop _ _ _ _ refl refl c.from_residual-in_err-write_present.ensures.1 c.in_ok-write_extended.ensures c.in_err-write_present.ensures

pub returns-in_err-write_structure : goal.returns-in_err-write_structure
unfolding msd_message
returns-in_err-write_structure c = marked refl (c.is_some.ensures ∙ mapped_some additions_of _) (one_bit (c.is_some-2.ensures ∙ mapped_some extra_tree _)) c.in_ok-write_extended.ensures c.in_ok-write_present.ensures (required_stop _ c.from_residual-in_err-write_structure.ensures.1 c.in_err-write_structure.ensures)

pub returns-in_err-write_extra : goal.returns-in_err-write_extra
unfolding msd_message
returns-in_err-write_extra c = marked refl (c.is_some.ensures ∙ mapped_some additions_of _) (one_bit (c.is_some-2.ensures ∙ mapped_some extra_tree _)) c.in_ok-write_extended.ensures c.in_ok-write_present.ensures (required_next c.in_ok-write_structure.ensures (optional_stop _ _ _ c.from_residual-in_err-write_extra.ensures.1 c.in_err-write_extra.ensures))

pub returns : goal.returns
unfolding msd_message
returns c = marked refl (c.is_some.ensures ∙ mapped_some additions_of _) (one_bit (c.is_some-2.ensures ∙ mapped_some extra_tree _)) c.in_ok-write_extended.ensures c.in_ok-write_present.ensures (required_next c.in_ok-write_structure.ensures (optional_next _ c.in_ok-write_extra.ensures (rest_more c.write_more.ensures)))
