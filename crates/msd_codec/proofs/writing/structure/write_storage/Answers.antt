use Rattle.std.proofs.Common.{refl, ◌∙◌}
use Rattle.msd_codec.specs.Module.{propulsion_storage, storages}
use Rattle.msd_codec.specs.Trees.{additions_of}
use Rattle.msd_codec.proofs.Puts.{mapped_some, flag_next, flag_stop, mark_stop, marked, presence_stop, rest_more}
use Rattle.msd_codec.proofs.OtherMark.{marks_long, other_next, other_stop}
use Rattle.msd_codec.proofs.writing.structure.write_storage.Goals as goal

pub returns-in_err-write_extended : goal.returns-in_err-write_extended
unfolding propulsion_storage storages
returns-in_err-write_extended c = mark_stop _ _ _ _ c.from_residual.ensures.1 c.in_err-write_extended.ensures

pub returns-in_err-write_marks_present : goal.returns-in_err-write_marks_present
unfolding propulsion_storage storages
returns-in_err-write_marks_present c = presence_stop _ _ _ _ refl (marks_long _ c.args.fuel) c.from_residual-in_err-write_marks_present.ensures.1 c.in_ok-write_extended.ensures c.in_err-write_marks_present.ensures

pub returns-in_err-write_flag : goal.returns-in_err-write_flag
unfolding propulsion_storage storages
returns-in_err-write_flag c = marked refl (c.is_some.ensures ∙ mapped_some additions_of _) refl c.in_ok-write_extended.ensures c.in_ok-write_marks_present.ensures (flag_stop _ c.from_residual-in_err-write_flag.ensures.1 c.in_err-write_flag.ensures)

pub returns-in_err-write_flag-2 : goal.returns-in_err-write_flag-2
unfolding propulsion_storage storages
returns-in_err-write_flag-2 c = marked refl (c.is_some.ensures ∙ mapped_some additions_of _) refl c.in_ok-write_extended.ensures c.in_ok-write_marks_present.ensures (flag_next c.in_ok-write_flag.ensures (flag_stop _ c.from_residual-in_err-write_flag-2.ensures.1 c.in_err-write_flag-2.ensures))

pub returns-in_err-write_flag-3 : goal.returns-in_err-write_flag-3
unfolding propulsion_storage storages
returns-in_err-write_flag-3 c = marked refl (c.is_some.ensures ∙ mapped_some additions_of _) refl c.in_ok-write_extended.ensures c.in_ok-write_marks_present.ensures (flag_next c.in_ok-write_flag.ensures (flag_next c.in_ok-write_flag-2.ensures (flag_stop _ c.from_residual-in_err-write_flag-3.ensures.1 c.in_err-write_flag-3.ensures)))

pub returns-in_err-write_flag-4 : goal.returns-in_err-write_flag-4
unfolding propulsion_storage storages
returns-in_err-write_flag-4 c = marked refl (c.is_some.ensures ∙ mapped_some additions_of _) refl c.in_ok-write_extended.ensures c.in_ok-write_marks_present.ensures (flag_next c.in_ok-write_flag.ensures (flag_next c.in_ok-write_flag-2.ensures (flag_next c.in_ok-write_flag-3.ensures (flag_stop _ c.from_residual-in_err-write_flag-4.ensures.1 c.in_err-write_flag-4.ensures))))

pub returns-in_err-write_flag-5 : goal.returns-in_err-write_flag-5
unfolding propulsion_storage storages
returns-in_err-write_flag-5 c = marked refl (c.is_some.ensures ∙ mapped_some additions_of _) refl c.in_ok-write_extended.ensures c.in_ok-write_marks_present.ensures (flag_next c.in_ok-write_flag.ensures (flag_next c.in_ok-write_flag-2.ensures (flag_next c.in_ok-write_flag-3.ensures (flag_next c.in_ok-write_flag-4.ensures (flag_stop _ c.from_residual-in_err-write_flag-5.ensures.1 c.in_err-write_flag-5.ensures)))))

pub returns-in_err-write_flag-6 : goal.returns-in_err-write_flag-6
unfolding propulsion_storage storages
returns-in_err-write_flag-6 c = marked refl (c.is_some.ensures ∙ mapped_some additions_of _) refl c.in_ok-write_extended.ensures c.in_ok-write_marks_present.ensures (flag_next c.in_ok-write_flag.ensures (flag_next c.in_ok-write_flag-2.ensures (flag_next c.in_ok-write_flag-3.ensures (flag_next c.in_ok-write_flag-4.ensures (flag_next c.in_ok-write_flag-5.ensures (flag_stop _ c.from_residual-in_err-write_flag-6.ensures.1 c.in_err-write_flag-6.ensures))))))

pub returns-in_err-write_flag-7 : goal.returns-in_err-write_flag-7
unfolding propulsion_storage storages
returns-in_err-write_flag-7 c = marked refl (c.is_some.ensures ∙ mapped_some additions_of _) refl c.in_ok-write_extended.ensures c.in_ok-write_marks_present.ensures (flag_next c.in_ok-write_flag.ensures (flag_next c.in_ok-write_flag-2.ensures (flag_next c.in_ok-write_flag-3.ensures (flag_next c.in_ok-write_flag-4.ensures (flag_next c.in_ok-write_flag-5.ensures (flag_next c.in_ok-write_flag-6.ensures (other_stop _ _ c.requires c.from_residual-in_err-write_flag-7.ensures.1 c.in_err-write_flag-7.ensures)))))))

pub returns : goal.returns
unfolding propulsion_storage storages
returns c = marked refl (c.is_some.ensures ∙ mapped_some additions_of _) refl c.in_ok-write_extended.ensures c.in_ok-write_marks_present.ensures (flag_next c.in_ok-write_flag.ensures (flag_next c.in_ok-write_flag-2.ensures (flag_next c.in_ok-write_flag-3.ensures (flag_next c.in_ok-write_flag-4.ensures (flag_next c.in_ok-write_flag-5.ensures (flag_next c.in_ok-write_flag-6.ensures (other_next _ c.requires c.in_ok-write_flag-7.ensures (rest_more c.write_more.ensures))))))))
