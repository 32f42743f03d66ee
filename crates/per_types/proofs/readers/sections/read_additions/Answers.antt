use Rattle.std.proofs.Common.{◌∙◌, ◌-◌}
use Rattle.std.proofs.lemmas.Result.{err_from_is_err_and}
use Rattle.per_types.proofs.Sectionwise.{section_refused, over_section, section_length, section_after, section_there, section_front, section_is}
use Rattle.std.proofs.Common.{Ok}
use Rattle.per_bits.specs.Bits.{Part}
use Rattle.per_bits.specs.Parts.{members_of}
use Rattle.per_types.specs.Spelling.{SectionElements}
use Rattle.per_types.specs.Reading.{section_at, members_at}
use Rattle.per_types.proofs.Decided.{part_reads, only_members}
use Rattle.per_types.proofs.PartLaws.{members_are, section_part}
use Rattle.per_types.proofs.readers.sections.read_additions.Goals as goal

pub returns-in_err-members-clause-exact : goal.returns-in_err-members-clause-exact
returns-in_err-members-clause-exact c =
    let p = err_from_is_err_and c.from_residual.result c.from_residual.ensures.1 in
    rw (p.1, p.2) (section_refused c.args.c.now _ _ c.in_err-members.ensures)

pub overflow_sub-len : goal.overflow_sub-len
overflow_sub-len c =
    rw (c.place.ensures.value, c.place-2.ensures.value)
    (section_after c.args.c.now c.fork-section.result c.members.new.c (over_section c.args.c.now c.members.new.c _ c.in_ok-members.ensures) c.fork-section.ensures.value)

pub taken-bits-requires : goal.taken-bits-requires
taken-bits-requires c =
    section_there c.args.c.now c.fork-section.result c.members.new.c (c.place.result - c.place-2.result) (over_section c.args.c.now c.members.new.c _ c.in_ok-members.ensures) c.fork-section.ensures.value (section_length c.args.c.now c.fork-section.result c.members.new.c c.place.result c.place-2.result (over_section c.args.c.now c.members.new.c _ c.in_ok-members.ensures) c.place.ensures.value c.place-2.ensures.value c.fork-section.ensures.value)

pub known-requires : goal.known-requires
known-requires c =
    (section_front c.args.c.now c.fork-section.result c.taken-bits.result c.members.new.c (c.place.result - c.place-2.result) (over_section c.args.c.now c.members.new.c _ c.in_ok-members.ensures) c.fork-section.ensures.value (section_length c.args.c.now c.fork-section.result c.members.new.c c.place.result c.place-2.result (over_section c.args.c.now c.members.new.c _ c.in_ok-members.ensures) c.place.ensures.value c.place-2.ensures.value c.fork-section.ensures.value) c.taken-bits.ensures.bits)

pub returns-clause-exact : goal.returns-clause-exact
returns-clause-exact c =
    section_is c.args.c.now c.fork-section.result c.members.new.c c.known.result _ (c.place.result - c.place-2.result) (over_section c.args.c.now c.members.new.c _ c.in_ok-members.ensures) c.in_ok-members.ensures c.fork-section.ensures.value (section_length c.args.c.now c.fork-section.result c.members.new.c c.place.result c.place-2.result (over_section c.args.c.now c.members.new.c _ c.in_ok-members.ensures) c.place.ensures.value c.place-2.ensures.value c.fork-section.ensures.value) (c.known.ensures ∙ c.taken-bits.ensures.bits)

pub returns-in_err-members-clause-reads : goal.returns-in_err-members-clause-reads
returns-in_err-members-clause-reads c =
    part_reads SectionElements section_at (λ (p : Part). members_of p.bits) members_at only_members members_are (λ o. o) c.args.c.now c.from_residual.result _ (returns-in_err-members-clause-exact c)

pub returns-in_err-members-clause-part : goal.returns-in_err-members-clause-part
returns-in_err-members-clause-part c = section_part c.args.c.now c.from_residual.result _ (returns-in_err-members-clause-exact c)

pub returns-clause-reads : goal.returns-clause-reads
returns-clause-reads c =
    part_reads SectionElements section_at (λ (p : Part). members_of p.bits) members_at only_members members_are (λ o. o) c.args.c.now (Ok _) _ (returns-clause-exact c)

pub returns-clause-part : goal.returns-clause-part
returns-clause-part c = section_part c.args.c.now (Ok _) _ (returns-clause-exact c)
