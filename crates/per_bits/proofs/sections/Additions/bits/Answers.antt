use Rattle.std.proofs.Common.{subst}
use Rattle.per_bits.specs.Bits.{Part}
use Rattle.per_bits.specs.Parts.{IsSection}
use Rattle.per_bits.proofs.SectionLaws.{section_read}
use Rattle.per_bits.proofs.sections.Additions.bits.Goals as goal

pub returns-clause-section : goal.returns-clause-section
returns-clause-section c =
    let P : Part → Type 0 = λ q. IsSection q.bits in
    section_read c.args.self.now.bits (subst P c.self.view_is c.self.invariant)
