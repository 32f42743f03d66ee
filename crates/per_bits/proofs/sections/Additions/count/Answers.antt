use Rattle.std.proofs.Common.{◌≡◌, take, ap, subst, ◌∙◌, arith}
use Rattle.per_bits.specs.Parts.{IsSection, members_of}
use Rattle.per_bits.specs.Bits.{Part, value_of}
use Rattle.per_bits.proofs.SectionLaws.{section_parts, section_read}
use Rattle.per_bits.proofs.sections.Additions.count.Goals as goal

pub number-requires-clause-within : goal.number-requires-clause-within
number-requires-clause-within c = omega (arith, (section_parts c.self.invariant.0 c.self.inside.bits.bits c.self.invariant.1).long)

pub returns-clause-section : goal.returns-clause-section
returns-clause-section c =
    let P : Part → Type 0 = λ q. IsSection q.bits in
    section_read c.args.self.now.bits (subst P c.self.view_is c.self.invariant)

pub returns-clause-value : goal.returns-clause-value
returns-clause-value c =
    let number : c.number.result ≡ value_of (take 7 c.args.self.now.bits) = c.number.ensures.value ∙ ap (λ (p : Part). value_of (take 7 p.bits)) c.self.view_is in
    omega (arith, (section_parts (members_of c.args.self.now.bits) c.args.self.now.bits (returns-clause-section c)).count)
