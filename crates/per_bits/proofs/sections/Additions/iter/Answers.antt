use Rattle.std.proofs.Common.{◌≡◌, ℕ, ◌+◌, List, Bool, length, take, drop, map, ap, sym, subst, ◌∙◌, arith}
use Rattle.std.specs.Prelude.{is_some}
use Rattle.std.proofs.lemmas.List.{length-map}
use Rattle.per_bits.specs.Bits.{Part, LiesIn, octets_of, behind}
use Rattle.std.specs.List.{AllByRecursion}
use Rattle.per_bits.specs.Parts.{Opens, IsSection, AreInOrder, member_count, members_of, present_parts}
use Rattle.per_bits.proofs.Inside.{section_inside, section_ordered, section_octets}
use Rattle.per_bits.proofs.SectionLaws.{section_parts, section_read, iterated}
use Rattle.per_bits.proofs.sections.Additions.iter.Goals as goal

pub number-requires-clause-within : goal.number-requires-clause-within
number-requires-clause-within c = omega (arith, (section_parts c.self.invariant.0 c.self.inside.bits.bits c.self.invariant.1).long)

pub part-requires : goal.part-requires
part-requires c =
    let parts = section_parts c.self.invariant.0 c.self.inside.bits.bits c.self.invariant.1 in
    omega (arith, parts.long, parts.count)

pub behind-requires : goal.behind-requires
behind-requires c =
    let parts = section_parts c.self.invariant.0 c.self.inside.bits.bits c.self.invariant.1 in
    omega (arith, parts.long, parts.count)

pub invariant_of-result : goal.invariant_of-result
invariant_of-result c =
    let parts = section_parts c.self.invariant.0 c.self.inside.bits.bits c.self.invariant.1 in
    let size : length c.self.invariant.0 ≡ c.number.result + 1 = omega (arith, parts.count) in
    let present : c.part.result.bits ≡ map is_some c.self.invariant.0 =
    ap (λ (p : Part). p.bits) c.part.ensures.value ∙ ap (λ n. take n (drop 7 c.self.inside.bits.bits)) (sym size) ∙ parts.present in
    let rest : drop (7 + length c.self.invariant.0) c.self.inside.bits.bits ≡ c.behind.result.bits =
    ap (λ n. drop (7 + n) c.self.inside.bits.bits) size ∙ sym (ap (λ (p : Part). p.bits) c.behind.ensures.value) in
    let P : List Bool → Type 0 = λ l. Opens c.self.invariant.0 l in
    (omega (arith, ap length present, length-map c.self.invariant.0 is_some, c.self.invariant.1.few), (c.self.invariant.0, sym present, subst P rest parts.opens))

pub returns-clause-value : goal.returns-clause-value
returns-clause-value c =
    let number : c.number.result + 1 ≡ member_count c.self.inside.bits.bits = ap (λ n. n + 1) c.number.ensures.value in
    let present : c.part.result.bits ≡ take (member_count c.self.inside.bits.bits) (drop 7 c.self.inside.bits.bits) =
    ap (λ (p : Part). p.bits) c.part.ensures.value ∙ ap (λ n. take n (drop 7 c.self.inside.bits.bits)) number in
    let rest : c.behind.result ≡ behind c.self.inside.bits (7 + member_count c.self.inside.bits.bits) =
    c.behind.ensures.value ∙ ap (λ n. behind c.self.inside.bits (7 + n)) number in
    iterated c.self.inside.bits c.part.result c.behind.result present rest
    ∙ ap (λ (q : Part). present_parts q.all 0 (q.start + (7 + member_count q.bits)) (members_of q.bits)) c.self.view_is

pub returns-clause-section : goal.returns-clause-section
returns-clause-section c =
    let P : Part → Type 0 = λ q. IsSection q.bits in
    section_read c.args.self.now.bits (subst P c.self.view_is c.self.invariant)

pub returns-clause-members : goal.returns-clause-members
returns-clause-members c =
    ap (λ l. map (λ (x : ℕ × Part). (x.0, octets_of x.1.bits)) l) (returns-clause-value c) ∙ section_octets c.args.self.now (returns-clause-section c)

pub returns-clause-inside : goal.returns-clause-inside
returns-clause-inside c =
    let P : List (ℕ × Part) → Type 0 = λ l. AllByRecursion (λ (x : ℕ × Part). LiesIn x.1 c.args.self.now) l in
    subst P (sym (returns-clause-value c)) (section_inside c.args.self.now (returns-clause-section c))

pub returns-clause-ordered : goal.returns-clause-ordered
returns-clause-ordered c =
    let P : List (ℕ × Part) → Type 0 = λ l. AreInOrder 0 c.args.self.now.start l in
    subst P (sym (returns-clause-value c)) (section_ordered c.args.self.now (returns-clause-section c))
