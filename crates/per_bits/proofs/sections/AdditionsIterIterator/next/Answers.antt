use Rattle.std.proofs.Common.{◌≡◌, ℕ, ◌+◌, ◌*◌, List, ◌∷◌, Bool, take, drop, length, ap, sym, subst, ◌∙◌, arith}
use Rattle.std.proofs.lemmas.List.{length-take, length-drop, drop_all}
use Rattle.per_bits.specs.Bits.{Part, value_of, front, behind}
use Rattle.per_bits.specs.Parts.{Opens}
use Rattle.per_bits.proofs.SectionLaws.{present_front, open_parts, parts_skip, next_part, view_same, goes}
use Rattle.per_bits.proofs.sections.AdditionsIterIterator.next.Goals as goal

pub returns-then-absent-len-clause-steps : goal.returns-then-absent-len-clause-steps
returns-then-absent-len-clause-steps c =
    let none =
    sym c.self.view_is
    ∙ view_same c.self.invariant.1.0 c.self.inside.present.bits c.self.inside.index c.self.inside.rest c.self.invariant.1.1 c.self.invariant.1.2
    ∙ parts_skip c.absent-absent.result c.self.inside.index c.self.inside.present.bits c.self.inside.rest c.absent-absent.ensures.absent
    ∙ ap (λ l. open_parts (c.self.inside.index + c.absent-absent.result) l c.self.inside.rest) (drop_all c.absent-absent.result c.self.inside.present.bits (omega arith)) in
    (none, none)

pub number-requires-clause-within : goal.number-requires-clause-within
number-requires-clause-within c =
    let found = present_front c.absent-absent.result c.self.invariant.1.0 c.self.inside.present.bits c.self.inside.rest.bits c.self.invariant.1.1 c.self.invariant.1.2 c.absent-absent.ensures.absent (c.absent-absent.ensures.found (omega arith)) in
    found.here.long

pub part-requires : goal.part-requires
part-requires c =
    let found = present_front c.absent-absent.result c.self.invariant.1.0 c.self.inside.present.bits c.self.inside.rest.bits c.self.invariant.1.1 c.self.invariant.1.2 c.absent-absent.ensures.absent (c.absent-absent.ensures.found (omega arith)) in
    omega (arith, found.here.fits)

pub known-octets-requires-clause-octets : goal.known-octets-requires-clause-octets
known-octets-requires-clause-octets c =
    let found = present_front c.absent-absent.result c.self.invariant.1.0 c.self.inside.present.bits c.self.inside.rest.bits c.self.invariant.1.1 c.self.invariant.1.2 c.absent-absent.ensures.absent (c.absent-absent.ensures.found (omega arith)) in
    let long = ap (λ (p : Part). length p.bits) c.part.ensures.value ∙ length-take (8 * c.number.result) (drop 8 c.self.inside.rest.bits) in
    omega (arith, long, found.here.fits, length-drop 8 c.self.inside.rest.bits)

pub known-octets-requires-clause-few : goal.known-octets-requires-clause-few
known-octets-requires-clause-few c =
    let found = present_front c.absent-absent.result c.self.invariant.1.0 c.self.inside.present.bits c.self.inside.rest.bits c.self.invariant.1.1 c.self.invariant.1.2 c.absent-absent.ensures.absent (c.absent-absent.ensures.found (omega arith)) in
    let long = ap (λ (p : Part). length p.bits) c.part.ensures.value ∙ length-take (8 * c.number.result) (drop 8 c.self.inside.rest.bits) in
    omega (arith, long, found.here.few)

pub behind-self-inside-requires-2 : goal.behind-self-inside-requires-2
behind-self-inside-requires-2 c =
    let found = present_front c.absent-absent.result c.self.invariant.1.0 c.self.inside.present.bits c.self.inside.rest.bits c.self.invariant.1.1 c.self.invariant.1.2 c.absent-absent.ensures.absent (c.absent-absent.ensures.found (omega arith)) in
    omega (arith, found.here.fits)

pub invariant_of-self : goal.invariant_of-self
invariant_of-self c =
    let found = present_front c.absent-absent.result c.self.invariant.1.0 c.self.inside.present.bits c.self.inside.rest.bits c.self.invariant.1.1 c.self.invariant.1.2 c.absent-absent.ensures.absent (c.absent-absent.ensures.found (omega arith)) in
    let present : c.behind-self-inside.result.bits ≡ drop (c.absent-absent.result + 1) c.self.inside.present.bits = ap (λ (p : Part). p.bits) c.behind-self-inside.ensures.value in
    let rest : drop (8 + 8 * value_of (take 8 c.self.inside.rest.bits)) c.self.inside.rest.bits ≡ c.behind-self-inside-2.result.bits =
    sym (ap (λ (p : Part). p.bits) c.behind-self-inside-2.ensures.value ∙ ap (λ n. drop (8 + 8 * n) c.self.inside.rest.bits) c.number.ensures.value) in
    let P : List Bool → Type 0 = λ l. Opens found.others.0 l in (
      omega (arith, ap length present, length-drop (c.absent-absent.result + 1) c.self.inside.present.bits),
      (found.others.0, found.others.1 ∙ sym present, subst P rest found.others.2),
    )

pub returns-clause-steps : goal.returns-clause-steps
returns-clause-steps c =
    let here : c.known-octets.result ≡ front (behind c.self.inside.rest 8) (8 * value_of (take 8 c.self.inside.rest.bits)) =
    c.known-octets.ensures ∙ c.part.ensures.value ∙ ap (λ n. front (behind c.self.inside.rest 8) (8 * n)) c.number.ensures.value in
    let rest : c.behind-self-inside-2.result ≡ behind c.self.inside.rest (8 + 8 * value_of (take 8 c.self.inside.rest.bits)) =
    c.behind-self-inside-2.ensures.value ∙ ap (λ n. behind c.self.inside.rest (8 + 8 * n)) c.number.ensures.value in
    let present : c.behind-self-inside.result.bits ≡ drop (c.absent-absent.result + 1) c.self.inside.present.bits = ap (λ (p : Part). p.bits) c.behind-self-inside.ensures.value in
    let i : ℕ = c.self.inside.index + c.absent-absent.result in
    let found = present_front c.absent-absent.result c.self.invariant.1.0 c.self.inside.present.bits c.self.inside.rest.bits c.self.invariant.1.1 c.self.invariant.1.2 c.absent-absent.ensures.absent (c.absent-absent.ensures.found (omega arith)) in
    let P : List Bool → Type 0 = λ l. Opens found.others.0 l in
    let opens = subst P (sym (ap (λ (p : Part). p.bits) rest)) found.others.2 in
    sym c.self.view_is
    ∙ view_same c.self.invariant.1.0 c.self.inside.present.bits c.self.inside.index c.self.inside.rest c.self.invariant.1.1 c.self.invariant.1.2
    ∙ next_part c.self.inside.index c.absent-absent.result c.self.inside.present.bits c.self.inside.rest c.absent-absent.ensures.absent (c.absent-absent.ensures.found (omega arith))
    ∙ ap (λ p. (i, p) ∷ open_parts (i + 1) (drop (c.absent-absent.result + 1) c.self.inside.present.bits) (behind c.self.inside.rest (8 + 8 * value_of (take 8 c.self.inside.rest.bits)))) (sym here)
    ∙ ap (λ l. (i, c.known-octets.result) ∷ open_parts (i + 1) l (behind c.self.inside.rest (8 + 8 * value_of (take 8 c.self.inside.rest.bits)))) (sym present)
    ∙ ap (λ p. (i, c.known-octets.result) ∷ open_parts (i + 1) c.behind-self-inside.result.bits p) (sym rest)
    ∙ ap (λ l. (i, c.known-octets.result) ∷ l) (sym (view_same found.others.0 c.behind-self-inside.result.bits (i + 1) c.behind-self-inside-2.result (found.others.1 ∙ sym present) opens))

pub returns-clause-goes : goal.returns-clause-goes
returns-clause-goes c =
    goes _ (λ _. tt) _ _ _ (returns-clause-steps c)
