use Rattle.std.proofs.Common.{◌≡◌, ℕ, ◌+◌, ◌≤◌, List, [], Bool, false, Some, length, take, drop, refl, ap, sym, ◌∙◌, eq-eqb, eqb-true, arith}
use Rattle.std.specs.Prelude.{IsTrue}
use Rattle.std.proofs.lemmas.List.{length-take, length-drop, take-take, drop_all}
use Rattle.per_bits.specs.Bits.{Part, value_of}
use Rattle.per_bits.proofs.SectionLaws.{rest_behind, section_parts, section_from, section_passed, passed_absent, passed_present, passed_none}
use Rattle.per_bits.proofs.sections.is_section.Goals as goal
use Rattle.per_bits.proofs.sections.is_section.Goals.{then-bit+in-Some, else-bit}

refused : {A : Type 0} → (A → ⊥) → (IsTrue false → A) × (A → IsTrue false)
refused never = (λ h. absurd (cc), λ s. absurd (never s))

pub returns-then-len-lt-COUNT_BITS : goal.returns-then-len-lt-COUNT_BITS
returns-then-len-lt-COUNT_BITS c = refused (λ s. omega (arith, (section_parts s.0 c.args.bits.now.bits s.1).long))

pub returns-then-count-gt-MOST_ADDITIONS : goal.returns-then-count-gt-MOST_ADDITIONS
returns-then-count-gt-MOST_ADDITIONS c = refused (λ s. omega (arith, (section_parts s.0 c.args.bits.now.bits s.1).count, s.1.few))

pub returns-then-len-count : goal.returns-then-len-count
returns-then-len-count c = refused (λ s. omega (arith, (section_parts s.0 c.args.bits.now.bits s.1).count, (section_parts s.0 c.args.bits.now.bits s.1).long))

-- the number that the presence bits read
same_number : (bits : List Bool) (p q : Part) (count : ℕ) → p ≡ q → q.bits ≡ take count (drop 7 bits) → value_of (take count p.bits) ≡ value_of (take count (drop 7 bits))
same_number bits p q count e is =
    ap (λ (r : Part). value_of (take count r.bits)) e ∙ ap (λ l. value_of (take count l)) is ∙ ap value_of (take-take count count (drop 7 bits) (omega arith))

pub returns-then-number-eq0 : goal.returns-then-number-eq0
returns-then-number-eq0 c =
    refused
    (λ s.
    let parts = section_parts s.0 c.args.bits.now.bits s.1 in
    let size : length s.0 ≡ c.number.result + 1 = omega (arith, parts.count) in
    let none : value_of (take (c.number.result + 1) (drop 7 c.args.bits.now.bits)) ≡ 0 =
    sym (c.number-2.ensures.value ∙ same_number c.args.bits.now.bits c.part-present.result _ (c.number.result + 1) c.part-present.ensures.value refl) ∙ c.if-number-eq0.true in
    parts.some (ap (λ n. value_of (take n (drop 7 c.args.bits.now.bits))) size ∙ none))

pub returns-in_default : goal.returns-in_default
returns-in_default c =
    refused
    (λ s.
    let none = passed_none c.part-present.result.bits (drop c.loop-i.place c.args.bits.now.bits) c.loop-i.i c.if-bit.ensures.value (c.in_default.ensures.none) in
    let present : c.part-present.result.bits ≡ take (c.number.result + 1) (drop 7 c.args.bits.now.bits) = ap (λ (p : Part). p.bits) c.part-present.ensures.value in
    let all = section_passed s.0 c.args.bits.now.bits (c.number.result + 1) s.1 (omega arith) in
    cc)

pub loop-i-preserved : goal.loop-i-preserved
loop-i-preserved c =
    elim c.if-bit.branch [
      | then-bit+in-Some w ↦
          let found = w.in-Some.ensures.some in (
            omega arith,
            ap (λ n. rest_behind (drop (c.loop-i.i + 1) c.part-present.result.bits) (drop n c.args.bits.now.bits)) w.place-is
                ∙ passed_present c.part-present.result.bits (drop c.loop-i.place c.args.bits.now.bits) (drop w.in-Some.end c.args.bits.now.bits) c.loop-i.i found.0 found.1 w.if-bit.ensures.value found.2 found.3
                ∙ c.loop-i.invariant.1,
          )
      | else-bit w ↦ (
        omega arith,
        ap (λ n. rest_behind (drop (c.loop-i.i + 1) c.part-present.result.bits) (drop n c.args.bits.now.bits)) w.place-is
            ∙ passed_absent c.part-present.result.bits (drop c.loop-i.place c.args.bits.now.bits) c.loop-i.i w.if-bit.ensures.value
            ∙ c.loop-i.invariant.1,
      )
    ]

pub returns : goal.returns
returns c =
    let present : c.part-present.result.bits ≡ take (c.number.result + 1) (drop 7 c.args.bits.now.bits) = ap (λ (p : Part). p.bits) c.part-present.ensures.value in
    let few : length c.part-present.result.bits ≤ c.loop-i.i =
    omega (arith, ap length present, length-take (c.number.result + 1) (drop 7 c.args.bits.now.bits)) in
    let done : rest_behind (take (c.number.result + 1) (drop 7 c.args.bits.now.bits)) (drop (7 + (c.number.result + 1)) c.args.bits.now.bits) ≡ Some (drop c.loop-i.place c.args.bits.now.bits) =
    ap (λ l. rest_behind l (drop (7 + (c.number.result + 1)) c.args.bits.now.bits)) (sym present)
    ∙ sym c.loop-i.invariant.1
    ∙ ap (λ l. rest_behind l (drop c.loop-i.place c.args.bits.now.bits)) (drop_all c.loop-i.i c.part-present.result.bits few) in (
      λ h.
          let there : c.loop-i.place ≡ c.len-len.result = eqb-true c.loop-i.place c.len-len.result h in
          section_from c.args.bits.now.bits (c.number.result + 1) (omega arith) (omega arith) (omega arith)
          (λ e. c.if-number-eq0.false (c.number-2.ensures.value ∙ same_number c.args.bits.now.bits c.part-present.result _ (c.number.result + 1) c.part-present.ensures.value refl ∙ e))
          (done ∙ ap Some (drop_all c.loop-i.place c.args.bits.now.bits (omega arith))),
      λ s.
          let all = section_passed s.0 c.args.bits.now.bits (c.number.result + 1) s.1 (omega arith) in
          let none : drop c.loop-i.place c.args.bits.now.bits ≡ [] = cc in
          eq-eqb c.loop-i.place c.len-len.result (omega (arith, ap length none, length-drop c.loop-i.place c.args.bits.now.bits)),
    )
