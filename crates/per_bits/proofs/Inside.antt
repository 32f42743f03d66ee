-- Parts that lie in others, and the parts of a section's additions among them.
use Rattle.std.proofs.Common.{◌≡◌, ℕ, ◌+◌, ◌-◌, ◌*◌, ◌≤◌, Bool, List, [], ◌∷◌, ◌++◌, None, Some, length, take, drop, map, refl, ap, sym, subst, ◌∙◌, arith}
use Rattle.std.specs.Prelude.{is_some}
use Rattle.std.specs.List.{AllByRecursion}
use Rattle.std.proofs.lemmas.List.{length-take, length-drop, take_all}
use Rattle.per_bits.specs.Bits.{Part, LiesIn, value_of, octets_of, front, behind}
use Rattle.per_bits.specs.Parts.{Member, Open, Opens, Section, member_count, members_of, present_members, present_parts, AreInOrder}
use Rattle.per_bits.proofs.Places.{part_field}
use Rattle.per_bits.proofs.SectionLaws.{open_front, number_of_open, rest_of_open, open_parts, parts_are, section_parts, octets_read}

pub lies_in_self : (p : Part) → LiesIn p p
lies_in_self p =
    let none : p.start - p.start ≡ 0 = omega arith in
    record {
      all = refl;
      starts = omega arith;
      within = omega arith;
      bits = sym (ap (λ n. take (length p.bits) (drop n p.bits)) none ∙ take_all (length p.bits) p.bits (omega arith));
    }

pub lies_in_trans : (p q r : Part) → LiesIn p q → LiesIn q r → LiesIn p r
lies_in_trans p q r a b = record {
  all = a.all ∙ b.all;
  starts = omega (arith, a.starts, b.starts);
  within = omega (arith, a.within, b.within);
  bits =
      a.bits
      ∙ ap (λ l. take (length p.bits) (drop (p.start - q.start) l)) b.bits
      ∙ part_field r.bits (q.start - r.start) (length q.bits) (p.start - q.start) (length p.bits) (omega (arith, a.within, a.starts))
      ∙ ap (λ n. take (length p.bits) (drop n r.bits)) (omega (arith, a.starts, b.starts));
}

pub part_lies_in : (p : Part) (k n : ℕ) → k + n ≤ length p.bits → LiesIn (front (behind p k) n) p
part_lies_in p k n h =
    let far : p.start + k - p.start ≡ k = omega arith in
    let long : length (take n (drop k p.bits)) ≡ n = length-take n (drop k p.bits) ∙ omega (arith, length-drop k p.bits) in
    record {
      all = refl;
      starts = omega arith;
      within = omega arith;
      bits = sym (ap (λ m. take m (drop (p.start + k - p.start) p.bits)) long ∙ ap (λ m. take n (drop m p.bits)) far);
    }

pub rest_lies_in : (p : Part) (k : ℕ) → k ≤ length p.bits → LiesIn (behind p k) p
rest_lies_in p k h =
    let far : p.start + k - p.start ≡ k = omega arith in
    record {
      all = refl;
      starts = omega arith;
      within = omega (arith, length-drop k p.bits);
      bits = sym (ap (λ m. take (length (drop k p.bits)) (drop m p.bits)) far ∙ take_all (length (drop k p.bits)) (drop k p.bits) (omega arith));
    }

-- the open types that follow the first
rest_opens : (octets : List ℕ) (a c bits : List Bool) (members : List Member) → Open octets a → Opens members c → bits ≡ a ++ c → Opens members (drop (8 + 8 * value_of (take 8 bits)) bits)
rest_opens octets a c bits members h more e =
    let n : value_of (take 8 bits) ≡ length octets = ap (λ l. value_of (take 8 l)) e ∙ number_of_open octets a c h in
    let rest : c ≡ drop (8 + 8 * value_of (take 8 bits)) bits =
    sym (ap (λ k. drop (8 + 8 * k) bits) n ∙ ap (drop (8 + 8 * length octets)) e ∙ rest_of_open octets a c h) in
    let P : List Bool → Type 0 = λ l. Opens members l in
    subst P rest more

pub parts_inside : (members : List Member) (i : ℕ) (p q : Part) → LiesIn p q → Opens members p.bits → AllByRecursion (λ (x : ℕ × Part). LiesIn x.1 q) (open_parts i (map is_some members) p)
parts_inside [] i p q h opens = tt
parts_inside (None ∷ members) i p q h opens = parts_inside members (i + 1) p q h opens
parts_inside (Some octets ∷ members) i p q h (a, c, spelled, more, is) =
    let here = open_front octets a c p.bits spelled is in
    let fits : 8 + 8 * value_of (take 8 p.bits) ≤ length p.bits = here.fits in (
      lies_in_trans _ p q (part_lies_in p 8 (8 * value_of (take 8 p.bits)) fits) h,
      parts_inside members (i + 1) (behind p (8 + 8 * value_of (take 8 p.bits))) q
          (lies_in_trans _ p q (rest_lies_in p (8 + 8 * value_of (take 8 p.bits)) fits) h)
          (rest_opens octets a c p.bits members spelled more is),
    )

pub parts_ordered : (members : List Member) (i j at : ℕ) (p : Part) → i ≤ j → at ≤ p.start → Opens members p.bits → AreInOrder i at (open_parts j (map is_some members) p)
parts_ordered [] i j at p h there opens = tt
parts_ordered (None ∷ members) i j at p h there opens = parts_ordered members i (j + 1) at p (omega arith) there opens
parts_ordered (Some octets ∷ members) i j at p h there (a, c, spelled, more, is) =
    let long = length-take (8 * value_of (take 8 p.bits)) (drop 8 p.bits) in (
      h,
      omega arith,
      parts_ordered members (j + 1) (j + 1) (p.start + 8 + length (take (8 * value_of (take 8 p.bits)) (drop 8 p.bits))) (behind p (8 + 8 * value_of (take 8 p.bits)))
          (omega arith) (omega arith) (rest_opens octets a c p.bits members spelled more is),
    )

section_opens : (q : Part) → Section (members_of q.bits) q.bits → Opens (members_of q.bits) (drop (7 + member_count q.bits) q.bits)
section_opens q h =
    let parts = section_parts (members_of q.bits) q.bits h in
    let P : ℕ → Type 0 = λ n. Opens (members_of q.bits) (drop (7 + n) q.bits) in
    subst P (sym parts.count) parts.opens

-- what a section's iterator gives is what its presence bits promise
section_parts_are : (q : Part) (h : Section (members_of q.bits) q.bits)
    → open_parts 0 (map is_some (members_of q.bits)) (behind q (7 + member_count q.bits)) ≡ present_parts q.all 0 (q.start + (7 + member_count q.bits)) (members_of q.bits)
section_parts_are q h =
    parts_are (members_of q.bits) 0 (behind q (7 + member_count q.bits)) (drop (7 + member_count q.bits) q.bits) refl (section_opens q h)

section_long : (q : Part) → Section (members_of q.bits) q.bits → 7 + member_count q.bits ≤ length q.bits
section_long q h =
    let parts = section_parts (members_of q.bits) q.bits h in
    omega (arith, parts.long, parts.count)

pub section_inside : (q : Part) → Section (members_of q.bits) q.bits → AllByRecursion (λ (x : ℕ × Part). LiesIn x.1 q) (present_parts q.all 0 (q.start + (7 + member_count q.bits)) (members_of q.bits))
section_inside q h =
    let P : List (ℕ × Part) → Type 0 = λ l. AllByRecursion (λ (x : ℕ × Part). LiesIn x.1 q) l in
    subst P (section_parts_are q h)
    (parts_inside (members_of q.bits) 0 (behind q (7 + member_count q.bits)) q (rest_lies_in q (7 + member_count q.bits) (section_long q h)) (section_opens q h))

pub section_ordered : (q : Part) → Section (members_of q.bits) q.bits → AreInOrder 0 q.start (present_parts q.all 0 (q.start + (7 + member_count q.bits)) (members_of q.bits))
section_ordered q h =
    let P : List (ℕ × Part) → Type 0 = λ l. AreInOrder 0 q.start l in
    subst P (section_parts_are q h)
    (parts_ordered (members_of q.bits) 0 0 q.start (behind q (7 + member_count q.bits)) (omega arith) (omega arith) (section_opens q h))

pub section_octets : (q : Part) → Section (members_of q.bits) q.bits → map (λ (x : ℕ × Part). (x.0, octets_of x.1.bits)) (present_parts q.all 0 (q.start + (7 + member_count q.bits)) (members_of q.bits)) ≡ present_members 0 (members_of q.bits)
section_octets q h = octets_read q.all 0 (q.start + (7 + member_count q.bits)) (members_of q.bits) (drop (7 + member_count q.bits) q.bits) (section_opens q h)
