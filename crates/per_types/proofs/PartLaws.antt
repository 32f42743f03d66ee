-- The parts that the readings of strings and sections hand out stand where they were spelled.
use Rattle.std.proofs.Common.{◌≡◌, ℕ, ◌+◌, ◌-◌, ◌*◌, Bool, List, length, Result, Ok, Err, refl, sym, ap, ◌∙◌, arith}
use Rattle.std.proofs.lemmas.List.{length-append, length-take}
use Rattle.per_bits.specs.Bits.{Part, value_of, octets_of, behind, front}
use Rattle.per_bits.specs.Parts.{members_of}
use Rattle.std.specs.Prelude.{IfOk}
use Rattle.per_bits.specs.declared.refusals.Refusal.{Refusal}
use Rattle.per_types.specs.Kinds as kind
use Rattle.per_types.specs.Kinds.{Kind, width}
use Rattle.per_types.specs.Stops.{element_at}
use Rattle.per_types.specs.Reading.{◌>>=◌, length_at, octets_at, string_at, oid_length_at, oid_at, object_at, open_length_at, open_at, content_at, over_at, members_at, section_at, Gives}
use Rattle.per_types.proofs.Plans.{value, next_ok, element_taken, behind-behind}
use Rattle.per_types.proofs.Sectionwise.{over_section}

value_is : {X : Type 0} (v w : X) (p q : Part) → value v p ≡ value w q → (v ≡ w) × (p ≡ q)
value_is v w p q e = let h : (v, p) ≡ (w, q) = cc in (ap (λ (x : _ × Part). x.0) h, ap (λ (x : _ × Part). x.1) h)

-- o has the bits behind a length of eight bits, and q stands behind them
pub record IsBehindLength (p o q : Part) : Type 0 where
  pub part : o ≡ front (behind p 8) (length o.bits)
  pub rest : q ≡ behind p (8 + length o.bits)

-- a length and the octets behind it
behind_length : (k : ℕ → Kind) (l : Kind) (p o q : Part) (a b : List Bool × Part) → width l ≡ 8 → ((n : ℕ) → width (k n) ≡ 8 * n) → element_at l p ≡ Ok a → element_at (k (value_of a.0)) a.1 ≡ Ok b
    → front a.1 (8 * value_of a.0) ≡ o → b.1 ≡ q → IsBehindLength p o q
behind_length k l p o q a b wide many first second part rest =
    let t = element_taken l p a first in
    let u = element_taken (k (value_of a.0)) a.1 b second in
    let eight : length a.0 ≡ 8 = t.accepted.width ∙ wide in
    let at : a.1 ≡ behind p 8 = t.left ∙ ap (behind p) eight in
    let long : length b.0 ≡ 8 * value_of a.0 = u.accepted.width ∙ many (value_of a.0) in
    let there : length a.1.bits ≡ length b.0 + length b.1.bits = ap length u.parts ∙ length-append b.0 b.1.bits in
    let sized : length o.bits ≡ 8 * value_of a.0 = ap (λ (x : Part). length x.bits) (sym part) ∙ length-take (8 * value_of a.0) a.1.bits ∙ omega (arith, there, long) in
    record {
      part = sym part ∙ ap (λ (x : Part). front x (8 * value_of a.0)) at ∙ ap (front (behind p 8)) (sym sized);
      rest = sym rest ∙ u.left ∙ ap (λ (x : Part). behind x (length b.0)) at ∙ behind-behind p 8 (length b.0) ∙ ap (λ (n : ℕ). behind p (8 + n)) (long ∙ sym sized);
    }

length_width : width kind.string_length ≡ 8
unfolding width
length_width = refl

oid_length_width : width kind.oid_length ≡ 8
unfolding width
oid_length_width = refl

open_length_width : width kind.open_length ≡ 8
unfolding width
open_length_width = refl

octets_width : (n : ℕ) → width (kind.string_octets n) ≡ 8 * n
unfolding width
octets_width n = refl

oid_octets_width : (n : ℕ) → width (kind.oid_octets n) ≡ 8 * n
unfolding width
oid_octets_width n = refl

pub string_in_place : (p o q : Part) → octets_at p ≡ Ok (o, q) → (string_at p ≡ Ok (octets_of o.bits, q)) × (o ≡ front (behind p 8) (length o.bits)) × (q ≡ behind p (8 + length o.bits))
unfolding string_at octets_at length_at
string_in_place p o q h =
    let outer = next_ok (element_at kind.string_length p >>= λ b. Ok (value_of b.0, b.1)) (λ n. element_at (kind.string_octets n.0) n.1 >>= λ b. Ok (front n.1 (8 * n.0), b.1)) (o, q) h in
    let a = next_ok (element_at kind.string_length p) (λ b. Ok (value_of b.0, b.1)) outer.0 outer.1 in
    let is = value_is (value_of a.0.0) outer.0.0 a.0.1 outer.0.1 a.2 in
    let inner = next_ok (element_at (kind.string_octets outer.0.0) outer.0.1) (λ b. Ok (front outer.0.1 (8 * outer.0.0), b.1)) (o, q) outer.2 in
    let end = value_is (front outer.0.1 (8 * outer.0.0)) o inner.0.1 q inner.2 in
    let second : element_at (kind.string_octets (value_of a.0.0)) a.0.1 ≡ Ok inner.0 = ap (λ (n : ℕ). element_at (kind.string_octets n) a.0.1) is.0 ∙ ap (element_at (kind.string_octets outer.0.0)) is.1 ∙ inner.1 in
    let part : front a.0.1 (8 * value_of a.0.0) ≡ o = ap (λ (n : ℕ). front a.0.1 (8 * n)) is.0 ∙ ap (λ (x : Part). front x (8 * outer.0.0)) is.1 ∙ end.0 in
    let b = behind_length kind.string_octets kind.string_length p o q a.0 inner.0 length_width octets_width a.1 second part end.1 in
    (rw h refl, b.part, b.rest)

pub object_in_place : (p o q : Part) → oid_at p ≡ Ok (o, q) → (object_at p ≡ Ok (octets_of o.bits, q)) × (o ≡ front (behind p 8) (length o.bits)) × (q ≡ behind p (8 + length o.bits))
unfolding object_at oid_at oid_length_at
object_in_place p o q h =
    let outer = next_ok (element_at kind.oid_length p >>= λ b. Ok (value_of b.0, b.1)) (λ n. element_at (kind.oid_octets n.0) n.1 >>= λ b. Ok (front n.1 (8 * n.0), b.1)) (o, q) h in
    let a = next_ok (element_at kind.oid_length p) (λ b. Ok (value_of b.0, b.1)) outer.0 outer.1 in
    let is = value_is (value_of a.0.0) outer.0.0 a.0.1 outer.0.1 a.2 in
    let inner = next_ok (element_at (kind.oid_octets outer.0.0) outer.0.1) (λ b. Ok (front outer.0.1 (8 * outer.0.0), b.1)) (o, q) outer.2 in
    let end = value_is (front outer.0.1 (8 * outer.0.0)) o inner.0.1 q inner.2 in
    let second : element_at (kind.oid_octets (value_of a.0.0)) a.0.1 ≡ Ok inner.0 = ap (λ (n : ℕ). element_at (kind.oid_octets n) a.0.1) is.0 ∙ ap (element_at (kind.oid_octets outer.0.0)) is.1 ∙ inner.1 in
    let part : front a.0.1 (8 * value_of a.0.0) ≡ o = ap (λ (n : ℕ). front a.0.1 (8 * n)) is.0 ∙ ap (λ (x : Part). front x (8 * outer.0.0)) is.1 ∙ end.0 in
    let b = behind_length kind.oid_octets kind.oid_length p o q a.0 inner.0 oid_length_width oid_octets_width a.1 second part end.1 in
    (rw h refl, b.part, b.rest)

pub open_in_place : (p o q : Part) → open_at p ≡ Ok (o, q) → (content_at p ≡ Ok (octets_of o.bits, q)) × (o ≡ front (behind p 8) (length o.bits)) × (q ≡ behind p (8 + length o.bits))
unfolding content_at open_at open_length_at
open_in_place p o q h =
    let outer = next_ok (element_at kind.open_length p >>= λ b. Ok (value_of b.0, b.1)) (λ n. element_at (kind.string_octets n.0) n.1 >>= λ b. Ok (front n.1 (8 * n.0), b.1)) (o, q) h in
    let a = next_ok (element_at kind.open_length p) (λ b. Ok (value_of b.0, b.1)) outer.0 outer.1 in
    let is = value_is (value_of a.0.0) outer.0.0 a.0.1 outer.0.1 a.2 in
    let inner = next_ok (element_at (kind.string_octets outer.0.0) outer.0.1) (λ b. Ok (front outer.0.1 (8 * outer.0.0), b.1)) (o, q) outer.2 in
    let end = value_is (front outer.0.1 (8 * outer.0.0)) o inner.0.1 q inner.2 in
    let second : element_at (kind.string_octets (value_of a.0.0)) a.0.1 ≡ Ok inner.0 = ap (λ (n : ℕ). element_at (kind.string_octets n) a.0.1) is.0 ∙ ap (element_at (kind.string_octets outer.0.0)) is.1 ∙ inner.1 in
    let part : front a.0.1 (8 * value_of a.0.0) ≡ o = ap (λ (n : ℕ). front a.0.1 (8 * n)) is.0 ∙ ap (λ (x : Part). front x (8 * outer.0.0)) is.1 ∙ end.0 in
    let b = behind_length kind.string_octets kind.open_length p o q a.0 inner.0 open_length_width octets_width a.1 second part end.1 in
    (rw h refl, b.part, b.rest)

pub section_in_place : (p o q : Part) → section_at p ≡ Ok (o, q) → o ≡ front p (length o.bits)
unfolding section_at
section_in_place p o q h =
    let m = next_ok (over_at p) (λ over. Ok (front p (length p.bits - length over.1.bits), over.1)) (o, q) h in
    let end = value_is (front p (length p.bits - length m.0.1.bits)) o m.0.1 q m.2 in
    let s = over_section p m.0.1 m.0.0 m.1 in
    let count : length p.bits - length m.0.1.bits ≡ s.count = omega (arith, s.rest) in
    let part : o ≡ front p s.count = sym end.0 ∙ ap (front p) count in
    let sized : length o.bits ≡ s.count = ap (λ (x : Part). length x.bits) part ∙ length-take s.count p.bits ∙ omega (arith, s.enough) in
    part ∙ ap (front p) (sym sized)

-- ---- what a reader hands out, from the reading that it gives

pub string_part : (p : Part) (r : Result Part Refusal) (new : Part) → Gives (λ o. o) r (octets_at p) new → IfOk r (λ o. o ≡ front (behind p 8) (length o.bits))
string_part p (Ok o) new g = (string_in_place p o new g).1
string_part p (Err e) new g = tt

pub object_part : (p : Part) (r : Result Part Refusal) (new : Part) → Gives (λ o. o) r (oid_at p) new → IfOk r (λ o. o ≡ front (behind p 8) (length o.bits))
object_part p (Ok o) new g = (object_in_place p o new g).1
object_part p (Err e) new g = tt

pub open_part : (p : Part) (r : Result Part Refusal) (new : Part) → Gives (λ o. o) r (open_at p) new → IfOk r (λ o. o ≡ front (behind p 8) (length o.bits))
open_part p (Ok o) new g = (open_in_place p o new g).1
open_part p (Err e) new g = tt

pub section_part : (p : Part) (r : Result Part Refusal) (new : Part) → Gives (λ o. o) r (section_at p) new → IfOk r (λ o. o ≡ front p (length o.bits))
section_part p (Ok o) new g = section_in_place p o new g
section_part p (Err e) new g = tt

pub string_is : (p : Part) → string_at p ≡ (octets_at p >>= λ o. Ok (octets_of o.0.bits, o.1))
unfolding string_at
string_is p = refl

pub object_is : (p : Part) → object_at p ≡ (oid_at p >>= λ o. Ok (octets_of o.0.bits, o.1))
unfolding object_at
object_is p = refl

pub content_is : (p : Part) → content_at p ≡ (open_at p >>= λ o. Ok (octets_of o.0.bits, o.1))
unfolding content_at
content_is p = refl

pub members_are : (p : Part) → members_at p ≡ (section_at p >>= λ o. Ok (members_of o.0.bits, o.1))
unfolding members_at
members_are p = refl
