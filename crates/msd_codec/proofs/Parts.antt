-- Where the parts lie that readers hand out, and what they spell.
use Rattle.std.proofs.Common.{◌≡◌, ℕ, ◌+◌, ◌-◌, ◌*◌, ◌≤◌, Bool, true, false, List, [], ◌∷◌, ◌++◌, length, take, drop, Some, None, Ok, Err, refl, sym, ap, subst, ◌∙◌, arith}
use Rattle.std.proofs.lemmas.List.{length-append, length-take}
use Rattle.per_bits.specs.Bits.{Part, IsInPlace, front, octets_of, value_of}
use Rattle.per_bits.specs.Parts.{members_of}
use Rattle.per_bits.specs.declared.refusals.Refusal.{Refusal}
use Rattle.per_types.specs.Kinds as kind
use Rattle.per_types.specs.Kinds.{Kind, Element, bits_of, width, whole_width}
use Rattle.std.specs.Prelude.{ℤ, pos, ◌+ℤ◌}
use Rattle.per_types.specs.Types.{bytes, octet_string, relative_oid}
use Rattle.per_types.specs.Stops.{element_at}
use Rattle.per_types.specs.Reading.{◌>>=◌, whole_at, octets_at, oid_at, length_at, oid_length_at, over_at, members_at, section_at, more_at, string_at, object_at, tree_at}
use Rattle.per_types.proofs.Plans.{next_ok, element_taken}
use Rattle.per_types.proofs.Decided.{only_members}
use Rattle.msd_codec.specs.Places.{LieBetween}
use Rattle.msd_codec.specs.inner.Reading.{MovesOn}
use Rattle.msd_codec.proofs.Steps.{ok_same, behind_moves, moves_on, tree_moves}

-- o lies between the places of p and q, and q begins where it ends
pub record Lies (p o q : Part) : Type 0 where
  pub all : o.all ≡ p.all
  pub from : p.start ≤ o.start
  pub to : q.start ≡ o.start + length o.bits

pub lie_between : (p o q : Part) → IsInPlace o → Lies p o q → LieBetween p.all p.start (o ∷ []) q.start
lie_between p o q place lies = (lies.all, place.bits ∙ ap (λ (l : List Bool). take (length o.bits) (drop o.start l)) lies.all, lies.from, omega (arith, lies.to))

pub join : (all : List Bool) (a b c : ℕ) (ps qs : List Part) → LieBetween all a ps b → LieBetween all b qs c → LieBetween all a (ps ++ qs) c
join all a b c [] [] h k = omega (arith, h, k)
join all a b c [] (q ∷ qs) h k = (k.0, k.1, omega (arith, h, k.2), k.3)
join all a b c (p ∷ ps) qs h k = (h.0, h.1, h.2, join all (p.start + length p.bits) b c ps qs h.3 k)

pub later : (all : List Bool) (a b c : ℕ) (qs : List Part) → a ≤ b → LieBetween all b qs c → LieBetween all a qs c
later all a b c [] h k = omega (arith, h, k)
later all a b c (q ∷ qs) h k = (k.0, k.1, omega (arith, h, k.2), k.3)

pub earlier : (all : List Bool) (a b c : ℕ) (ps : List Part) → b ≤ c → LieBetween all a ps b → LieBetween all a ps c
earlier all a b c [] h k = omega (arith, h, k)
earlier all a b c (p ∷ ps) h k = (k.0, k.1, k.2, earlier all (p.start + length p.bits) b c ps h k.3)

-- ---- how far single elements go

pub whole_step : (low high : ℤ) (p q : Part) (v : ℤ) → whole_at low high p ≡ Ok (v, q) → q.start ≡ p.start + whole_width low high
unfolding whole_at width
whole_step low high p q v e =
    let n = next_ok (element_at (kind.whole low high) p) (λ b. Ok (low +ℤ pos (value_of b.0), b.1)) (v, q) e in
    let same = ok_same (low +ℤ pos (value_of n.0.0), n.0.1) (v, q) n.2 in
    let taken = element_taken (kind.whole low high) p n.0 n.1 in
    let there : n.0.1.start ≡ p.start + length n.0.0 = ap (λ (x : Part). x.start) taken.left in
    omega (arith, there, taken.accepted.width, ap (λ (x : Part). x.start) same.1)

-- ---- sections

pub section_members : (p a q : Part) → section_at p ≡ Ok (a, q) → members_at p ≡ Ok (members_of a.bits, q)
unfolding members_at
section_members p a q e = rw e refl

pub section_lies : (p a q : Part) → section_at p ≡ Ok (a, q) → Lies p a q
unfolding section_at
section_lies p a q e =
    let takes = (only_members p (Ok (members_of a.bits, q))).0 (sym (section_members p a q e)) in
    let found = next_ok (over_at p) (λ over. Ok (front p (length p.bits - length over.1.bits), over.1)) (a, q) e in
    let same = ok_same (front p (length p.bits - length found.0.1.bits), found.0.1) (a, q) found.2 in
    let there : p.start ≡ a.start = ap (λ (x : Part). x.start) same.0 in
    let end : q.start ≡ p.start + length (bits_of takes.0) = ap (λ (x : Part). x.start) takes.3 in
    let long : length (take (length p.bits - length found.0.1.bits) p.bits) ≡ length a.bits = ap (λ (x : Part). length x.bits) same.0 in
    let left : length found.0.1.bits ≡ length q.bits = ap (λ (x : Part). length x.bits) same.1 in
    record {
      all = sym (ap (λ (x : Part). x.all) same.0);
      from = omega (arith, there);
      to = omega (arith, there, end, long, left, length-take (length p.bits - length found.0.1.bits) p.bits, ap length takes.2, length-append (bits_of takes.0) q.bits);
    }

pub section_fills : (p a q : Part) → section_at p ≡ Ok (a, q) → (a.start ≡ p.start) × (a.start + length a.bits ≡ q.start)
unfolding section_at
section_fills p a q e =
    let found = next_ok (over_at p) (λ over. Ok (front p (length p.bits - length over.1.bits), over.1)) (a, q) e in
    let same = ok_same (front p (length p.bits - length found.0.1.bits), found.0.1) (a, q) found.2 in
    (sym (ap (λ (x : Part). x.start) same.0), sym (section_lies p a q e).to)

pub section_moves : (p a q : Part) → section_at p ≡ Ok (a, q) → MovesOn p q
section_moves p a q e = behind_moves p q _ ((only_members p (Ok (members_of a.bits, q))).0 (sym (section_members p a q e))).3

section_none : (p : Part) (e : Refusal × Part) → section_at p ≡ Err e → members_at p ≡ Err e
unfolding members_at
section_none p e h = rw h refl

pub more_none : (extended : Bool) (p : Part) → extended ≡ false → more_at extended p ≡ Ok (None, p)
unfolding more_at
more_none extended p e = rw e refl

pub more_some : (extended : Bool) (p a q : Part) → extended ≡ true → section_at p ≡ Ok (a, q) → more_at extended p ≡ Ok (Some (members_of a.bits), q)
unfolding more_at
more_some extended p a q e h = rw (e, section_members p a q h) refl

pub more_failed : (extended : Bool) (p : Part) (e : Refusal × Part) → extended ≡ true → section_at p ≡ Err e → more_at extended p ≡ Err e
unfolding more_at
more_failed extended p e t h = rw (t, section_none p e h) refl

-- ---- octets

element_moves : (k : Kind) (p q : Part) (b : List Bool) → element_at k p ≡ Ok (b, q) → MovesOn p q
element_moves k p q b e = behind_moves p q _ (element_taken k p (b, q) e).left

front_lies : (k : Kind) (n : ℕ) (p m q : Part) (b : List Bool) → width k ≡ n → MovesOn p m → element_at k m ≡ Ok (b, q) → Lies p (front m n) q
front_lies k n p m q b wide moved e =
    let taken = element_taken k m (b, q) e in
    let end : q.start ≡ m.start + length b = ap (λ (x : Part). x.start) taken.left in
    record { all = moved.all; from = moved.on; to = omega (arith, length-take n m.bits, taken.accepted.width, wide, end, ap length taken.parts, length-append b q.bits) }

lies_same : (p o q a b : Part) → o ≡ a → q ≡ b → Lies p o q → Lies p a b
lies_same p o q a b s t h = subst (λ (x : Part). Lies p a x) t (subst (λ (x : Part). Lies p x q) s h)

pub octets_lie : (p o q : Part) → octets_at p ≡ Ok (o, q) → Lies p o q
unfolding octets_at length_at width
octets_lie p o q e =
    let count = next_ok (length_at p) (λ n. element_at (kind.string_octets n.0) n.1 >>= λ b. Ok (front n.1 (8 * n.0), b.1)) (o, q) e in
    let n = next_ok (element_at kind.string_length p) (λ b. Ok (value_of b.0, b.1)) count.0 count.1 in
    let first = ok_same (value_of n.0.0, n.0.1) count.0 n.2 in
    let octets = next_ok (element_at (kind.string_octets count.0.0) count.0.1) (λ b. Ok (front count.0.1 (8 * count.0.0), b.1)) (o, q) count.2 in
    let same = ok_same (front count.0.1 (8 * count.0.0), octets.0.1) (o, q) octets.2 in
    let moved = subst (λ (x : Part). MovesOn p x) first.1 (element_moves kind.string_length p n.0.1 n.0.0 n.1) in
    lies_same p _ _ o q same.0 same.1 (front_lies (kind.string_octets count.0.0) (8 * count.0.0) p count.0.1 octets.0.1 octets.0.0 refl moved octets.1)

-- octets begin behind their length
pub octets_start : (p o q : Part) → octets_at p ≡ Ok (o, q) → o.start ≡ p.start + 8
unfolding octets_at length_at width
octets_start p o q e =
    let count = next_ok (length_at p) (λ n. element_at (kind.string_octets n.0) n.1 >>= λ b. Ok (front n.1 (8 * n.0), b.1)) (o, q) e in
    let n = next_ok (element_at kind.string_length p) (λ b. Ok (value_of b.0, b.1)) count.0 count.1 in
    let first = ok_same (value_of n.0.0, n.0.1) count.0 n.2 in
    let octets = next_ok (element_at (kind.string_octets count.0.0) count.0.1) (λ b. Ok (front count.0.1 (8 * count.0.0), b.1)) (o, q) count.2 in
    let same = ok_same (front count.0.1 (8 * count.0.0), octets.0.1) (o, q) octets.2 in
    let taken = element_taken kind.string_length p n.0 n.1 in
    let there : n.0.1.start ≡ p.start + length n.0.0 = ap (λ (x : Part). x.start) taken.left in
    let here : count.0.1.start ≡ o.start = ap (λ (x : Part). x.start) same.0 in
    omega (arith, there, here, taken.accepted.width, ap (λ (x : Part). x.start) first.1)

pub oid_lies : (p o q : Part) → oid_at p ≡ Ok (o, q) → Lies p o q
unfolding oid_at oid_length_at width
oid_lies p o q e =
    let count = next_ok (oid_length_at p) (λ n. element_at (kind.oid_octets n.0) n.1 >>= λ b. Ok (front n.1 (8 * n.0), b.1)) (o, q) e in
    let n = next_ok (element_at kind.oid_length p) (λ b. Ok (value_of b.0, b.1)) count.0 count.1 in
    let first = ok_same (value_of n.0.0, n.0.1) count.0 n.2 in
    let octets = next_ok (element_at (kind.oid_octets count.0.0) count.0.1) (λ b. Ok (front count.0.1 (8 * count.0.0), b.1)) (o, q) count.2 in
    let same = ok_same (front count.0.1 (8 * count.0.0), octets.0.1) (o, q) octets.2 in
    let moved = subst (λ (x : Part). MovesOn p x) first.1 (element_moves kind.oid_length p n.0.1 n.0.0 n.1) in
    lies_same p _ _ o q same.0 same.1 (front_lies (kind.oid_octets count.0.0) (8 * count.0.0) p count.0.1 octets.0.1 octets.0.0 refl moved octets.1)

-- an identifier begins behind its length
pub oid_start : (p o q : Part) → oid_at p ≡ Ok (o, q) → o.start ≡ p.start + 8
unfolding oid_at oid_length_at width
oid_start p o q e =
    let count = next_ok (oid_length_at p) (λ n. element_at (kind.oid_octets n.0) n.1 >>= λ b. Ok (front n.1 (8 * n.0), b.1)) (o, q) e in
    let n = next_ok (element_at kind.oid_length p) (λ b. Ok (value_of b.0, b.1)) count.0 count.1 in
    let first = ok_same (value_of n.0.0, n.0.1) count.0 n.2 in
    let octets = next_ok (element_at (kind.oid_octets count.0.0) count.0.1) (λ b. Ok (front count.0.1 (8 * count.0.0), b.1)) (o, q) count.2 in
    let same = ok_same (front count.0.1 (8 * count.0.0), octets.0.1) (o, q) octets.2 in
    let taken = element_taken kind.oid_length p n.0 n.1 in
    let there : n.0.1.start ≡ p.start + length n.0.0 = ap (λ (x : Part). x.start) taken.left in
    let here : count.0.1.start ≡ o.start = ap (λ (x : Part). x.start) same.0 in
    omega (arith, there, here, taken.accepted.width, ap (λ (x : Part). x.start) first.1)

pub content_follows : (p a m b q : Part) → oid_at p ≡ Ok (a, m) → octets_at m ≡ Ok (b, q) → b.start ≡ a.start + length a.bits + 8
content_follows p a m b q e h = omega (arith, (oid_lies p a m e).to, octets_start m b q h)

pub lies_moves : (p o q : Part) → q.all ≡ p.all → Lies p o q → MovesOn p q
lies_moves p o q same h = record { all = same; on = omega (arith, h.from, h.to) }

pub octets_tree : (p o q : Part) → octets_at p ≡ Ok (o, q) → tree_at octet_string p ≡ Ok (bytes (octets_of o.bits), q)
unfolding tree_at string_at
octets_tree p o q e = rw e refl

pub octets_err : (p : Part) (e : Refusal × Part) → octets_at p ≡ Err e → tree_at octet_string p ≡ Err e
unfolding tree_at string_at
octets_err p e h = rw h refl

pub oid_tree : (p o q : Part) → oid_at p ≡ Ok (o, q) → tree_at relative_oid p ≡ Ok (bytes (octets_of o.bits), q)
unfolding tree_at object_at
oid_tree p o q e = rw e refl

pub oid_err : (p : Part) (e : Refusal × Part) → oid_at p ≡ Err e → tree_at relative_oid p ≡ Err e
unfolding tree_at object_at
oid_err p e h = rw h refl

-- ---- parts one behind the other

-- parts between a and b, and parts between d and q, lie between p and q
pub within : (p a b d q : Part) (ps qs : List Part) → MovesOn p a → MovesOn a b → LieBetween a.all a.start ps b.start → MovesOn b d → LieBetween d.all d.start qs q.start → LieBetween p.all p.start (ps ++ qs) q.start
within p a b d q ps qs pa ab first bd second =
    let one : LieBetween p.all a.start ps b.start = subst (λ (all : List Bool). LieBetween all a.start ps b.start) pa.all first in
    let two : LieBetween p.all d.start qs q.start = subst (λ (all : List Bool). LieBetween all d.start qs q.start) (bd.all ∙ ab.all ∙ pa.all) second in
    join p.all p.start b.start q.start ps qs (later p.all p.start a.start b.start ps pa.on one) (later p.all b.start d.start q.start qs bd.on two)

pub start_later : (p a q : Part) (ps : List Part) → MovesOn p a → LieBetween a.all a.start ps q.start → LieBetween p.all p.start ps q.start
start_later p a q ps pa first = later p.all p.start a.start q.start ps pa.on (subst (λ (all : List Bool). LieBetween all a.start ps q.start) pa.all first)

oid_moves : (p o q : Part) → oid_at p ≡ Ok (o, q) → MovesOn p q
oid_moves p o q e = tree_moves relative_oid tt p q _ (oid_tree p o q e)

octets_moves : (p o q : Part) → octets_at p ≡ Ok (o, q) → MovesOn p q
octets_moves p o q e = tree_moves octet_string tt p q _ (octets_tree p o q e)

pub two_parts : (p m q a b : Part) → IsInPlace a → IsInPlace b → oid_at p ≡ Ok (a, m) → octets_at m ≡ Ok (b, q) → LieBetween p.all p.start (a ∷ b ∷ []) q.start
two_parts p m q a b place_a place_b e h =
    let moved = oid_moves p a m e in
    let second : LieBetween p.all m.start (b ∷ []) q.start = subst (λ (all : List Bool). LieBetween all m.start (b ∷ []) q.start) moved.all (lie_between m b q place_b (octets_lie m b q h)) in
    join p.all p.start m.start q.start (a ∷ []) (b ∷ []) (lie_between p a m place_a (oid_lies p a m e)) second

pub two_move : (p m q a b : Part) → oid_at p ≡ Ok (a, m) → octets_at m ≡ Ok (b, q) → MovesOn p q
two_move p m q a b e h = moves_on p m q (oid_moves p a m e) (octets_moves m b q h)

-- the structure's parts, those of additional data, and a section, one behind the other
pub three : (p a b d q : Part) (ps qs rs : List Part) → MovesOn p a → MovesOn a b → LieBetween a.all a.start ps b.start → MovesOn b d → LieBetween b.all b.start qs d.start → LieBetween d.all d.start rs q.start → LieBetween p.all p.start (ps ++ qs ++ rs) q.start
three p a b d q ps qs rs pa ab first bd second third =
    let front : LieBetween p.all p.start (ps ++ qs) d.start = within p a b b d ps qs pa ab first (record { all = refl; on = omega arith }) second in
    join p.all p.start d.start q.start (ps ++ qs) rs front (subst (λ (all : List Bool). LieBetween all d.start rs q.start) (bd.all ∙ ab.all ∙ pa.all) third)
