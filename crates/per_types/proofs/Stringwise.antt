-- What the readings of marks, enumerations and strings give.
use Rattle.std.proofs.Common.{◌≡◌, ◌≢◌, ℕ, zero, suc, ◌+◌, ◌*◌, ◌<◌, ◌≤◌, Bool, true, false, eqb, leb, ltb, ◌&&◌, ◌||◌, List, [], ◌∷◌, length, take, drop, Option, Some, None, Result, Ok, Err, refl, sym, ap, subst, ◌∙◌, arith, inl, inr}
use Rattle.std.specs.Prelude.{IfOk, IfErr, slice_get}
use Rattle.std.proofs.lemmas.Bool.{le-leb, lt-leb, ne_eqb, eq-eqb, cases_lt}
use Rattle.std.proofs.lemmas.List.{length-drop, length-take}
use Rattle.per_bits.specs.Parts.{IsOid}
use Rattle.per_types.proofs.Octets.{length-octets_of}
use Rattle.per_types.proofs.Strings.{sound_oid}
use Rattle.per_bits.specs.Bits.{Part, octets_of, behind, front}
use Rattle.per_bits.specs.declared.refusals.Refusal.{Refusal}
use Rattle.per_bits.specs.declared.refusals.Reason.TheVariants.{OutOfRange, LongLength, EmptyOpen, BadOid}
use Rattle.per_types.specs.declared.index.EnumIndex.{EnumIndex}
use Rattle.per_types.specs.declared.index.EnumIndex.TheVariants.{Root, Added}
use Rattle.per_types.specs.Kinds as kind
use Rattle.per_types.specs.Kinds.{Kind, width, fault, Fault, at_once, first_bit, root_width, is_last, oid_fault}
use Rattle.per_types.specs.Reading.{Gives, truth_at, small_at, added_at, root_at, enum_at, length_at, octets_at, oid_length_at, oid_at, open_length_at, open_at}
use Rattle.per_types.specs.inner.Short.{IsShort}
use Rattle.per_types.proofs.Elementwise.{Prefix, prefix_high, prefix_low, short_step, ok_step, bad_step, once_step}

-- ---- enumerations

module _ (roots w : ℕ) (same : w ≡ root_width roots) where
  root_is : width (kind.root roots) ≡ w
  unfolding width
  root_is = sym same

  root_high : (p : Part) (n : ℕ) → Prefix w p n → roots ≤ n → fault (kind.root roots) (take w p.bits) ≡ at_once OutOfRange n
  unfolding fault
  root_high p n h le = rw (← h.reads) (rw (le-leb roots n le) refl)

  root_low : (p : Part) (n : ℕ) → Prefix w p n → n < roots → fault (kind.root roots) (take w p.bits) ≡ None
  unfolding fault
  root_low p n h lt = rw (← h.reads) (rw (lt-leb roots n lt) refl)

  pub root_short : (p : Part) (e : Refusal) → IsShort p w e → root_at roots p ≡ Err (e, p)
  unfolding root_at
  root_short p e s = rw (short_step (kind.root roots) p w e root_is s) refl

  pub root_above : (p : Part) (n : ℕ) → Prefix w p n → roots ≤ n → root_at roots p ≡ Err (record { place = p.start; reason = OutOfRange; value = n }, p)
  unfolding root_at
  root_above p n h le = rw (once_step (kind.root roots) p w OutOfRange n root_is h.enough (root_high p n h le)) refl

  pub root_ok : (p : Part) (n : ℕ) → Prefix w p n → n < roots → root_at roots p ≡ Ok (Root n, behind p w)
  unfolding root_at
  root_ok p n h lt = rw (ok_step (kind.root roots) p w root_is h.enough (root_low p n h lt), h.reads) refl

pub enum_refused : (roots : ℕ) (p : Part) (e : Refusal) (q : Part) → truth_at p ≡ Err (e, q) → enum_at roots p ≡ Err (e, q)
unfolding enum_at
enum_refused roots p e q m = rw m refl

pub enum_added : (roots : ℕ) (p q new : Part) (n : ℕ) → truth_at p ≡ Ok (true, q) → small_at q ≡ Ok (n, new) → enum_at roots p ≡ Ok (Added n, new)
unfolding enum_at added_at
enum_added roots p q new n m s = rw (m, s) refl

pub enum_unadded : (roots : ℕ) (p q : Part) (e : Refusal) (new : Part) → truth_at p ≡ Ok (true, q) → small_at q ≡ Err (e, new) → enum_at roots p ≡ Err (e, new)
unfolding enum_at added_at
enum_unadded roots p q e new m s = rw (m, s) refl

pub enum_root : (roots : ℕ) (p q : Part) (r : Result EnumIndex Refusal) (new : Part) → truth_at p ≡ Ok (false, q) → Gives (λ i. i) r (root_at roots q) new → Gives (λ i. i) r (enum_at roots p) new
unfolding enum_at
enum_root roots p q (Ok i) new m g = rw m g
enum_root roots p q (Err e) new m g = rw m g

-- ---- lengths that may not be 0

oid_length_width : width kind.oid_length ≡ 8
unfolding width
oid_length_width = refl

open_length_width : width kind.open_length ≡ 8
unfolding width
open_length_width = refl

oid_length_high : (p : Part) (n : ℕ) → Prefix 8 p n → 128 ≤ n → fault kind.oid_length (take 8 p.bits) ≡ at_once LongLength n
unfolding fault
oid_length_high p n h le = rw (prefix_high 7 p n h le, h.reads) refl

oid_length_none : (p : Part) (n : ℕ) → Prefix 8 p n → n ≡ 0 → fault kind.oid_length (take 8 p.bits) ≡ at_once BadOid 0
unfolding fault
oid_length_none p n h z = rw (prefix_low 7 p n h (omega (arith, z)), ← h.reads, z) refl

oid_length_low : (p : Part) (n : ℕ) → Prefix 8 p n → n < 128 → n ≢ 0 → fault kind.oid_length (take 8 p.bits) ≡ None
unfolding fault
oid_length_low p n h lt some = rw (prefix_low 7 p n h lt, ← h.reads, ne_eqb n 0 some) refl

open_length_high : (p : Part) (n : ℕ) → Prefix 8 p n → 128 ≤ n → fault kind.open_length (take 8 p.bits) ≡ at_once LongLength n
unfolding fault
open_length_high p n h le = rw (prefix_high 7 p n h le, h.reads) refl

open_length_none : (p : Part) (n : ℕ) → Prefix 8 p n → n ≡ 0 → fault kind.open_length (take 8 p.bits) ≡ at_once EmptyOpen 0
unfolding fault
open_length_none p n h z = rw (prefix_low 7 p n h (omega (arith, z)), ← h.reads, z) refl

open_length_low : (p : Part) (n : ℕ) → Prefix 8 p n → n < 128 → n ≢ 0 → fault kind.open_length (take 8 p.bits) ≡ None
unfolding fault
open_length_low p n h lt some = rw (prefix_low 7 p n h lt, ← h.reads, ne_eqb n 0 some) refl

pub oid_length_short : (p : Part) (e : Refusal) → IsShort p 8 e → oid_length_at p ≡ Err (e, p)
unfolding oid_length_at
oid_length_short p e s = rw (short_step kind.oid_length p 8 e oid_length_width s) refl

pub oid_length_large : (p : Part) (n : ℕ) → Prefix 8 p n → 128 ≤ n → oid_length_at p ≡ Err (record { place = p.start; reason = LongLength; value = n }, p)
unfolding oid_length_at
oid_length_large p n h le = rw (once_step kind.oid_length p 8 LongLength n oid_length_width h.enough (oid_length_high p n h le)) refl

pub oid_length_zero : (p : Part) (n : ℕ) → Prefix 8 p n → n ≡ 0 → oid_length_at p ≡ Err (record { place = p.start; reason = BadOid; value = 0 }, p)
unfolding oid_length_at
oid_length_zero p n h z = rw (once_step kind.oid_length p 8 BadOid 0 oid_length_width h.enough (oid_length_none p n h z)) refl

pub oid_length_ok : (p : Part) (n : ℕ) → Prefix 8 p n → n < 128 → n ≢ 0 → oid_length_at p ≡ Ok (n, behind p 8)
unfolding oid_length_at
oid_length_ok p n h lt some = rw (ok_step kind.oid_length p 8 oid_length_width h.enough (oid_length_low p n h lt some), h.reads) refl

pub open_length_short : (p : Part) (e : Refusal) → IsShort p 8 e → open_length_at p ≡ Err (e, p)
unfolding open_length_at
open_length_short p e s = rw (short_step kind.open_length p 8 e open_length_width s) refl

pub open_length_large : (p : Part) (n : ℕ) → Prefix 8 p n → 128 ≤ n → open_length_at p ≡ Err (record { place = p.start; reason = LongLength; value = n }, p)
unfolding open_length_at
open_length_large p n h le = rw (once_step kind.open_length p 8 LongLength n open_length_width h.enough (open_length_high p n h le)) refl

pub open_length_zero : (p : Part) (n : ℕ) → Prefix 8 p n → n ≡ 0 → open_length_at p ≡ Err (record { place = p.start; reason = EmptyOpen; value = 0 }, p)
unfolding open_length_at
open_length_zero p n h z = rw (once_step kind.open_length p 8 EmptyOpen 0 open_length_width h.enough (open_length_none p n h z)) refl

pub open_length_ok : (p : Part) (n : ℕ) → Prefix 8 p n → n < 128 → n ≢ 0 → open_length_at p ≡ Ok (n, behind p 8)
unfolding open_length_at
open_length_ok p n h lt some = rw (ok_step kind.open_length p 8 open_length_width h.enough (open_length_low p n h lt some), h.reads) refl

-- ---- octets behind their length

octets_width : (n : ℕ) → width (kind.string_octets n) ≡ 8 * n
unfolding width
octets_width n = refl

octets_sound : (n : ℕ) (b : List Bool) → fault (kind.string_octets n) b ≡ None
unfolding fault
octets_sound n b = refl

-- the next 8 * n bits were taken as octets, or are not all there
pub record IsOctetsTaken (q : Part) (n : ℕ) (r : Result Part Refusal) (new : Part) : Type 0 where
  pub ok : IfOk r (λ o. (8 * n ≤ length q.bits) × (o ≡ front q (8 * n)) × (new ≡ behind q (8 * n)))
  pub short : IfErr r (λ e. IsShort q (8 * n) e × (new ≡ q))

pub octets_refused : (p : Part) (e : Refusal) (q : Part) → length_at p ≡ Err (e, q) → octets_at p ≡ Err (e, q)
unfolding octets_at
octets_refused p e q l = rw l refl

pub octets_give : (p q : Part) (n : ℕ) (r : Result Part Refusal) (new : Part) → length_at p ≡ Ok (n, q) → IsOctetsTaken q n r new → Gives (λ o. o) r (octets_at p) new
unfolding octets_at
octets_give p q n (Ok o) new l t = rw (l, ok_step (kind.string_octets n) q (8 * n) (octets_width n) t.ok.0 (octets_sound n (take (8 * n) q.bits)), t.ok.1, t.ok.2) refl
octets_give p q n (Err e) new l t = rw (l, short_step (kind.string_octets n) q (8 * n) e (octets_width n) t.short.0, t.short.1) refl

pub open_refused : (p : Part) (e : Refusal) (q : Part) → open_length_at p ≡ Err (e, q) → open_at p ≡ Err (e, q)
unfolding open_at
open_refused p e q l = rw l refl

pub open_gives : (p q : Part) (n : ℕ) (r : Result Part Refusal) (new : Part) → open_length_at p ≡ Ok (n, q) → IsOctetsTaken q n r new → Gives (λ o. o) r (open_at p) new
unfolding open_at
open_gives p q n (Ok o) new l t = rw (l, ok_step (kind.string_octets n) q (8 * n) (octets_width n) t.ok.0 (octets_sound n (take (8 * n) q.bits)), t.ok.1, t.ok.2) refl
open_gives p q n (Err e) new l t = rw (l, short_step (kind.string_octets n) q (8 * n) e (octets_width n) t.short.0, t.short.1) refl

oid_octets_width : (n : ℕ) → width (kind.oid_octets n) ≡ 8 * n
unfolding width
oid_octets_width n = refl

pub oid_refused : (p : Part) (e : Refusal) (q : Part) → oid_length_at p ≡ Err (e, q) → oid_at p ≡ Err (e, q)
unfolding oid_at
oid_refused p e q l = rw l refl

pub oid_short : (p q : Part) (n : ℕ) (e : Refusal) → oid_length_at p ≡ Ok (n, q) → IsShort q (8 * n) e → oid_at p ≡ Err (e, q)
unfolding oid_at
oid_short p q n e l s = rw (l, short_step (kind.oid_octets n) q (8 * n) e (oid_octets_width n) s) refl

oid_fault_is : (q : Part) (n : ℕ) (f : Option Fault) → oid_fault true 0 (octets_of (take (8 * n) q.bits)) ≡ f → fault (kind.oid_octets n) (take (8 * n) q.bits) ≡ f
unfolding fault
oid_fault_is q n f h = h

pub oid_bad : (p q : Part) (n : ℕ) (f : Fault) → oid_length_at p ≡ Ok (n, q) → 8 * n ≤ length q.bits → oid_fault true 0 (octets_of (take (8 * n) q.bits)) ≡ Some f
    → oid_at p ≡ Err (record { place = q.start + f.offset; reason = f.reason; value = f.value }, q)
unfolding oid_at
oid_bad p q n f l enough h = rw (l, bad_step (kind.oid_octets n) q (8 * n) f (oid_octets_width n) enough (oid_fault_is q n (Some f) h)) refl

pub oid_ok : (p q : Part) (n : ℕ) → oid_length_at p ≡ Ok (n, q) → 8 * n ≤ length q.bits → oid_fault true 0 (octets_of (take (8 * n) q.bits)) ≡ None → oid_at p ≡ Ok (front q (8 * n), behind q (8 * n))
unfolding oid_at
oid_ok p q n l enough h = rw (l, ok_step (kind.oid_octets n) q (8 * n) (oid_octets_width n) enough (oid_fault_is q n None h)) refl

-- ---- the first octet that breaks the rule

pub octet_then : (os : List ℕ) (i o : ℕ) → slice_get os i ≡ Some o → drop i os ≡ o ∷ drop (i + 1) os
octet_then [] i o h = absurd cc
octet_then (x ∷ os) zero o h = let same : x ≡ o = cc in rw same refl
octet_then (x ∷ os) (suc i) o h =
    let e : suc (i + 1) ≡ suc i + 1 = omega arith in
    octet_then os i o h ∙ ap (λ (n : ℕ). o ∷ drop n (x ∷ os)) e

last_is : (os : List ℕ) (i count : ℕ) → count ≡ length os → i < count → is_last (drop (i + 1) os) ≡ eqb (i + 1) count
last_is os i count e h =
    elim (cases_lt (i + 1) count) [
      | inl lt ↦ more (drop (i + 1) os) (omega (arith, length-drop (i + 1) os)) ∙ sym (ne_eqb (i + 1) count (omega arith))
      | inr le ↦ none (drop (i + 1) os) (omega (arith, length-drop (i + 1) os)) ∙ sym (eq-eqb (i + 1) count (omega arith))
    ]
  where
    more : (xs : List ℕ) → 0 < length xs → is_last xs ≡ false
    more [] l = absurd (omega arith)
    more (x ∷ xs) l = refl

    none : (xs : List ℕ) → length xs ≡ 0 → is_last xs ≡ true
    none [] l = refl
    none (x ∷ xs) l = absurd (omega arith)

module _ (os : List ℕ) (count i o : ℕ) (begins : Bool) (e : count ≡ length os) (h : i < count) (at : slice_get os i ≡ Some o) where
  pub break_here : (begins && eqb o 128 || eqb (i + 1) count && leb 128 o) ≡ true → oid_fault begins i (drop i os) ≡ Some (record { offset = 8 * i; reason = BadOid; value = o })
  break_here bad = rw (octet_then os i o at, last_is os i count e h, bad) refl

  pub break_later : (begins && eqb o 128 || eqb (i + 1) count && leb 128 o) ≡ false → oid_fault begins i (drop i os) ≡ oid_fault (ltb o 128) (i + 1) (drop (i + 1) os)
  break_later good = rw (octet_then os i o at, last_is os i count e h, good) refl

-- octets without a fault are an object identifier, where there are some
pub sound_octets : (b : List Bool) (n : ℕ) → length b ≡ 8 * n → n ≢ 0 → oid_fault true 0 (octets_of b) ≡ None → IsOid (octets_of b)
sound_octets b n l some h = sound_oid (octets_of b) n (length-octets_of n b l) some h

-- the octets of an object identifier, looked at ahead of the cursor q by f
pub record IsAhead (q f o : Part) (n : ℕ) : Type 0 where
  pub same : f ≡ q
  pub enough : 8 * n ≤ length f.bits
  pub octets : o ≡ front f (8 * n)

pub ahead_enough : (q f o : Part) (n : ℕ) → IsAhead q f o n → 8 * n ≤ length q.bits
ahead_enough q f o n a = subst (λ (x : Part). 8 * n ≤ length x.bits) a.same a.enough

pub ahead_octets : (q f o : Part) (n : ℕ) → IsAhead q f o n → o ≡ front q (8 * n)
ahead_octets q f o n a = a.octets ∙ ap (λ (x : Part). front x (8 * n)) a.same

ahead_bits : (q f o : Part) (n : ℕ) → IsAhead q f o n → take (8 * n) q.bits ≡ o.bits
ahead_bits q f o n a = ap (λ (x : Part). x.bits) (sym (ahead_octets q f o n a))

module _ (p q f o : Part) (n : ℕ) (l : oid_length_at p ≡ Ok (n, q)) (a : IsAhead q f o n) where
  pub oid_breaks : (place i v w : ℕ) → place ≡ q.start → w ≡ v → oid_fault true 0 (octets_of o.bits) ≡ Some (record { offset = 8 * i; reason = BadOid; value = v })
      → oid_at p ≡ Err (record { place = place + 8 * i; reason = BadOid; value = w }, q)
  oid_breaks place i v w e g h =
      rw (e, g) (oid_bad p q n (record { offset = 8 * i; reason = BadOid; value = v }) l (ahead_enough q f o n a) (ap (λ (b : List Bool). oid_fault true 0 (octets_of b)) (ahead_bits q f o n a) ∙ h))

  pub oid_is : n ≢ 0 → oid_fault true 0 (octets_of o.bits) ≡ None → IsOid (octets_of o.bits)
  oid_is some h =
      sound_octets o.bits n (ap length (sym (ahead_bits q f o n a)) ∙ (length-take (8 * n) q.bits ∙ omega (arith, ahead_enough q f o n a))) some h

  pub oid_taken : (r new : Part) → r ≡ o → new ≡ behind q (8 * n) → oid_fault true 0 (octets_of o.bits) ≡ None → oid_at p ≡ Ok (r, new)
  oid_taken r new e g h =
      rw (e ∙ ahead_octets q f o n a, g) (oid_ok p q n l (ahead_enough q f o n a) (ap (λ (b : List Bool). oid_fault true 0 (octets_of b)) (ahead_bits q f o n a) ∙ h))

pub oid_unfinished : (p q f : Part) (n : ℕ) (e : Refusal) → oid_length_at p ≡ Ok (n, q) → f ≡ q → IsShort f (8 * n) e → oid_at p ≡ Err (e, q)
oid_unfinished p q f n e l same s = oid_short p q n e l (subst (λ (x : Part). IsShort x (8 * n) e) same s)
