-- What the readings of a section of additions give.
use Rattle.std.proofs.Common.{◌≡◌, ◌≢◌, ℕ, zero, suc, ◌+◌, ◌-◌, ◌≤◌, Bool, true, false, List, [], ◌∷◌, length, take, drop, Some, None, Result, Ok, Err, refl, sym, ap, subst, ◌∙◌, arith}
use Rattle.std.specs.Prelude.{slice_get}
use Rattle.std.proofs.lemmas.Bool.{ne_eqb}
use Rattle.std.proofs.lemmas.List.{length-append, take_at, drop_all}
use Rattle.per_bits.specs.Bits.{Part, behind, front}
use Rattle.per_bits.specs.Parts.{Member, Section}
use Rattle.per_bits.specs.declared.refusals.Refusal.{Refusal}
use Rattle.per_bits.specs.declared.refusals.Reason.TheVariants.{NoAddition}
use Rattle.per_types.specs.Kinds as kind
use Rattle.per_types.specs.Kinds.{width, fault, at_once, bits_of}
use Rattle.per_types.specs.Stops.{Read}
use Rattle.per_types.specs.Spelling.{SectionElements}
use Rattle.per_types.specs.Reading.{◌>>=◌, Gives, small_at, open_at, additions_at, member_at, opens_at, over_at, section_at}
use Rattle.per_types.specs.inner.Short.{IsShort}
use Rattle.per_types.proofs.Plans.{run, run_takes, next_ok}
use Rattle.per_types.proofs.Strings.{section_plan, follows_section}
use Rattle.per_types.proofs.Readings.{over_run}
use Rattle.per_types.proofs.Elementwise.{Prefix, short_step, ok_step, once_step}

-- ---- presence bits

additions_width : (n : ℕ) → width (kind.additions n) ≡ n
unfolding width
additions_width n = refl

additions_none : (n : ℕ) (p : Part) (v : ℕ) → Prefix n p v → v ≡ 0 → fault (kind.additions n) (take n p.bits) ≡ at_once NoAddition n
unfolding fault
additions_none n p v h z = rw (← h.reads, z) refl

additions_some : (n : ℕ) (p : Part) (v : ℕ) → Prefix n p v → v ≢ 0 → fault (kind.additions n) (take n p.bits) ≡ None
unfolding fault
additions_some n p v h some = rw (← h.reads, ne_eqb v 0 some) refl

pub additions_short : (n : ℕ) (p : Part) (e : Refusal) → IsShort p n e → additions_at n p ≡ Err (e, p)
unfolding additions_at
additions_short n p e s = short_step (kind.additions n) p n e (additions_width n) s

pub additions_absent : (n : ℕ) (p : Part) (v w : ℕ) → Prefix n p v → v ≡ 0 → w ≡ n → additions_at n p ≡ Err (record { place = p.start; reason = NoAddition; value = w }, p)
unfolding additions_at
additions_absent n p v w h z e = rw e (once_step (kind.additions n) p n NoAddition n (additions_width n) h.enough (additions_none n p v h z))

pub additions_ok : (n : ℕ) (p : Part) (v : ℕ) (b new : Part) → Prefix n p v → v ≢ 0 → b ≡ front p n → new ≡ behind p n → additions_at n p ≡ Ok (b.bits, new)
unfolding additions_at
additions_ok n p v b new h some e g = rw (e, g) (ok_step (kind.additions n) p n (additions_width n) h.enough (additions_some n p v h some))

-- ---- the present additions, one by one

pub member_absent : (p : Part) → member_at false p ≡ Ok (tt, p)
unfolding member_at
member_absent p = refl

pub member_present : (p new o : Part) → open_at p ≡ Ok (o, new) → member_at true p ≡ Ok (tt, new)
unfolding member_at
member_present p new o h = rw h refl

pub member_refused : (p new : Part) (e : Refusal) → open_at p ≡ Err (e, new) → member_at true p ≡ Err (e, new)
unfolding member_at
member_refused p new e h = rw h refl

present_then : (bits : List Bool) (i : ℕ) (b : Bool) → slice_get bits i ≡ Some b → drop i bits ≡ b ∷ drop (i + 1) bits
present_then [] i b h = absurd cc
present_then (x ∷ bits) zero b h = let same : x ≡ b = cc in rw same refl
present_then (x ∷ bits) (suc i) b h =
    let e : suc (i + 1) ≡ suc i + 1 = omega arith in
    present_then bits i b h ∙ ap (λ (n : ℕ). b ∷ drop n (x ∷ bits)) e

-- from q on, the additions of the presence bits from i on are left of those from p on
abbrev pub GoesOn : List Bool → Part → ℕ → Part → Type 0
GoesOn present p i q = opens_at present p ≡ opens_at (drop i present) q

opens_cons : (b : Bool) (others : List Bool) (q : Part) → opens_at (b ∷ others) q ≡ (member_at b q >>= λ m. opens_at others m.1)
unfolding opens_at
opens_cons b others q = refl

opens_from : (present : List Bool) (q : Part) (i : ℕ) (b : Bool) → slice_get present i ≡ Some b → opens_at (drop i present) q ≡ (member_at b q >>= λ m. opens_at (drop (i + 1) present) m.1)
opens_from present q i b at = ap (λ (x : List Bool). opens_at x q) (present_then present i b at) ∙ opens_cons b (drop (i + 1) present) q

pub goes_more : (present : List Bool) (p q new : Part) (i : ℕ) (b : Bool) (u : Unit {0}) → slice_get present i ≡ Some b → member_at b q ≡ Ok (u, new) → GoesOn present p i q → GoesOn present p (i + 1) new
goes_more present p q new i b u at h g = g ∙ opens_from present q i b at ∙ rw h refl

pub goes_wrong : (present : List Bool) (p q new : Part) (i : ℕ) (b : Bool) (e : Refusal) → slice_get present i ≡ Some b → member_at b q ≡ Err (e, new) → GoesOn present p i q → opens_at present p ≡ Err (e, new)
goes_wrong present p q new i b e at h g = g ∙ opens_from present q i b at ∙ rw h refl

opens_none : (q : Part) → opens_at [] q ≡ Ok (tt, q)
unfolding opens_at
opens_none q = refl

pub goes_last : (present : List Bool) (p q : Part) (i : ℕ) → length present ≤ i → GoesOn present p i q → opens_at present p ≡ Ok (tt, q)
goes_last present p q i le g = g ∙ ap (λ (x : List Bool). opens_at x q) (drop_all i present le) ∙ opens_none q

-- ---- a section

pub over_unsized : (p new : Part) (e : Refusal) → small_at p ≡ Err (e, new) → over_at p ≡ Err (e, new)
unfolding over_at
over_unsized p new e s = rw s refl

pub over_unmarked : (p q new : Part) (n count : ℕ) (e : Refusal) → small_at p ≡ Ok (n, q) → count ≡ n + 1 → additions_at count q ≡ Err (e, new) → over_at p ≡ Err (e, new)
unfolding over_at
over_unmarked p q new n count e s c a = let h = rw c at a in rw (s, h) refl

over_answers : (p q r : Part) (n count : ℕ) (present : List Bool) (answer : Read (Unit {0})) → small_at p ≡ Ok (n, q) → count ≡ n + 1 → additions_at count q ≡ Ok (present, r) → opens_at present r ≡ answer → over_at p ≡ answer
unfolding over_at
over_answers p q r n count present answer s c a o = let h = rw c at a in rw (s, h) o

pub over_gives : (p q r new : Part) (n count : ℕ) (present : List Bool) (answer : Result (Unit {0}) Refusal) → small_at p ≡ Ok (n, q) → count ≡ n + 1 → additions_at count q ≡ Ok (present, r)
    → Gives (λ u. u) answer (opens_at present r) new → Gives (λ u. u) answer (over_at p) new
over_gives p q r new n count present (Ok u) s c a o = over_answers p q r n count present (Ok (u, new)) s c a o
over_gives p q r new n count present (Err e) s c a o = over_answers p q r n count present (Err (e, new)) s c a o

-- what was gone over, from p to q
pub record IsSection (p q : Part) : Type 0 where
  pub count : ℕ
  pub left : q ≡ behind p count
  pub enough : count ≤ length p.bits
  pub rest : count + length q.bits ≡ length p.bits
  pub section : (members : List Member) × Section members (take count p.bits)

abbrev gone_to : Part → Read (Unit {0})
gone_to x = Ok (tt, x)

abbrev went_to : Unit {0} → Part → Read (Unit {0})
went_to u x = Ok (u, x)

-- what was gone over is a section
pub over_section : (p q : Part) (u : Unit {0}) → over_at p ≡ Ok (u, q) → IsSection p q
over_section p q u h =
    let found = next_ok (run section_plan p) (λ x. Ok (tt, x.1)) (u, q) (sym (over_run p) ∙ h) in
    let end : found.0.1 ≡ q = left_is found.0.1 q u found.2 in
    let t = run_takes SectionElements section_plan follows_section p found.0 found.1 in
    let n = length (bits_of t.0) in
    let sum : length p.bits ≡ n + length q.bits = ap length t.2 ∙ length-append (bits_of t.0) found.0.1.bits ∙ ap (λ (x : Part). n + length x.bits) end in
    let first : take n p.bits ≡ bits_of t.0 = ap (take n) t.2 ∙ take_at (bits_of t.0) found.0.1.bits n refl in
    record { count = n; left = sym end ∙ t.3; enough = omega (arith, sum); rest = sym sum; section = (found.0.0, subst (Section found.0.0) (sym first) t.1.0) }
  where
    left_is : (x y : Part) (u : Unit {0}) → gone_to x ≡ went_to u y → x ≡ y
    left_is x y u e = let h : (tt, x) ≡ (u, y) = cc in ap (λ (z : Unit {0} × Part). z.1) h

pub section_refused : (p new : Part) (e : Refusal) → over_at p ≡ Err (e, new) → section_at p ≡ Err (e, new)
unfolding section_at
section_refused p new e h = rw h refl

section_ok : (p q r : Part) (u : Unit {0}) (n : ℕ) → over_at p ≡ Ok (u, q) → n + length q.bits ≡ length p.bits → r ≡ front p n → section_at p ≡ Ok (r, q)
unfolding section_at
section_ok p q r u n h sum e =
    let same : length p.bits - length q.bits ≡ n = omega (arith, sum) in
    rw (h, e, same) refl

pub section_front : (p f r q : Part) (n : ℕ) (s : IsSection p q) → f ≡ p → n ≡ s.count → r ≡ front f n → (members : List Member) × Section members r.bits
section_front p f r q n s same count e =
    let bits : take s.count p.bits ≡ r.bits = ap (λ (x : Part). take s.count x.bits) (sym same) ∙ ap (λ (m : ℕ). take m f.bits) (sym count) ∙ ap (λ (x : Part). x.bits) (sym e) in
    (s.section.0, subst (Section s.section.0) bits s.section.1)

-- how far the cursor went
pub section_length : (p f q : Part) (m n : ℕ) (s : IsSection p q) → m ≡ q.start → n ≡ f.start → f ≡ p → m - n ≡ s.count
section_length p f q m n s at from same =
    let far : q.start ≡ p.start + s.count = ap (λ (x : Part). x.start) s.left in
    let near : f.start ≡ p.start = ap (λ (x : Part). x.start) same in
    omega (arith, far, near, at, from)

pub section_after : (p f q : Part) (s : IsSection p q) → f ≡ p → f.start ≤ q.start
section_after p f q s same =
    let far : q.start ≡ p.start + s.count = ap (λ (x : Part). x.start) s.left in
    let near : f.start ≡ p.start = ap (λ (x : Part). x.start) same in
    omega (arith, far, near)

pub section_there : (p f q : Part) (n : ℕ) (s : IsSection p q) → f ≡ p → n ≡ s.count → n ≤ length f.bits
section_there p f q n s same count =
    let near : length f.bits ≡ length p.bits = ap (λ (x : Part). length x.bits) same in
    omega (arith, near, count, s.enough)

pub section_is : (p f q r : Part) (u : Unit {0}) (n : ℕ) (s : IsSection p q) → over_at p ≡ Ok (u, q) → f ≡ p → n ≡ s.count → r ≡ front f n → section_at p ≡ Ok (r, q)
section_is p f q r u n s h same count e =
    section_ok p q r u s.count h s.rest (e ∙ ap (λ (x : Part). front x n) same ∙ ap (front p) count)
