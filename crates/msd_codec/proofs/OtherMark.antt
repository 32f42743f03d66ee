-- The mark of other energies, which format 1 doesn't have: what is read, put and counted there.
use Rattle.std.proofs.Common.{◌≡◌, ℕ, ◌+◌, ◌*◌, ◌/◌, ◌%◌, Bool, true, false, List, [], ◌++◌, length, Option, Result, Ok, Err, refl, sym, ap, subst, ◌∙◌, arith, append-nil}
use Rattle.std.specs.Prelude.{nat_eq}
use Rattle.std.specs.Result.{IsErrAnd}
use Rattle.per_bits.specs.Bits.{Part, digits}
use Rattle.per_bits.specs.Parts.{Member}
use Rattle.per_bits.specs.declared.refusals.Refusal.{Refusal}
use Rattle.per_types.specs.Kinds.{Element, bits_of}
use Rattle.per_types.specs.Types.{Tree, truth, no_fields, boolean, no_components, presence_count}
use Rattle.per_types.specs.Reading.{fields_at}
use Rattle.msd_values.specs.declared.format.Format.{Format}
use Rattle.msd_values.specs.declared.format.Format.TheVariants.{One, Two}
use Rattle.msd_values.specs.declared.msd.Marks.{Marks}
use Rattle.msd_codec.specs.Module.{other_storage, storages}
use Rattle.msd_codec.specs.Trees.{other_field}
use Rattle.msd_codec.specs.inner.Reading.{presence_bit, mark_presence, other_presence, default_at}
use Rattle.msd_codec.specs.inner.Writing.{Puts, Flag, HasLength, marks_of, other_marks}
use Rattle.msd_codec.proofs.Steps.{ok_same, none_is, default_is, default_err}
use Rattle.msd_codec.proofs.Puts.{PutsRest, flag_next, flag_stop, errs}
use Rattle.msd_codec.proofs.Lengths.{RestHasLength, flag_length}

-- ---- reading

-- twice the number that six bits read has their bits before its last one
pub six_bits : (n : ℕ) → mark_presence One (2 * n) ≡ digits 6 n
unfolding digits
six_bits n =
    let a : 2 * n / 64 ≡ n / 32 = omega arith in
    let b : 2 * n / 32 ≡ n / 16 = omega arith in
    let c : 2 * n / 16 ≡ n / 8 = omega arith in
    let d : 2 * n / 8 ≡ n / 4 = omega arith in
    let e : 2 * n / 4 ≡ n / 2 = omega arith in
    let f : 2 * n / 2 ≡ n / 1 = omega arith in
    rw (a, b, c, d, e, f) refl

pub no_bit : (n : ℕ) → presence_bit (2 * n) 0 ≡ false
no_bit n = let e : 2 * n / 1 % 2 ≡ 0 = omega arith in ap (λ k. nat_eq k 1) e

-- a mark whose presence bit is 0 is not set
unmarked : (b : Bool) (p q : Part) (v : Tree) → b ≡ false → default_at b boolean (truth false) p ≡ Ok (v, q) → (truth false ≡ v) × (p ≡ q)
unmarked true p q v none e = absurd cc
unmarked false p q v none e = ok_same (truth false, p) (v, q) e

pub other_is : (f : Format) (n : ℕ) (p q : Part) (other : Bool) → (f ≡ One → presence_bit n 0 ≡ false) → default_at (presence_bit n 0) boolean (truth false) p ≡ Ok (truth other, q)
    → fields_at (other_storage f) (other_presence f n) p ≡ Ok (other_field f other, q)
other_is One n p q other none e = none_is _ _ ∙ ap (λ (x : Part). Ok (no_fields, x)) (unmarked _ p q _ (none refl) e).1
other_is Two n p q other none e = default_is _ _ _ _ _ _ _ _ _ e (none_is _ _)

pub other_err : (f : Format) (n : ℕ) (p : Part) (e : Refusal × Part) → (f ≡ One → presence_bit n 0 ≡ false) → default_at (presence_bit n 0) boolean (truth false) p ≡ Err e
    → fields_at (other_storage f) (other_presence f n) p ≡ Err e
other_err One n p e none h = absurd (read (presence_bit n 0) (none refl) h)
  where
    read : (b : Bool) → b ≡ false → default_at b boolean (truth false) p ≡ Err e → ⊥
    read true none h = absurd cc
    read false none h = absurd cc
other_err Two n p e none h = default_err _ _ _ _ _ _ _ h

truth_same : (a b : Bool) → truth a ≡ truth b → a ≡ b
truth_same a b e = cc e

pub not_marked : (f : Format) (n : ℕ) (p q : Part) (other : Bool) → (f ≡ One → presence_bit n 0 ≡ false) → default_at (presence_bit n 0) boolean (truth false) p ≡ Ok (truth other, q) → f ≡ One → other ≡ false
not_marked f n p q other none e one = sym (truth_same false other (unmarked _ p q _ (none one) e).0)

-- ---- writing

pub marks_long : (f : Format) (fuel : Marks) → length (marks_of f fuel) ≡ presence_count (storages f)
unfolding storages
marks_long One fuel = refl
marks_long Two fuel = refl

pub other_next : {X E Y : Type 0} {r : Result X E} {more : Option (List Member)} {other : Bool} {old mid new : List Bool} {y : Y} (f : Format) → (f ≡ One → other ≡ false)
    → (let first : Result Y E = Ok y in Puts (Flag other) old first mid) → PutsRest true no_components no_fields more [] mid r new → PutsRest true (other_storage f) (other_field f other) more (other_marks f other) old r new
other_next {X} {E} {Y} {r} {more} {other} {old} {mid} {new} {y} One none p q =
    let nothing : p.ok.0 ≡ [] = p.ok.1.left (rw (none refl) refl) in
    let same : mid ≡ old = p.ok.2 ∙ ap (λ (es : List Element). old ++ bits_of es) nothing ∙ append-nil old in
    subst (λ (l : List Bool). PutsRest true no_components no_fields more [] l r new) same q
other_next Two none p q = flag_next p q

pub other_stop : {X E Y : Type 0} {r : Result X E} {more : Option (List Member)} {other : Bool} {old mid new : List Bool} {e : E} (P : E → Type 0) (f : Format) → (f ≡ One → other ≡ false)
    → IsErrAnd r P → (let first : Result Y E = Err e in Puts (Flag other) old first mid) → PutsRest true (other_storage f) (other_field f other) more (other_marks f other) old r new
other_stop {X} {E} {Y} {r} {more} {other} {old} {mid} {new} {e} P One none is p =
    errs P r is (λ s. PutsRest true no_components no_fields more [] old s new)
    (λ d. record { ok = tt; full = λ qs parts sect present s. let h = p.full [] (record { written = λ w. absurd (cc (w, none refl)); left = λ w. refl }) in omega (arith, h) })
other_stop P Two none is p = flag_stop P is p

pub other_length : {more : Option (List Member)} {other : Bool} {m n : ℕ} (f : Format) → (f ≡ One → other ≡ false) → HasLength (Flag other) m → RestHasLength true no_components no_fields more [] n
    → RestHasLength true (other_storage f) (other_field f other) more (other_marks f other) (m + n)
other_length {more} {other} {m} {n} One none h r =
    let nothing : h.elements ≡ [] = h.spelled.left (rw (none refl) refl) in
    let long : m ≡ 0 = h.count ∙ ap (λ (es : List Element). length (bits_of es)) nothing in
    record { parts = r.parts; sect = r.sect; present = r.present; additions = r.additions; count = omega (arith, long, r.count) }
other_length Two none h r = flag_length h r
