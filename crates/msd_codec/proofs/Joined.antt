-- Components that are put together: as if each was put for itself.
use Rattle.std.proofs.Common.{◌≡◌, ℕ, ◌+◌, ◌*◌, ◌/◌, ◌%◌, ◌^◌, ◌<◌, ◌≤◌, Bool, true, false, List, [], ◌∷◌, ◌++◌, length, None, Result, Ok, Err, refl, sym, ap, subst, ◌∙◌, arith, append_assoc, w32}
use Rattle.std.specs.Prelude.{ℤ, pos, neg_ℤ, ◌-ℤ◌, unsigned_abs, OnOk, OnErr}
use Rattle.std.specs.Result.{IsErrAnd}
use Rattle.std.proofs.lemmas.Int.{ints}
use Rattle.std.proofs.lemmas.List.{length-append}
use Rattle.per_bits.specs.Bits.{digits, room_bits}
use Rattle.per_bits.proofs.Digits.{length_digits, digits_append, digits_low}
use Rattle.per_types.specs.Kinds as kind
use Rattle.per_types.specs.Kinds.{element, bits_of, width_of, width_from}
use Rattle.per_types.specs.Types.{Tree, truth, number, Fields, field, Ty, boolean, Components, required}
use Rattle.per_types.specs.Spelling.{Elements}
use Rattle.per_types.proofs.Written.{Spelled, whole_spelled}
use Rattle.msd_codec.specs.Module.{angle, vehicle_location}
use Rattle.msd_codec.specs.Trees.{pair_tree}
use Rattle.msd_codec.specs.inner.Writing.{Puts, Canon}
use Rattle.msd_codec.proofs.Puts.{PutsRest, canon_same, errs, plain, required_last, required_next, required_stop}
use mir.Val.{SFits}

-- the first component stands behind the old bits
pub first_put : {E : Type 0} (t : Ty) (v : Tree) (old b : List Bool) → Spelled (Elements true t v) b → (let r : Result (Unit {0}) E = Ok tt in Puts (Canon t v) old r (old ++ b))
first_put t v old b s = record { ok = (s.elements, record { spelled = s.spell }, ap (λ (l : List Bool). old ++ l) (sym s.bits)); full = tt }

-- the last one is put behind them, or has no room there
pub last_put : {X E : Type 0} (t : Ty) (v : Tree) (old a b new : List Bool) (r : Result X E) → Spelled (Elements true t v) b → OnOk r (new ≡ old ++ (a ++ b)) → OnErr r (1120 < length old + length (a ++ b)) → Puts (Canon t v) (old ++ a) r new
last_put t v old a b new (Ok x) s ok full = record { ok = (s.elements, record { spelled = s.spell }, ok ∙ sym (append_assoc old a b) ∙ ap (λ (l : List Bool). (old ++ a) ++ l) (sym s.bits)); full = tt }
last_put t v old a b new (Err e) s ok full = record {
  ok = tt;
  full = λ es c.
      let same : length (bits_of s.elements) ≡ length (bits_of es) = ap length (canon_same t v s.elements es (record { spelled = s.spell }) c) in
      omega (arith, full, same, ap length s.bits, length-append a b, length-append old a);
}

-- ---- truth values

pub truth_alone : (v : Bool) → Spelled (Elements true boolean (truth v)) (v ∷ [])
truth_alone v = record { elements = element kind.truth (v ∷ []) ∷ []; spell = refl; bits = refl }

abbrev Three : Components → Components
Three cs = required boolean (required boolean (required boolean cs))

abbrev three : Bool → Bool → Bool → Fields → Fields
three a b c fs = field (truth a) (field (truth b) (field (truth c) fs))

pub three_next : {X E : Type 0} {r : Result X E} {cs : Components} {fs : Fields} {old mid new : List Bool} (a b c : Bool) → mid ≡ old ++ (a ∷ b ∷ c ∷ []) → PutsRest false cs fs None [] mid r new → PutsRest false (Three cs) (three a b c fs) None [] old r new
three_next {X} {E} {r} {cs} {fs} {old} {mid} {new} a b c e p =
    let one = old ++ (a ∷ []) in
    let two = one ++ (b ∷ []) in
    let all : mid ≡ two ++ (c ∷ []) = e ∙ sym (append_assoc old (a ∷ []) (b ∷ c ∷ [])) ∙ sym (append_assoc one (b ∷ []) (c ∷ [])) in
    required_next (first_put {E = E} boolean (truth a) old (a ∷ []) (truth_alone a))
    (required_next (first_put {E = E} boolean (truth b) one (b ∷ []) (truth_alone b))
    (required_next (first_put {E = E} boolean (truth c) two (c ∷ []) (truth_alone c)) (subst (λ (l : List Bool). PutsRest false cs fs None [] l r new) all p)))

pub three_stop : {X E : Type 0} {r : Result X E} {cs : Components} {fs : Fields} {old new : List Bool} (P : E → Type 0) (a b c : Bool) → IsErrAnd r P → 1120 < length old + 3 → PutsRest false (Three cs) (three a b c fs) None [] old r new
three_stop {X} {E} {r} {cs} {fs} {old} {new} P a b c is full =
    let one = old ++ (a ∷ []) in
    let long : length one ≡ length old + 1 = length-append old (a ∷ []) in
    errs P r is (λ s. PutsRest false (Three cs) (three a b c fs) None [] old s new)
    (λ e. let stop : Result (Unit {0}) E = Err e in
    let whole : Result X E = Err e in
    required_next (first_put {E = E} boolean (truth a) old (a ∷ []) (truth_alone a))
    (required_next (first_put {E = E} boolean (truth b) one (b ∷ []) (truth_alone b))
    (required_stop {r = whole} (λ d. Unit {0}) tt (last_put boolean (truth c) one (b ∷ []) (c ∷ []) new stop (truth_alone c) tt (omega (arith, full, long))))))

-- ---- two angles

angle_is : (z : ℤ) (n : ℕ) → SFits w32 z → n ≡ unsigned_abs (z -ℤ neg_ℤ (pos 2147483648)) → n < 4294967296
angle_is z n fits e = omega (arith, ints, fits.sfits, e)

angle_spelled : (z : ℤ) (n : ℕ) → SFits w32 z → n ≡ unsigned_abs (z -ℤ neg_ℤ (pos 2147483648)) → Spelled (Elements true angle (number z)) (digits 32 n)
unfolding angle width_of width_from
angle_spelled z n fits e = whole_spelled (neg_ℤ (pos 2147483648)) (pos 2147483647) z 32 n refl (grind (arith, ints, fits.sfits)) (grind (arith, ints, fits.sfits)) e (angle_is z n fits e)

two_words : (a b n : ℕ) → b < 4294967296 → n ≡ 4294967296 * a + b → digits 64 n ≡ digits 32 a ++ digits 32 b
two_words a b n small e =
    let high : n / 2 ^ 32 ≡ a = omega arith in
    let low : n % 2 ^ 32 ≡ b % 2 ^ 32 = omega arith in
    digits_append 32 32 n ∙ ap (λ k. digits 32 k ++ digits 32 n) high ∙ ap (λ (l : List Bool). digits 32 a ++ l) (digits_low 32 n b low)

pub angles_put : {X E : Type 0} (v w : ℤ) (a b n : ℕ) (old new : List Bool) (r : Result X E) → SFits w32 v → SFits w32 w → a ≡ unsigned_abs (v -ℤ neg_ℤ (pos 2147483648)) → b ≡ unsigned_abs (w -ℤ neg_ℤ (pos 2147483648)) → n ≡ 4294967296 * a + b
    → OnOk r ((length old + 64 ≤ room_bits) × (new ≡ old ++ digits 64 n)) → OnErr r ((room_bits < length old + 64) × (new ≡ old)) → Puts (Canon vehicle_location (pair_tree v w)) old r new
unfolding vehicle_location
angles_put {X} {E} v w a b n old new r vs ws va wb e ok full =
    let split : digits 64 n ≡ digits 32 a ++ digits 32 b = two_words a b n (angle_is w b ws wb) e in
    let long : length (digits 32 a ++ digits 32 b) ≡ 64 = ap length (sym split) ∙ length_digits 64 n in
    plain refl
    (required_next (first_put {E = E} angle (number v) old (digits 32 a) (angle_spelled v a vs va))
    (required_last (last_put angle (number w) old (digits 32 a) (digits 32 b) new r (angle_spelled w b ws wb) (oks r ok split) (errors r full long))))
  where
    oks : (s : Result X E) → OnOk s ((length old + 64 ≤ room_bits) × (new ≡ old ++ digits 64 n)) → digits 64 n ≡ digits 32 a ++ digits 32 b → OnOk s (new ≡ old ++ (digits 32 a ++ digits 32 b))
    oks (Ok x) h split = h.1 ∙ ap (λ (l : List Bool). old ++ l) split
    oks (Err d) h split = tt

    errors : (s : Result X E) → OnErr s ((room_bits < length old + 64) × (new ≡ old)) → length (digits 32 a ++ digits 32 b) ≡ 64 → OnErr s (1120 < length old + length (digits 32 a ++ digits 32 b))
    errors (Ok x) h long = tt
    errors (Err d) h long = omega (arith, h.0, long)
