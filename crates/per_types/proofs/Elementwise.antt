-- What each reading gives, for the number that the next bits read.
use Rattle.std.proofs.Common.{◌≡◌, ℕ, suc, ◌+◌, ◌^◌, ◌<◌, ◌≤◌, Bool, true, false, eqb, List, [], ◌∷◌, length, take, Some, None, Ok, Err, refl, sym, ap, ◌∙◌, arith}
use Rattle.std.specs.Prelude.{ℤ, pos, ◌+ℤ◌, ◌-ℤ◌, ◌≤ℤ◌, int_lt, unsigned_abs, slice_index}
use Rattle.std.specs.List.{list_any}
use Rattle.std.proofs.lemmas.Bool.{lt-ltb, le-leb, lt-leb}
use Rattle.std.proofs.lemmas.Int.{ints}
use Rattle.std.proofs.lemmas.List.{length-take}
use Rattle.per_bits.specs.Bits.{Part, value_of, behind, digits}
use Rattle.per_bits.specs.declared.refusals.Refusal.{Refusal}
use Rattle.per_bits.specs.declared.refusals.Reason.{Reason}
use Rattle.per_bits.specs.declared.refusals.Reason.TheVariants.{Short, OutOfRange, LongLength, SmallLarge, Version}
use Rattle.per_bits.proofs.Digits.{value_below, digits_value}
use Rattle.per_types.specs.Kinds as kind
use Rattle.per_types.specs.Kinds.{Kind, width, fault, Fault, at_once, first_bit, whole_width, alphabet}
use Rattle.per_types.specs.Stops.{Read, element_at}
use Rattle.per_types.specs.Reading.{truth_at, whole_at, presence_at, character_at, small_at, length_at, format_at}
use Rattle.per_types.specs.inner.Short.{IsShort}
use Rattle.per_types.proofs.Plans.{element_at-enough}

-- ---- one element

-- the refusal of an element of n bits of which fewer are left
too_short : Part → ℕ → Refusal
too_short p n = record { place = p.start; reason = Short; value = n }

abbrev refused : Refusal → Part → Read (List Bool)
refused e p = Err (e, p)

pub short_step : (k : Kind) (p : Part) (w : ℕ) (e : Refusal) → width k ≡ w → IsShort p w e → element_at k p ≡ Err (e, p)
unfolding element_at too_short
short_step k p w e same s =
    let few : length p.bits < width k = omega (arith, s.0, same) in
    rw (lt-ltb (length p.bits) (width k) few) (ap (λ (d : Refusal). refused d p) (ap (λ (n : ℕ). too_short p n) same ∙ sym s.1))

pub ok_step : (k : Kind) (p : Part) (w : ℕ) → width k ≡ w → w ≤ length p.bits → fault k (take w p.bits) ≡ None → element_at k p ≡ Ok (take w p.bits, behind p w)
ok_step k p w same enough sound =
    element_at-enough k p (omega (arith, enough, same)) ∙ rw (same, sound) refl

pub bad_step : (k : Kind) (p : Part) (w : ℕ) (f : Fault) → width k ≡ w → w ≤ length p.bits → fault k (take w p.bits) ≡ Some f → element_at k p ≡ Err (record { place = p.start + f.offset; reason = f.reason; value = f.value }, p)
bad_step k p w f same enough bad =
    element_at-enough k p (omega (arith, enough, same)) ∙ rw (same, bad) refl

-- the refusal at the element's first bit
pub once_step : (k : Kind) (p : Part) (w : ℕ) (r : Reason) (v : ℕ) → width k ≡ w → w ≤ length p.bits → fault k (take w p.bits) ≡ at_once r v → element_at k p ≡ Err (record { place = p.start; reason = r; value = v }, p)
once_step k p w r v same enough bad =
    bad_step k p w (record { offset = 0; reason = r; value = v }) same enough bad ∙ ap (λ (place : ℕ). refused (record { place = place; reason = r; value = v }) p) (omega arith)

-- ---- first bits and numbers

pub record Prefix (w : ℕ) (p : Part) (n : ℕ) : Type 0 where
  pub enough : w ≤ length p.bits
  pub reads : n ≡ value_of (take w p.bits)

pub prefix_length : (w : ℕ) (p : Part) → w ≤ length p.bits → length (take w p.bits) ≡ w
prefix_length w p h = length-take w p.bits ∙ omega arith

first_high : (w : ℕ) (b : List Bool) → length b ≡ suc w → 2 ^ w ≤ value_of b → first_bit b ≡ true
first_high w [] l h = absurd (omega arith)
first_high w (true ∷ b) l h = refl
first_high w (false ∷ b) l h =
    let s : length b ≡ w = omega arith in
    absurd (omega (arith, value_below b, ap (λ (k : ℕ). 2 ^ k) s))

first_low : (w : ℕ) (b : List Bool) → length b ≡ suc w → value_of b < 2 ^ w → first_bit b ≡ false
first_low w [] l h = absurd (omega arith)
first_low w (false ∷ b) l h = refl
first_low w (true ∷ b) l h =
    let s : length b ≡ w = omega arith in
    absurd (omega (arith, ap (λ (k : ℕ). 2 ^ k) s))

pub prefix_high : (w : ℕ) (p : Part) (n : ℕ) → Prefix (suc w) p n → 2 ^ w ≤ n → first_bit (take (suc w) p.bits) ≡ true
prefix_high w p n h le = first_high w (take (suc w) p.bits) (prefix_length (suc w) p h.enough) (omega (arith, h.reads, le))

pub prefix_low : (w : ℕ) (p : Part) (n : ℕ) → Prefix (suc w) p n → n < 2 ^ w → first_bit (take (suc w) p.bits) ≡ false
prefix_low w p n h lt = first_low w (take (suc w) p.bits) (prefix_length (suc w) p h.enough) (omega (arith, h.reads, lt))

-- ---- the kinds

small_width : width kind.small ≡ 7
unfolding width
small_width = refl

small_high : (p : Part) (n : ℕ) → Prefix 7 p n → 64 ≤ n → fault kind.small (take 7 p.bits) ≡ at_once SmallLarge n
unfolding fault
small_high p n h le = rw (prefix_high 6 p n h le, h.reads) refl

small_low : (p : Part) (n : ℕ) → Prefix 7 p n → n < 64 → fault kind.small (take 7 p.bits) ≡ None
unfolding fault
small_low p n h lt = rw (prefix_low 6 p n h lt) refl

pub small_short : (p : Part) (e : Refusal) → IsShort p 7 e → small_at p ≡ Err (e, p)
unfolding small_at
small_short p e s = rw (short_step kind.small p 7 e small_width s) refl

pub small_large : (p : Part) (n : ℕ) → Prefix 7 p n → 64 ≤ n → small_at p ≡ Err (record { place = p.start; reason = SmallLarge; value = n }, p)
unfolding small_at
small_large p n h le = rw (once_step kind.small p 7 SmallLarge n small_width h.enough (small_high p n h le)) refl

pub small_ok : (p : Part) (n : ℕ) → Prefix 7 p n → n < 64 → small_at p ≡ Ok (n, behind p 7)
unfolding small_at
small_ok p n h lt = rw (ok_step kind.small p 7 small_width h.enough (small_low p n h lt), h.reads) refl

length_width : width kind.string_length ≡ 8
unfolding width
length_width = refl

length_high : (p : Part) (n : ℕ) → Prefix 8 p n → 128 ≤ n → fault kind.string_length (take 8 p.bits) ≡ at_once LongLength n
unfolding fault
length_high p n h le = rw (prefix_high 7 p n h le, h.reads) refl

length_low : (p : Part) (n : ℕ) → Prefix 8 p n → n < 128 → fault kind.string_length (take 8 p.bits) ≡ None
unfolding fault
length_low p n h lt = rw (prefix_low 7 p n h lt) refl

pub length_short : (p : Part) (e : Refusal) → IsShort p 8 e → length_at p ≡ Err (e, p)
unfolding length_at
length_short p e s = rw (short_step kind.string_length p 8 e length_width s) refl

pub length_large : (p : Part) (n : ℕ) → Prefix 8 p n → 128 ≤ n → length_at p ≡ Err (record { place = p.start; reason = LongLength; value = n }, p)
unfolding length_at
length_large p n h le = rw (once_step kind.string_length p 8 LongLength n length_width h.enough (length_high p n h le)) refl

pub length_ok : (p : Part) (n : ℕ) → Prefix 8 p n → n < 128 → length_at p ≡ Ok (n, behind p 8)
unfolding length_at
length_ok p n h lt = rw (ok_step kind.string_length p 8 length_width h.enough (length_low p n h lt), h.reads) refl

-- ---- truth values

pub one_bit_value : (b : List Bool) → length b ≡ 1 → first_bit b ≡ eqb (value_of b) 1
one_bit_value [] l = absurd (omega arith)
one_bit_value (true ∷ []) l = refl
one_bit_value (false ∷ []) l = refl
one_bit_value (x ∷ y ∷ b) l = absurd (omega arith)

truth_sound : (b : List Bool) → fault kind.truth b ≡ None
unfolding fault
truth_sound b = refl

truth_width : width kind.truth ≡ 1
unfolding width
truth_width = refl

pub truth_short : (p : Part) (e : Refusal) → IsShort p 1 e → truth_at p ≡ Err (e, p)
unfolding truth_at
truth_short p e s = rw (short_step kind.truth p 1 e truth_width s) refl

pub truth_ok : (p : Part) (n : ℕ) → Prefix 1 p n → truth_at p ≡ Ok (eqb n 1, behind p 1)
unfolding truth_at
truth_ok p n h = rw (ok_step kind.truth p 1 truth_width h.enough (truth_sound (take 1 p.bits)), h.reads, one_bit_value (take 1 p.bits) (prefix_length 1 p h.enough)) refl

-- ---- presence bits

presence_width : (n : ℕ) → width (kind.presence n) ≡ n
unfolding width
presence_width n = refl

presence_sound : (n : ℕ) (b : List Bool) → fault (kind.presence n) b ≡ None
unfolding fault
presence_sound n b = refl

pub presence_short : (n : ℕ) (p : Part) (e : Refusal) → IsShort p n e → presence_at n p ≡ Err (e, p)
unfolding presence_at
presence_short n p e s = short_step (kind.presence n) p n e (presence_width n) s

pub presence_ok : (n : ℕ) (p : Part) (v : ℕ) → Prefix n p v → presence_at n p ≡ Ok (digits n v, behind p n)
unfolding presence_at
presence_ok n p v h =
    let same : digits n (value_of (take n p.bits)) ≡ take n p.bits = ap (λ (w : ℕ). digits w (value_of (take n p.bits))) (sym (prefix_length n p h.enough)) ∙ digits_value (take n p.bits) in
    rw (h.reads, same) (ok_step (kind.presence n) p n (presence_width n) h.enough (presence_sound n (take n p.bits)))

-- ---- characters

character_width : width kind.character ≡ 6
unfolding width
character_width = refl

character_high : (p : Part) (n : ℕ) → Prefix 6 p n → 33 ≤ n → fault kind.character (take 6 p.bits) ≡ at_once OutOfRange n
unfolding fault
character_high p n h le = rw (← h.reads) (rw (le-leb (length alphabet) n le) refl)

character_low : (p : Part) (n : ℕ) → Prefix 6 p n → n < 33 → fault kind.character (take 6 p.bits) ≡ None
unfolding fault
character_low p n h lt = rw (← h.reads) (rw (lt-leb (length alphabet) n lt) refl)

pub character_short : (p : Part) (e : Refusal) → IsShort p 6 e → character_at p ≡ Err (e, p)
unfolding character_at
character_short p e s = rw (short_step kind.character p 6 e character_width s) refl

pub character_unknown : (p : Part) (n : ℕ) → Prefix 6 p n → 33 ≤ n → character_at p ≡ Err (record { place = p.start; reason = OutOfRange; value = n }, p)
unfolding character_at
character_unknown p n h le = rw (once_step kind.character p 6 OutOfRange n character_width h.enough (character_high p n h le)) refl

pub character_ok : (p : Part) (n : ℕ) → Prefix 6 p n → n < 33 → character_at p ≡ Ok (slice_index alphabet n, behind p 6)
unfolding character_at
character_ok p n h lt = rw (ok_step kind.character p 6 character_width h.enough (character_low p n h lt), h.reads) refl

-- ---- whole numbers

module _ (low high : ℤ) (w : ℕ) (same : w ≡ whole_width low high) where
  whole_is : width (kind.whole low high) ≡ w
  unfolding width
  whole_is = sym same

  whole_high : (p : Part) (n : ℕ) → Prefix w p n → int_lt (high -ℤ low) (pos n) ≡ true → fault (kind.whole low high) (take w p.bits) ≡ at_once OutOfRange n
  unfolding fault
  whole_high p n h above = rw (← h.reads, above) refl

  whole_low : (p : Part) (n : ℕ) → Prefix w p n → int_lt (high -ℤ low) (pos n) ≡ false → fault (kind.whole low high) (take w p.bits) ≡ None
  unfolding fault
  whole_low p n h above = rw (← h.reads, above) refl

  pub whole_short : (p : Part) (e : Refusal) → IsShort p w e → whole_at low high p ≡ Err (e, p)
  unfolding whole_at
  whole_short p e s = rw (short_step (kind.whole low high) p w e whole_is s) refl

  pub whole_above : (p : Part) (n : ℕ) → Prefix w p n → low ≤ℤ high → unsigned_abs (high -ℤ low) < n → whole_at low high p ≡ Err (record { place = p.start; reason = OutOfRange; value = n }, p)
  unfolding whole_at
  whole_above p n h ordered above =
      rw (once_step (kind.whole low high) p w OutOfRange n whole_is h.enough (whole_high p n h (lt_from n ordered above))) refl
    where
      lt_from : (m : ℕ) → low ≤ℤ high → unsigned_abs (high -ℤ low) < m → int_lt (high -ℤ low) (pos m) ≡ true
      lt_from m o a = grind (arith, ints)

  pub whole_ok : (p : Part) (n : ℕ) → Prefix w p n → low ≤ℤ high → n ≤ unsigned_abs (high -ℤ low) → whole_at low high p ≡ Ok (low +ℤ pos n, behind p w)
  unfolding whole_at
  whole_ok p n h ordered within =
      rw (ok_step (kind.whole low high) p w whole_is h.enough (whole_low p n h (le_from n ordered within)), h.reads) refl
    where
      le_from : (m : ℕ) → low ≤ℤ high → m ≤ unsigned_abs (high -ℤ low) → int_lt (high -ℤ low) (pos m) ≡ false
      le_from m o a = grind (arith, ints)

-- ---- formats

format_width : (known : List ℕ) → width (kind.format known) ≡ 8
unfolding width
format_width known = refl

format_fault : (known : List ℕ) (p : Part) (n : ℕ) → Prefix 8 p n → list_any (λ id. eqb id n) known ≡ false → fault (kind.format known) (take 8 p.bits) ≡ at_once Version n
unfolding fault
format_fault known p n h unknown = rw (← h.reads, unknown) refl

format_sound : (known : List ℕ) (p : Part) (n : ℕ) → Prefix 8 p n → list_any (λ id. eqb id n) known ≡ true → fault (kind.format known) (take 8 p.bits) ≡ None
unfolding fault
format_sound known p n h k = rw (← h.reads, k) refl

pub format_short : (known : List ℕ) (p : Part) (e : Refusal) → IsShort p 8 e → format_at known p ≡ Err (e, p)
unfolding format_at
format_short known p e s = rw (short_step (kind.format known) p 8 e (format_width known) s) refl

pub format_unknown : (known : List ℕ) (p : Part) (n : ℕ) → Prefix 8 p n → list_any (λ id. eqb id n) known ≡ false → format_at known p ≡ Err (record { place = p.start; reason = Version; value = n }, p)
unfolding format_at
format_unknown known p n h unknown = rw (once_step (kind.format known) p 8 Version n (format_width known) h.enough (format_fault known p n h unknown)) refl

pub format_ok : (known : List ℕ) (p : Part) (n : ℕ) → Prefix 8 p n → list_any (λ id. eqb id n) known ≡ true → format_at known p ≡ Ok (n, behind p 8)
unfolding format_at
format_ok known p n h k = rw (ok_step (kind.format known) p 8 (format_width known) h.enough (format_sound known p n h k), h.reads) refl

-- ---- the sum that a whole number is

pub span_is : (low high : ℤ) → low ≤ℤ high → pos (unsigned_abs (high -ℤ low)) ≡ high -ℤ low
span_is low high h = grind (arith, ints)

pub whole_sum : (low high : ℤ) (w : ℕ) (p : Part) (n : ℕ) (v : ℤ) → w ≡ whole_width low high → Prefix w p n → low ≤ℤ high → n ≤ unsigned_abs (high -ℤ low) → v ≡ low +ℤ pos n → whole_at low high p ≡ Ok (v, behind p w)
whole_sum low high w p n v same h ordered within e = rw e (whole_ok low high w same p n h ordered within)
