-- What the sums say: a bit more, at one place, and that no two lists of bits are said by the same samples.
use Rattle.std.proofs.Common.{◌≡◌, ℕ, ◌+◌, ◌-◌, ◌≤◌, length-append, append-nil, ◌*◌, ◌/◌, ◌%◌, ◌^◌, ◌<◌, ℤ, Bool, true, false, nat_eq, List, [], ◌∷◌, ◌++◌, length, get_or, zero, suc, ap, refl, sym, subst, arith, ◌∙◌}
use Rattle.std.proofs.lemmas.Int.{ints}
use Rattle.std.proofs.lemmas.Nat.{pow-add}
use mir.Val.{bool_byte}
use Rattle.per_bits.proofs.Digits.{digits_append, length_digits}
use Rattle.std.proofs.lemmas.Grind.{flat_map-append}
use Rattle.per_bits.proofs.Places.{length_octet_bits}
use Rattle.per_bits.specs.Bits.{digits, octet_bits}
use Rattle.per_bits.specs.Parts.{AreOctets}
use Rattle.tone_link.specs.declared.fault.ToneFault.{ToneFault}
use Rattle.tone_link.specs.declared.fault.ToneFault.TheVariants as fault
use Rattle.tone_link.specs.inner.Unsure.{NamesUnsure}
use Rattle.tone_link.specs.ToneReading.{AreSaid, Says, SaysNeither}
use Rattle.tone_link.specs.Tones.{sum_of_bit}

pub said_append : (samples : List ℤ) (i : ℕ) (a b : List Bool)
    → AreSaid samples i a → AreSaid samples (i + length a) b → AreSaid samples i (a ++ b)
said_append samples i [] b p q = subst (λ (n : ℕ). AreSaid samples n b) (let e : i + 0 ≡ i = omega arith in e) q
said_append samples i (x ∷ a) b p q = (
  p.0,
  said_append samples (i + 1) a b p.1
      (subst (λ (n : ℕ). AreSaid samples n b) (let e : i + suc (length a) ≡ i + 1 + length a = omega arith in e) q),
)

-- a bit as a number
bool_byte_small : (bit : Bool) → bool_byte bit < 2
bool_byte_small true = omega arith
bool_byte_small false = omega arith

-- a bit behind others
digits_more : (n octet : ℕ) (bit : Bool) → digits (n + 1) (2 * octet + bool_byte bit) ≡ digits n octet ++ bit ∷ []
unfolding digits
digits_more n octet true =
    let high : (2 * octet + 1) / 2 ^ 1 ≡ octet = omega arith in
    let low : (2 * octet + 1) / 2 ^ 0 % 2 ≡ 1 = omega arith in
    digits_append n 1 (2 * octet + 1)
    ∙ ap (λ k. digits n k ++ nat_eq ((2 * octet + 1) / 2 ^ 0 % 2) 1 ∷ []) high ∙ ap (λ k. digits n octet ++ nat_eq k 1 ∷ []) low
digits_more n octet false =
    let high : (2 * octet + 0) / 2 ^ 1 ≡ octet = omega arith in
    let low : (2 * octet + 0) / 2 ^ 0 % 2 ≡ 0 = omega arith in
    digits_append n 1 (2 * octet + 0)
    ∙ ap (λ k. digits n k ++ nat_eq ((2 * octet + 0) / 2 ^ 0 % 2) 1 ∷ []) high ∙ ap (λ k. digits n octet ++ nat_eq k 1 ∷ []) low

-- one bit says the same as another
pub same_said : (sum : ℤ) (a b : Bool) → Says sum a → Says sum b → a ≡ b
same_said sum true true p q = refl
same_said sum true false p q = absurd (omega (arith, ints))
same_said sum false true p q = absurd (omega (arith, ints))
same_said sum false false p q = refl

pub said_or_neither : (sum : ℤ) (a : Bool) → Says sum a → SaysNeither sum → ⊥
said_or_neither sum true p q = omega (arith, ints)
said_or_neither sum false p q = omega (arith, ints)

pub same_bits_said : (samples : List ℤ) (i : ℕ) (a b : List Bool)
    → AreSaid samples i a → AreSaid samples i b → length a ≡ length b → a ≡ b
same_bits_said samples i [] [] p q e = refl
same_bits_said samples i [] (y ∷ b) p q e = absurd (omega arith)
same_bits_said samples i (x ∷ a) [] p q e = absurd (omega arith)
same_bits_said samples i (x ∷ a) (y ∷ b) p q e =
    let here : x ≡ y = same_said (sum_of_bit samples i) x y p.0 q.0 in
    let rest : a ≡ b = same_bits_said samples (i + 1) a b p.1 q.1 (omega arith) in
    cc

-- among bits that are said none is unsure
pub none_unsure : (samples : List ℤ) (i k : ℕ) (bits : List Bool)
    → AreSaid samples i bits → k < length bits → SaysNeither (sum_of_bit samples (i + k)) → ⊥
none_unsure samples i k [] p h u = omega arith
none_unsure samples i zero (x ∷ bits) p h u =
    said_or_neither (sum_of_bit samples i) x p.0
    (subst (λ (n : ℕ). SaysNeither (sum_of_bit samples n)) (let e : i + 0 ≡ i = omega arith in e) u)
none_unsure samples i (suc k) (x ∷ bits) p h u =
    none_unsure samples (i + 1) k bits p.1 (omega arith)
    (subst (λ (n : ℕ). SaysNeither (sum_of_bit samples n)) (let e : i + suc k ≡ i + 1 + k = omega arith in e) u)

-- the bits of an octet so far, and one more
pub digits_said : (samples : List ℤ) (i n octet : ℕ) (bit : Bool)
    → AreSaid samples i (digits n octet) → Says (sum_of_bit samples (i + n)) bit
    → AreSaid samples i (digits (n + 1) (2 * octet + bool_byte bit))
digits_said samples i n octet bit p q =
    let long : i + n ≡ i + length (digits n octet) = ap (λ k. i + k) (sym (length_digits n octet)) in
    subst (λ (l : List Bool). AreSaid samples i l) (sym (digits_more n octet bit))
    (said_append samples i (digits n octet) (bit ∷ []) p
    (subst (λ (k : ℕ). Says (sum_of_bit samples k) bit) long q, tt))

-- an octet so far, and one bit more
pub octet_said : (samples : List ℤ) (first i octet : ℕ) (bit : Bool) → first ≤ i
    → octet < 2 ^ (i - first) → AreSaid samples first (digits (i - first) octet)
    → Says (sum_of_bit samples i) bit
    → (2 * octet + bool_byte bit < 2 ^ (i + 1 - first))
    × AreSaid samples first (digits (i + 1 - first) (2 * octet + bool_byte bit))
octet_said samples first i octet bit le small said says =
    let next : i - first + 1 ≡ i + 1 - first = omega arith in
    let here : i ≡ first + (i - first) = omega arith in
    subst (λ (k : ℕ). (2 * octet + bool_byte bit < 2 ^ k) × AreSaid samples first (digits k (2 * octet + bool_byte bit))) next (
      rw pow-add (omega (arith, bool_byte_small bit)),
      digits_said samples first (i - first) octet bit said (subst (λ (k : ℕ). Says (sum_of_bit samples k) bit) here says),
    )

-- nothing is said yet
pub nothing_said : (samples : List ℤ) (first n : ℕ) → n ≡ 0 → (0 < 2 ^ n) × AreSaid samples first (digits n 0)
unfolding digits
nothing_said samples first zero e = (omega arith, tt)
nothing_said samples first (suc n) e = absurd (omega arith)

-- the bit behind those of an octet so far is unsure
pub unsure_here : (samples : List ℤ) (first i octet : ℕ) (named : ToneFault) → first ≤ i
    → AreSaid samples first (digits (i - first) octet) → 8 * i < length samples
    → named ≡ fault.Unsure i (sum_of_bit samples i) → SaysNeither (sum_of_bit samples i)
    → NamesUnsure samples first named
unsure_here samples first i octet named le said within is neither =
    let here : i ≡ first + length (digits (i - first) octet) = omega (arith, length_digits (i - first) octet) in
    record {
      before = digits (i - first) octet;
      said = said;
      within = omega arith;
      neither = subst (λ (k : ℕ). SaysNeither (sum_of_bit samples k)) here neither;
      names = subst (λ (k : ℕ). named ≡ fault.Unsure k (sum_of_bit samples k)) here is;
    }

-- more bits are said in front
pub unsure_behind : (samples : List ℤ) (front : List Bool) (first : ℕ) (named : ToneFault) → first ≡ length front
    → AreSaid samples 0 front → NamesUnsure samples first named → NamesUnsure samples 0 named
unsure_behind samples front first named e said u =
    let here : first + length u.before ≡ 0 + length (front ++ u.before) = omega (arith, length-append front u.before) in
    record {
      before = front ++ u.before;
      said = said_append samples 0 front u.before said
          (subst (λ (k : ℕ). AreSaid samples k u.before) (let e' : first ≡ 0 + length front = omega arith in e') u.said);
      within = omega (arith, u.within);
      neither = subst (λ (k : ℕ). SaysNeither (sum_of_bit samples k)) here u.neither;
      names = subst (λ (k : ℕ). named ≡ fault.Unsure k (sum_of_bit samples k)) here u.names;
    }

are_octets_behind : (octets : List ℕ) (octet : ℕ) → AreOctets octets → octet < 256 → AreOctets (octets ++ octet ∷ [])
are_octets_behind [] octet p h = (h, tt)
are_octets_behind (o ∷ octets) octet p h = (p.0, are_octets_behind octets octet p.1 h)

-- one octet more is said
pub octet_behind : (samples : List ℤ) (octets more : List ℕ) (i octet : ℕ) → more ≡ octets ++ octet ∷ []
    → length octets ≡ i → AreOctets octets → AreSaid samples 0 (octet_bits octets)
    → octet < 256 → AreSaid samples (8 * i) (digits 8 octet)
    → (length more ≡ i + 1) × AreOctets more × AreSaid samples 0 (octet_bits more)
octet_behind samples octets more i octet e long are said small says =
    let place : 8 * i ≡ 0 + length (octet_bits octets) = omega (arith, length_octet_bits octets) in
    let bits : octet_bits (octets ++ octet ∷ []) ≡ octet_bits octets ++ digits 8 octet =
    flat_map-append (digits 8) octets (octet ∷ []) ∙ ap (λ l. octet_bits octets ++ l) (append-nil (digits 8 octet)) in (
      omega (arith, ap length e, length-append octets (octet ∷ [])),
      subst AreOctets (sym e) (are_octets_behind octets octet are small),
      subst (λ (l : List ℕ). AreSaid samples 0 (octet_bits l)) (sym e)
          (subst (λ (l : List Bool). AreSaid samples 0 l) (sym bits)
          (said_append samples 0 (octet_bits octets) (digits 8 octet) said
          (subst (λ (k : ℕ). AreSaid samples k (digits 8 octet)) place says))),
    )

-- octets, by their places
pub are_octets : (octets : List ℕ) → ((k : ℕ) → get_or octets k 0 < 256) → AreOctets octets
are_octets [] small = tt
are_octets (o ∷ octets) small = (small 0, are_octets octets (λ k. small (suc k)))
