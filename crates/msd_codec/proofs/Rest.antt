-- What follows a spelling: the first bit 1 that pads, and the first appended octet that isn't 0.
use Rattle.std.proofs.Common.{◌≡◌, ◌≢◌, ℕ, zero, suc, ◌+◌, ◌-◌, ◌*◌, ◌/◌, ◌%◌, ◌<◌, ◌≤◌, Bool, true, false, List, [], ◌∷◌, ◌++◌, length, drop, replicate, Some, None, refl, sym, ap, ◌∙◌, arith, ◌⊎◌, inl, inr}
use Rattle.std.specs.List.{slice_get}
use Rattle.std.specs.Prelude.{◌==◌}
use Rattle.std.proofs.lemmas.Option.{slice_get_within, get_or_from_slice_get}
use Rattle.std.proofs.Math.Seq.{drop-cons}
use Rattle.std.proofs.lemmas.Bool.Decides.{nat_tests}
use Rattle.per_bits.specs.declared.refusals.Refusal.{Refusal}
use Rattle.per_bits.specs.declared.refusals.Reason.TheVariants.{PadBits, Trailing}
use Rattle.msd_codec.specs.Reading.{pad_fault, appended_fault}

abbrev pub padding_refusal : ℕ → Refusal
padding_refusal place = record { place = place; reason = PadBits; value = 1 }

abbrev pub appended_refusal : ℕ → ℕ → Refusal
appended_refusal place octet = record { place = place; reason = Trailing; value = octet }

bits_step : (bits : List Bool) (i : ℕ) (b : Bool) → slice_get bits i ≡ Some b → drop i bits ≡ b ∷ drop (i + 1) bits
bits_step bits i b e =
    let below : i < length bits = slice_get_within bits i b e in
    let next : suc i ≡ i + 1 = omega arith in
    drop-cons bits i b below ∙ ap (λ (x : Bool). x ∷ drop (suc i) bits) (get_or_from_slice_get bits i b b e) ∙ ap (λ n. b ∷ drop n bits) next

pub pad_found : (start i s : ℕ) (bits : List Bool) (b : Bool) → pad_fault start bits ≡ pad_fault (start + i) (drop i bits) → slice_get bits i ≡ Some b → b ≡ true → s ≡ start → pad_fault start bits ≡ Some (padding_refusal (s + i))
pad_found start i s bits b e there is same =
    e ∙ ap (pad_fault (start + i)) (bits_step bits i b there ∙ ap (λ (x : Bool). x ∷ drop (i + 1) bits) is) ∙ ap (λ n. Some (padding_refusal (n + i))) (sym same)

pub pad_next : (start i : ℕ) (bits : List Bool) (b : Bool) → pad_fault start bits ≡ pad_fault (start + i) (drop i bits) → slice_get bits i ≡ Some b → b ≡ false → pad_fault start bits ≡ pad_fault (start + (i + 1)) (drop (i + 1) bits)
pad_next start i bits b e there is =
    let next : start + i + 1 ≡ start + (i + 1) = omega arith in
    e ∙ ap (pad_fault (start + i)) (bits_step bits i b there ∙ ap (λ (x : Bool). x ∷ drop (i + 1) bits) is) ∙ ap (λ n. pad_fault n (drop (i + 1) bits)) next

pub pads_fit : (n end : ℕ) → end ≤ 8 * n → end + (8 - end % 8) % 8 ≤ 8 * n
pads_fit n end h = omega arith

pub pads_whole : (n : ℕ) → n + (8 - n % 8) % 8 ≡ 8 * ((n + (8 - n % 8) % 8) / 8)
pads_whole n = omega arith

-- ---- the first bit 1

pub pads_zero : (n place : ℕ) → pad_fault place (replicate n false) ≡ None
pads_zero zero place = refl
pads_zero (suc n) place = pads_zero n (place + 1)

pub pads_at : (zeros place : ℕ) (rest : List Bool) → pad_fault place (replicate zeros false ++ true ∷ rest) ≡ Some (padding_refusal (place + zeros))
pads_at zero place rest = let same : place ≡ place + 0 = omega arith in ap (λ n. Some (padding_refusal n)) same
pads_at (suc zeros) place rest = let same : place + 1 + zeros ≡ place + suc zeros = omega arith in pads_at zeros (place + 1) rest ∙ ap (λ n. Some (padding_refusal n)) same

pub all_zero : (bits : List Bool) (place : ℕ) → pad_fault place bits ≡ None → bits ≡ replicate (length bits) false
all_zero [] place e = refl
all_zero (true ∷ bits) place e = absurd cc
all_zero (false ∷ bits) place e = ap (λ (l : List Bool). false ∷ l) (all_zero bits (place + 1) e)

pub record FirstOne (bits : List Bool) (place : ℕ) (refusal : Refusal) : Type 0 where
  pub zeros : ℕ
  pub rest : List Bool
  pub bits_are : bits ≡ replicate zeros false ++ true ∷ rest
  pub refused : refusal ≡ padding_refusal (place + zeros)

pub first_one : (bits : List Bool) (place : ℕ) (refusal : Refusal) → pad_fault place bits ≡ Some refusal → FirstOne bits place refusal
first_one [] place refusal e = absurd cc
first_one (true ∷ bits) place refusal e =
    let same : padding_refusal place ≡ refusal = cc e in
    let here : place ≡ place + 0 = omega arith in
    record { zeros = 0; rest = bits; bits_are = refl; refused = sym same ∙ ap padding_refusal here }
first_one (false ∷ bits) place refusal e =
    let f = first_one bits (place + 1) refusal e in
    let there : place + 1 + f.zeros ≡ place + suc f.zeros = omega arith in
    record { zeros = suc f.zeros; rest = f.rest; bits_are = ap (λ (l : List Bool). false ∷ l) f.bits_are; refused = f.refused ∙ ap padding_refusal there }

-- ---- the first octet that isn't 0

pub appended_zero : (n place : ℕ) → appended_fault place (replicate n 0) ≡ None
appended_zero zero place = refl
appended_zero (suc n) place = appended_zero n (place + 8)

zero_or : (o : ℕ) → (o ≡ 0) ⊎ (o ≢ 0)
zero_or zero = inl refl
zero_or (suc n) = inr (λ e. omega arith)

not_zero : (o : ℕ) → o ≢ 0 → (o == 0) ≡ false
not_zero o h = grind (arith, nat_tests)

fault_here : (o : ℕ) (octets : List ℕ) (place : ℕ) → o ≢ 0 → appended_fault place (o ∷ octets) ≡ Some (appended_refusal place o)
fault_here o octets place some = rw (not_zero o some) refl

pub appended_at : (zeros place o : ℕ) (rest : List ℕ) → o ≢ 0 → appended_fault place (replicate zeros 0 ++ o ∷ rest) ≡ Some (appended_refusal (place + 8 * zeros) o)
appended_at zero place o rest some = let same : place ≡ place + 8 * 0 = omega arith in fault_here o rest place some ∙ ap (λ n. Some (appended_refusal n o)) same
appended_at (suc zeros) place o rest some = let same : place + 8 + 8 * zeros ≡ place + 8 * suc zeros = omega arith in appended_at zeros (place + 8) o rest some ∙ ap (λ n. Some (appended_refusal n o)) same

pub all_appended_zero : (octets : List ℕ) (place : ℕ) → appended_fault place octets ≡ None → octets ≡ replicate (length octets) 0
all_appended_zero [] place e = refl
all_appended_zero (zero ∷ octets) place e = ap (λ (l : List ℕ). 0 ∷ l) (all_appended_zero octets (place + 8) e)
all_appended_zero (suc o ∷ octets) place e = let f = sym (fault_here (suc o) octets place (λ h. omega arith)) ∙ e in cc f

pub record FirstSome (octets : List ℕ) (place : ℕ) (refusal : Refusal) : Type 0 where
  pub zeros : ℕ
  pub octet : ℕ
  pub rest : List ℕ
  pub some : octet ≢ 0
  pub octets_are : octets ≡ replicate zeros 0 ++ octet ∷ rest
  pub refused : refusal ≡ appended_refusal (place + 8 * zeros) octet

pub first_some : (octets : List ℕ) (place : ℕ) (refusal : Refusal) → appended_fault place octets ≡ Some refusal → FirstSome octets place refusal
first_some [] place refusal e = absurd cc
first_some (zero ∷ octets) place refusal e =
    let f = first_some octets (place + 8) refusal e in
    let there : place + 8 + 8 * f.zeros ≡ place + 8 * suc f.zeros = omega arith in
    record { zeros = suc f.zeros; octet = f.octet; rest = f.rest; some = f.some; octets_are = ap (λ (l : List ℕ). 0 ∷ l) f.octets_are; refused = f.refused ∙ ap (λ n. appended_refusal n f.octet) there }
first_some (suc o ∷ octets) place refusal e =
    let found = sym (fault_here (suc o) octets place (λ h. omega arith)) ∙ e in
    let same : appended_refusal place (suc o) ≡ refusal = cc found in
    let here : place ≡ place + 8 * 0 = omega arith in
    record { zeros = 0; octet = suc o; rest = octets; some = λ h. omega arith; octets_are = refl; refused = sym same ∙ ap (λ n. appended_refusal n (suc o)) here }
