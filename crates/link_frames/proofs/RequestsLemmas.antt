-- Lemmas on words whose bits say which requests are among those of a list.
use Rattle.std.proofs.Common.{◌≡◌, ◌∷◌, ◌<◌, ◌/◌, ◌%◌, ◌*◌, ◌^◌, ℕ, List, inl, inr, ◌∙◌, ap, sym, arith, length, bit_or, w64}
use Rattle.std.specs.Prelude.{◌==◌, ◌||◌, get_or, set}
use Rattle.std.specs.Int.{bit_at}
use Rattle.std.proofs.lemmas.Bool.{cases_eq, eq-eqb, ne_eqb}
use Rattle.std.proofs.lemmas.List.{get_or-set_same, get_or-set_other}
use Rattle.std.proofs.lemmas.Nat.Bits.{bit_at_set_same, bit_at_set_other}
use Rattle.link_frames.specs.Requests.{bit_of, is_among}

-- the words with the bit of a number set
abbrev with_bit : List ℕ → ℕ → List ℕ
with_bit words n = set words (n / 64) (bit_or (get_or words (n / 64) 0) (1 * 2 ^ (n % 64) % 18446744073709551616))

-- that bit is set
pub bit_is_set : (words : List ℕ) (n : ℕ) → n < 256 → length words ≡ 4 → bit_of (with_bit words n) n ≡ 1
bit_is_set words n below four =
    ap (λ w. bit_at w (n % 64)) (get_or-set_same words (n / 64) _ 0 (omega (arith, below, four)))
    ∙ bit_at_set_same w64 (get_or words (n / 64) 0) (n % 64) (omega arith)

-- the other bits stay
pub others_stay : (words : List ℕ) (n r : ℕ) → n < 256 → length words ≡ 4 → (r ≡ n → ⊥) → bit_of (with_bit words n) r ≡ bit_of words r
others_stay words n r below four apart = elim (cases_eq (r / 64) (n / 64)) [
  | inl same ↦
      ap (λ k. bit_at (get_or (with_bit words n) k 0) (r % 64)) same
      ∙ ap (λ w. bit_at w (r % 64)) (get_or-set_same words (n / 64) _ 0 (omega (arith, below, four)))
      ∙ bit_at_set_other w64 (get_or words (n / 64) 0) (n % 64) (omega arith) (r % 64) (λ e. apart (omega (arith, same, e)))
      ∙ ap (λ k. bit_at (get_or words k 0) (r % 64)) (sym same)
  | inr other ↦ ap (λ w. bit_at w (r % 64)) (get_or-set_other words (n / 64) (r / 64) _ 0 other)
]

-- and so the words stand for one request more
pub one_more : (words : List ℕ) (n r : ℕ) (rs : List ℕ) → n < 256 → length words ≡ 4 → (bit_of words r == 1) ≡ is_among r rs → (bit_of (with_bit words n) r == 1) ≡ is_among r (n ∷ rs)
one_more words n r rs below four before = elim (cases_eq r n) [
  | inl same ↦
      ap (λ b. b == 1) (ap (bit_of (with_bit words n)) same ∙ bit_is_set words n below four)
      ∙ sym (ap (λ t. t || is_among r rs) (eq-eqb n r (sym same)))
  | inr apart ↦
      ap (λ b. b == 1) (others_stay words n r below four apart)
      ∙ before
      ∙ sym (ap (λ t. t || is_among r rs) (ne_eqb n r (λ e. apart (sym e))))
]
