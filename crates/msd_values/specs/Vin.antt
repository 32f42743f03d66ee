-- Which texts are vehicle identification numbers, after ISO 3779, and at which place a text stops being
-- one, which is this project's profile. Cited by the contracts of `Vin`.
use Rattle.std.specs.Prelude.{◌≡◌, ℕ, not, List, length, take}
use Rattle.std.specs.List.{AllPass, position_or_len}
use Rattle.msd_values.specs.Alphabet.{is_vin_character}

-- seventeen characters of the alphabet
abbrev pub IsVin : List ℕ → Type 0
IsVin text = (length text ≡ 17) × AllPass is_vin_character text

-- the place of the first character among the first seventeen that isn't of the alphabet; where there is
-- none, how many of the first seventeen there are
abbrev pub fault_place : List ℕ → ℕ
fault_place text = position_or_len (λ character. not (is_vin_character character)) (take 17 text)
