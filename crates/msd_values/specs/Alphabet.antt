-- The characters of a vehicle identification number: those of its alphabet. Cited by the contracts of `Vin`
-- and by whoever reads or writes its characters.
use Rattle.std.specs.Prelude.{ℕ, ◌==◌, Bool}
use Rattle.std.specs.List.{list_any}
pub use Rattle.per_bits.specs.Alphabet.{alphabet}

-- whether the code stands in the alphabet
unfoldable pub is_vin_character : ℕ → Bool
is_vin_character code = list_any (λ character. character == code) alphabet
