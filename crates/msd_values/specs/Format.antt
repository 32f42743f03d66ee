-- The formats of a set of data: this project's profile. Format 1 has no mark for other energies. Cited by `Format`, by
-- the type of a set of data, and by the module of each format.
use Rattle.std.specs.Prelude.{◌≡◌, ℕ, false}
use Rattle.msd_values.specs.declared.format.Format.{Format}
use Rattle.msd_values.specs.declared.format.Format.TheVariants.{One, Two}
use Rattle.msd_values.specs.declared.msd.Marks.{Marks}

abbrev pub format_number : Format → ℕ
format_number One = 1
format_number Two = 2

-- in format 1 no other energy is marked
abbrev pub HasMarks : Format → Marks → Type 0
HasMarks format fuel = format ≡ One → fuel.other ≡ false
