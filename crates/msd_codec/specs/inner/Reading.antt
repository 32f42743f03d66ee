-- Scaffolding of the readers of this crate: which component is present, the reading of a component that may
-- be absent, and that a reader moves on. This project's profile, over ITU-T X.691, unaligned variant. Cited by private
-- readers alone.
use Rattle.std.specs.Prelude.{◌≡◌, ◌≤◌, ℕ, ◌/◌, ◌%◌, ◌^◌, nat_eq, Bool, true, false, List, [], ◌∷◌, Option, Some, None, Ok}
use Rattle.per_bits.specs.Bits.{Part}
use Rattle.msd_values.specs.declared.format.Format.{Format}
use Rattle.msd_values.specs.declared.format.Format.TheVariants.{One, Two}
use Rattle.per_types.specs.Types.{Tree, Ty}
use Rattle.per_types.specs.Stops.{Read}
use Rattle.per_types.specs.Reading.{tree_at, ◌>>=◌}

-- whether the presence bit is 1 behind which so many others stand, of bits that read this number
abbrev pub presence_bit : ℕ → ℕ → Bool
presence_bit presence others = nat_eq (presence / 2 ^ others % 2) 1

-- the presence bits of the marks, of which format 1 doesn't have the last
abbrev pub other_presence : Format → ℕ → List Bool
other_presence One v = []
other_presence Two v = presence_bit v 0 ∷ []

abbrev pub mark_presence : Format → ℕ → List Bool
mark_presence f v =
    presence_bit v 6 ∷ presence_bit v 5 ∷ presence_bit v 4 ∷ presence_bit v 3 ∷ presence_bit v 2 ∷ presence_bit v 1
    ∷ other_presence f v

-- a component whose presence bit is given: its value, or its default
abbrev pub default_at : Bool → Ty → Tree → Part → Read Tree
default_at true t d p = tree_at t p
default_at false t d p = Ok (d, p)

-- a component whose presence bit is given: its value, or none
abbrev pub optional_at : Bool → Ty → Part → Read (Option Tree)
optional_at true t p = tree_at t p >>= λ v. Ok (Some v.0, v.1)
optional_at false t p = Ok (None, p)

-- q stands in the same octets as p, there or behind it
pub record MovesOn (p q : Part) : Type 0 where
  pub all : q.all ≡ p.all
  pub on : p.start ≤ q.start
