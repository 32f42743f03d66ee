-- Which octets show a set of data, where octets stop being one, and which octets are the canonical ones:
-- this project's profile, over ITU-T X.691, unaligned variant. A set has 1 to 140 octets: the bits of one
-- spelling, zero bits to a whole octet, and any number of octets 0. The size is judged first, then the
-- elements of the spelling in their order, then the bits that pad, then the appended octets. Cited by
-- `decode`, `encode` and `spelling_laws`.
use Rattle.std.specs.Prelude.{◌≡◌, ◌≢◌, ℕ, ◌+◌, ◌*◌, ◌<◌, ◌≤◌, Bool, true, false, List, ◌∷◌, ◌++◌, length, replicate, min, ◌⊎◌}
use Rattle.per_bits.specs.Bits.{Part, octet_bits, padding, padded, all_bits, room_bits, room_octets}
use Rattle.per_bits.specs.declared.refusals.Refusal.{Refusal}
use Rattle.per_bits.specs.declared.refusals.Reason.TheVariants.{PadBits, Trailing, Size}
use Rattle.per_types.specs.Types.{Tree}
use Rattle.per_types.specs.Spelling.{Spells, Canonical}
use Rattle.per_types.specs.Stops.{Stops}
use Rattle.msd_values.specs.declared.msd.Msd.{Msd}
use Rattle.msd_codec.specs.Formats.{module_of, SetElements}
use Rattle.msd_codec.specs.Trees.{tree}

abbrev pub HasSize : List ℕ → Type 0
HasSize octets = (1 ≤ length octets) × (length octets ≤ room_octets)

-- the octets are the padded bits of a spelling of the value, and any number of octets 0
pub record ShowsTree (octets : List ℕ) (v : Tree) : Type 0 where
  pub size : HasSize octets
  pub spelling : List Bool
  pub spells : Spells (module_of v) v spelling
  pub appended : ℕ
  pub made : octets ≡ padded spelling ++ replicate appended 0

-- the octets show the set
abbrev pub Shows : List ℕ → Msd → Type 0
Shows octets msd = ShowsTree octets (tree msd)

-- there is no octet, or there are more than 140
pub record StopsAtSize (octets : List ℕ) (refusal : Refusal) : Type 0 where
  pub size : (length octets ≡ 0) ⊎ (room_octets < length octets)
  pub refused : refusal ≡ record { place = 0; reason = Size; value = min 141 (length octets) }

-- some element of the spelling is the first that is refused
pub record StopsAtElement (octets : List ℕ) (refusal : Refusal) : Type 0 where
  pub size : HasSize octets
  pub left : Part
  pub stops : Stops SetElements (all_bits octets) refusal left

-- behind a spelling the first bit 1 is one of those that pad
pub record StopsAtPadding (octets : List ℕ) (refusal : Refusal) : Type 0 where
  pub size : HasSize octets
  pub value : Tree
  pub spelling : List Bool
  pub spells : Spells (module_of value) value spelling
  pub zeros : ℕ
  pub pads : zeros < length (padding (length spelling))
  pub rest : List Bool
  pub bits : octet_bits octets ≡ spelling ++ replicate zeros false ++ true ∷ rest
  pub refused : refusal ≡ record { place = length spelling + zeros; reason = PadBits; value = 1 }

-- behind a spelling, padded with zero bits, the first octet that isn't 0
pub record StopsAtAppended (octets : List ℕ) (refusal : Refusal) : Type 0 where
  pub size : HasSize octets
  pub value : Tree
  pub spelling : List Bool
  pub spells : Spells (module_of value) value spelling
  pub zeros : ℕ
  pub octet : ℕ
  pub rest : List ℕ
  pub made : octets ≡ padded spelling ++ replicate zeros 0 ++ octet ∷ rest
  pub some : octet ≢ 0
  pub refused : refusal ≡ record { place = 8 * (length (padded spelling) + zeros); reason = Trailing; value = octet }

-- Octets that are no set: where, why and with which value.
pub data StopsAt (octets : List ℕ) (refusal : Refusal) : Type 0 where
  at_size : StopsAtSize octets refusal → StopsAt octets refusal
  at_element : StopsAtElement octets refusal → StopsAt octets refusal
  at_padding : StopsAtPadding octets refusal → StopsAt octets refusal
  at_appended : StopsAtAppended octets refusal → StopsAt octets refusal

-- the octets are the padded bits of the canonical spelling of the value
pub record AreCanonical (octets : List ℕ) (v : Tree) : Type 0 where
  pub spelling : List Bool
  pub canonical : Canonical (module_of v) v spelling
  pub made : octets ≡ padded spelling

-- the canonical spelling of the value has so many bits, which are more than 140 octets have
pub record NeedsMoreBits (v : Tree) (bits : ℕ) : Type 0 where
  pub spelling : List Bool
  pub canonical : Canonical (module_of v) v spelling
  pub long : room_bits < length spelling
  pub count : bits ≡ length spelling
