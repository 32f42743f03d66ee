-- Where the borrowed parts of a set of data lie: each in the octets at its start, one behind the other, and exactly
-- where the spelling has it (ITU-T X.691, unaligned variant, in this project's profile). Cited by `decode`.
use Rattle.std.specs.Prelude.{◌≡◌, ℕ, ◌+◌, ◌≤◌, Bool, false, List, [], ◌∷◌, ◌++◌, length, take, drop, Option, Some, None}
use Rattle.std.specs.Option.{option_to_list}
use Rattle.per_bits.specs.Bits.{Part}
use Rattle.per_types.specs.Kinds.{Element, bits_of}
use Rattle.msd_values.specs.declared.msd.Extra.{Extra}
use Rattle.msd_values.specs.declared.msd.Msd.{Msd}
use Rattle.msd_codec.specs.Formats.{SetElements}
use Rattle.msd_codec.specs.Trees.{tree}

-- Parts of these bits between two places: each has the bits from its start on, and begins where the one
-- before it ended or later.
abbrev pub LieBetween : List Bool → ℕ → List Part → ℕ → Type 0
LieBetween all from [] to = from ≤ to
LieBetween all from (p ∷ parts) to =
    (p.all ≡ all) × (p.bits ≡ take (length p.bits) (drop p.start all))
    × (from ≤ p.start) × LieBetween all (p.start + length p.bits) parts to

-- The content of additional data, also where it has no octets, stands right behind its length, which has eight
-- bits and stands right behind the object identifier.
abbrev pub ContentFollows : Extra → Type 0
ContentFollows extra = extra.content.start ≡ extra.oid.start + length extra.oid.bits + 8

abbrev pub extra_parts : Option Extra → List Part
extra_parts None = []
extra_parts (Some extra) = extra.oid ∷ extra.content ∷ []

-- the parts of the structure, and all parts, in their order
abbrev pub structure_parts : Msd → List Part
structure_parts msd = option_to_list msd.fuel_more ++ option_to_list msd.set_more

abbrev pub parts_of : Msd → List Part
parts_of msd = structure_parts msd ++ extra_parts msd.extra ++ option_to_list msd.message_more

-- the part, if it is there, has all bits from one place to the other
abbrev pub Fills : ℕ → Option Part → ℕ → Type 0
Fills from None to = from ≡ to
Fills from (Some p) to = (p.start ≡ from) × (p.start + length p.bits ≡ to)

-- Additional data has all bits from one place to the other: a length and the object identifier, a length and the
-- content.
abbrev pub ExtraFills : ℕ → Extra → ℕ → Type 0
ExtraFills from extra to =
    (extra.oid.start ≡ from + 8) × ContentFollows extra × (extra.content.start + length extra.content.bits ≡ to)

abbrev pub DataFills : ℕ → Option Extra → ℕ → Type 0
DataFills from None to = from ≡ to
DataFills from (Some extra) to = ExtraFills from extra to

-- so many bits where there is a value
abbrev pub len_of : {X : Type 0} → ℕ → Option X → ℕ
len_of n None = 0
len_of n (Some x) = n

-- The structure ends at this place: its additions stand there last, before them the fields from the time on, and
-- before these the additions of the energies.
pub record StructureEnds (msd : Msd) (end : ℕ) : Type 0 where
  pub fuel : ℕ
  pub time : ℕ
  pub more : ℕ
  pub fuel_more : Fills fuel msd.fuel_more time
  pub fields : more ≡ time + 104 + len_of 20 msd.before1 + len_of 20 msd.before2 + len_of 8 msd.passengers
  pub set_more : Fills more msd.set_more end

-- The message ends at this place: its additions stand there last, before them additional data, and before it the
-- structure.
pub record MessageEnds (msd : Msd) (end : ℕ) : Type 0 where
  pub beside : ℕ
  pub more : ℕ
  pub structure : StructureEnds msd beside
  pub extra : DataFills beside msd.extra more
  pub message_more : Fills more msd.message_more end

-- Each part stands at its place in the one spelling of the set that begins these bits: counted from its end.
pub record StandInPlace (bits : List Bool) (msd : Msd) : Type 0 where
  pub elements : List Element
  pub spelled : SetElements (tree msd) elements
  pub behind_it : List Bool
  pub begins : bits ≡ bits_of elements ++ behind_it
  pub ends : MessageEnds msd (length (bits_of elements))
