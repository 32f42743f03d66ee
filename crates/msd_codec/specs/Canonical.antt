-- The canonical spelling of a value as a function, and the octets that it pads to: ITU-T X.691 (02/2021), unaligned
-- variant, in this project's profile, with each component absent that equals its default. The laws say that it is
-- the one canonical spelling of every value that has one; of a tree that is no value of the type it says nothing.
-- Cited by `encode` and `spelling_laws`.
use Rattle.std.specs.Prelude.{ℕ, ◌==◌, nat_eq, ◌&&◌, pos, Bool, true, false, not, List, [], ◌∷◌, ◌++◌, length, Option, Some, None, if◌then◌else◌}
use Rattle.std.specs.Cmp.Lexicographic.{pointwise}
use Rattle.std.specs.List.{flat_map, position_or_len}
use Rattle.std.specs.Option.{option_eq}
use Rattle.std.specs.Ordering.{int_eq}
use Rattle.std.specs.Bool.{beq}
use Rattle.per_bits.specs.Bits.{digits, octet_bits, padded}
use Rattle.per_bits.specs.Parts.{Member}
use Rattle.per_types.specs.Kinds.{bits_of, alphabet, span, whole_width, root_width}
use Rattle.per_types.specs.Types.{Tree, truth, number, text, bytes, root, added, record_of, Fields, no_fields, field, absent, Ty, boolean, integer, characters, octet_string, relative_oid, enumerated, format, sequence, Components, required, optional, default}
use Rattle.per_types.specs.Spelling.{mark_elements, section_cut}
use Rattle.msd_codec.specs.Formats.{module_of}

-- whether two records have the same additions, or neither has any
abbrev pub same_additions : Option (List Member) → Option (List Member) → Bool
same_additions more others = option_eq (pointwise (option_eq (pointwise nat_eq))) more others

-- whether two values are the same
unfoldable mutual
  pub same_tree : Tree → Tree → Bool
  same_tree (truth v) (truth w) = beq v w
  same_tree (number v) (number w) = int_eq v w
  same_tree (text cs) (text ds) = pointwise nat_eq cs ds
  same_tree (bytes os) (bytes ps) = pointwise nat_eq os ps
  same_tree (root i) (root j) = i == j
  same_tree (added i) (added j) = i == j
  same_tree (record_of fs more) (record_of gs others) = same_fields fs gs && same_additions more others
  same_tree _ _ = false

  pub same_fields : Fields → Fields → Bool
  same_fields no_fields no_fields = true
  same_fields (field v fs) (field w gs) = same_tree v w && same_fields fs gs
  same_fields (absent fs) (absent gs) = same_fields fs gs
  same_fields _ _ = false

-- the index of a character in the alphabet
unfoldable pub alphabet_index : ℕ → ℕ
alphabet_index c = position_or_len (λ known. known == c) alphabet

-- that index in six bits
abbrev pub character_bits : ℕ → List Bool
character_bits c = digits 6 (alphabet_index c)

-- the length of a string, in eight bits, and its octets
abbrev pub string_bits : List ℕ → List Bool
string_bits os = (false ∷ digits 7 (length os)) ++ octet_bits os

-- the additions, where there are some
abbrev pub more_bits : Option (List Member) → List Bool
more_bits None = []
more_bits (Some members) = bits_of (section_cut members)

-- one bit for each component that may be absent: 1 where it is written
unfoldable pub presence_bits : Components → Fields → List Bool
presence_bits (required t cs) (field v fs) = presence_bits cs fs
presence_bits (optional t cs) (field v fs) = true ∷ presence_bits cs fs
presence_bits (optional t cs) (absent fs) = false ∷ presence_bits cs fs
presence_bits (default t d cs) (field v fs) = not (same_tree v d) ∷ presence_bits cs fs
presence_bits _ _ = []

-- The canonical spelling of a value of a type, and of the components that are written, one behind the other.
unfoldable mutual
  pub canonical_bits : Ty → Tree → List Bool
  canonical_bits boolean (truth v) = v ∷ []
  canonical_bits (integer low high) (number v) = digits (whole_width low high) (span low v)
  canonical_bits (characters n) (text cs) = flat_map character_bits cs
  canonical_bits octet_string (bytes os) = string_bits os
  canonical_bits relative_oid (bytes os) = string_bits os
  canonical_bits (enumerated roots) (root i) = false ∷ digits (root_width roots) i
  canonical_bits (enumerated roots) (added i) = true ∷ false ∷ digits 6 i
  canonical_bits (format known) (number (pos v)) = digits 8 v
  canonical_bits (sequence marked cs) (record_of fs more) =
      bits_of (mark_elements marked more) ++ presence_bits cs fs ++ written_bits cs fs ++ more_bits more
  canonical_bits _ _ = []

  pub written_bits : Components → Fields → List Bool
  written_bits (required t cs) (field v fs) = canonical_bits t v ++ written_bits cs fs
  written_bits (optional t cs) (field v fs) = canonical_bits t v ++ written_bits cs fs
  written_bits (optional t cs) (absent fs) = written_bits cs fs
  written_bits (default t d cs) (field v fs) =
      (if same_tree v d then [] else canonical_bits t v) ++ written_bits cs fs
  written_bits _ _ = []

-- the canonical octets of a value of the module
abbrev pub canonical_octets : Tree → List ℕ
canonical_octets v = padded (canonical_bits (module_of v) v)
