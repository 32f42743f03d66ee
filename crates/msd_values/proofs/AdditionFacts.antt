-- The additions of a section as its parts, and as its members.
use Rattle.std.proofs.Common.{◌≡◌, ℕ, List, [], ◌∷◌, ◌++◌, map, refl, ap, ◌∙◌}
use Rattle.std.specs.List.{flat_map}
use Rattle.per_bits.specs.Bits.{Part, octets_of}
use Rattle.msd_values.specs.Additions.{addition_text}
use Rattle.msd_values.specs.inner.Groups.{part_text}

-- the index and the octets of an addition that is a part
abbrev pub octets_at : ℕ × Part → ℕ × List ℕ
octets_at addition = (addition.0, octets_of addition.1.bits)

-- parts are written as their octets are
pub part_texts : (parts : List (ℕ × Part)) → flat_map part_text parts ≡ flat_map addition_text (map octets_at parts)
part_texts [] = refl
part_texts (part ∷ parts) = ap (λ text. part_text part ++ text) (part_texts parts)

-- and so are those of a section
pub member_texts : (parts : List (ℕ × Part)) (members : List (ℕ × List ℕ)) → map octets_at parts ≡ members → flat_map part_text parts ≡ flat_map addition_text members
member_texts parts members same = part_texts parts ∙ ap (flat_map addition_text) same
