-- How a section of additions is written for people: this project's profile. The members of the section are read by
-- `members_of`, after ITU-T X.691 (02/2021), and nothing else of it is written. Cited by the definition of a set's
-- description.
use Rattle.std.specs.Prelude.{ℕ, List, ◌++◌, length, codes, decimal}
use Rattle.std.specs.List.{flat_map}
use Rattle.hex.specs.Hex.{encode_lower}
use Rattle.per_bits.specs.Bits.{Part}
use Rattle.per_bits.specs.Parts.{Member, members_of, present_members}

-- a space, the index from 0, a colon, and the octets in hexadecimal digits
abbrev pub addition_text : ℕ × List ℕ → List ℕ
addition_text addition = codes " " ++ (decimal addition.0 ++ (codes ":" ++ encode_lower addition.1))

-- how many additions there is a presence bit for, and each present one
abbrev pub members_text : List Member → List ℕ
members_text members = decimal (length members) ++ flat_map addition_text (present_members 0 members)

-- the same of the members of a section
abbrev pub additions_text : Part → List ℕ
additions_text section = members_text (members_of section.bits)
