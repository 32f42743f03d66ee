-- What `ecall conform` writes. It tries the reading and the writing of sets on nineteen vectors, each of which shows a
-- rule of the spelling, and tells what each comes to in one line: the canonical octets of the set that its octets show,
-- or where, why and with which value they stop being one. This project's profile. Cited by the reply to words and an
-- input.
use Rattle.std.specs.Prelude.{◌≡◌, ℕ, ◌+◌, List, [], ◌∷◌, ◌++◌, ◌⊎◌, codes, decimal, map, replicate}
use Rattle.std.specs.Result.{result_unwrap_or}
use Rattle.hex.specs.Hex.{decode_of, encode_lower}
use Rattle.per_bits.specs.declared.refusals.Refusal.{Refusal}
use Rattle.msd_values.specs.declared.msd.Msd.{Msd}
use Rattle.msd_codec.specs.Canonical.{canonical_octets}
use Rattle.msd_codec.specs.Sets.{Shows, StopsAt}
use Rattle.msd_codec.specs.Trees.{tree}
use Rattle.line_input.specs.Characters.{digit_zero, newline}
use Rattle.trace_text.specs.EntryLine.{spaced}
use Rattle.trace_text.specs.Summary.{refused_words}

-- the octets that a text has in hexadecimal
abbrev pub octets_of_text : List ℕ → List ℕ
octets_of_text text = result_unwrap_or (decode_of text) []

-- The vectors in hexadecimal. The first five and the two before the last are sets, and the others are none.
unfoldable pub vector_texts : List (List ℕ)
vector_texts =
    -- a set in its canonical octets
    codes "02000681d54970d65c3597ca0420c4146005e0be1008a5d32c0827c4aa02d0"
    -- the same set of a vehicle with petrol, in its canonical octets
    ∷ codes "02000681d54970d65c3597ca0420c414640af05f080452e9960413e2550168"
    -- the first set with each default of its storages written out
    ∷ codes "02000681d54970d65c3597ca0420c41467f00bc17c20114ba658104f895405a0"
    -- a set with each component that may be absent, as long as a set can be
    ∷ (codes "025c0681d54970d65c3597ca0420c41467ffebc17c20114ba658104f895405b053ec007fe040202c60"
    ++ replicate 198 digit_zero)
    -- a set with an addition
    ∷ codes "02200681d54970d65c3597ca0420c4146005e0be1008a5d32c0827c4aa02d0103abcdef0"
    -- a section of additions without any
    ∷ codes "02200681d54970d65c3597ca0420c4146005e0be1008a5d32c0827c4aa02d000"
    -- a character beyond the alphabet
    ∷ codes "02000681d54970d65c3597ca0420c4161005e0be1008a5d32c0827c4aa02d0"
    -- a length of 128
    ∷ codes "02400681d54970d65c3597ca0420c4146005e0be1008a5d32c0827c4aa02d800"
    -- the second vector without its last octet
    ∷ codes "02000681d54970d65c3597ca0420c414640af05f080452e9960413e25501"
    -- the first vector in format 3
    ∷ codes "03000681d54970d65c3597ca0420c4146005e0be1008a5d32c0827c4aa02d0"
    -- the first vector with a pad bit 1
    ∷ codes "02000681d54970d65c3597ca0420c4146005e0be1008a5d32c0827c4aa02d1"
    -- the first vector with an octet 5 behind it
    ∷ codes "02000681d54970d65c3597ca0420c4146005e0be1008a5d32c0827c4aa02d00005"
    -- a root index of a vehicle's type that has no type
    ∷ codes "020006b5d54970d65c3597ca0420c4146005e0be1008a5d32c0827c4aa02d0"
    -- an addition without octets
    ∷ codes "02200681d54970d65c3597ca0420c4146005e0be1008a5d32c0827c4aa02d01000"
    -- an object identifier without octets
    ∷ codes "02400681d54970d65c3597ca0420c4146005e0be1008a5d32c0827c4aa02d01800"
    -- a section with more additions than a small number counts
    ∷ codes "02200681d54970d65c3597ca0420c4146005e0be1008a5d32c0827c4aa02d800"
    -- the values of the first vector in format 1, in its canonical octets
    ∷ codes "01000681d54970d65c3597ca0420c414600bc17c20114ba658104f895405a0"
    -- the same set of a vehicle with petrol, in its canonical octets
    ∷ codes "01000681d54970d65c3597ca0420c4146415e0be1008a5d32c0827c4aa02d0"
    -- the first vector of format 1 with a pad bit 1
    ∷ codes "01000681d54970d65c3597ca0420c414600bc17c20114ba658104f895405b0" ∷ []

-- their octets
abbrev pub vectors : List (List ℕ)
vectors = map octets_of_text vector_texts

-- the line of these words behind a number
abbrev pub numbered_line : ℕ → List (List ℕ) → List ℕ
numbered_line number words = decimal number ++ spaced words ++ newline ∷ []

-- The octets show a set, and the line has the canonical octets of that set.
pub record TellsSet (number : ℕ) (octets line : List ℕ) : Type 0 where
  pub msd : Msd
  pub shown : Shows octets msd
  pub says : line ≡ numbered_line number (encode_lower (canonical_octets (tree msd)) ∷ [])

-- The octets are no set, and the line says where, why and with which value.
pub record TellsRefusal (number : ℕ) (octets line : List ℕ) : Type 0 where
  pub refusal : Refusal
  pub stops : StopsAt octets refusal
  pub says : line ≡ numbered_line number (refused_words refusal)

-- the line of a vector
abbrev pub IsVectorLine : ℕ → (octets line : List ℕ) → Type 0
IsVectorLine number octets line = TellsSet number octets line ⊎ TellsRefusal number octets line

-- the lines of vectors, numbered on from a number
abbrev pub AreVectorLines : ℕ → List (List ℕ) → List ℕ → Type 0
AreVectorLines number [] text = text ≡ []
AreVectorLines number (octets ∷ others) text =
    (line rest : List ℕ) × IsVectorLine number octets line × AreVectorLines (number + 1) others rest
    × (text ≡ line ++ rest)

-- the text that `conform` writes
abbrev pub IsConformed : List ℕ → Type 0
IsConformed text = AreVectorLines 1 vectors text
