-- What contracts see of additional data that a vehicle offers for its set of data, and how much of it there may be:
-- an object identifier and a content after EN 15722; the limit is this project's profile. Cited by the model and the
-- contracts of `Candidate`, by the definition of the set that fits, and by whoever reads a candidate from a text.
use Rattle.std.specs.Prelude.{ℕ, ◌+◌, ◌==◌, nat_lt, nat_le, Bool, true, false, not, ◌&&◌, List, [], ◌∷◌, length, Option, Some, None, if◌then◌else◌}

-- the octets of a relative object identifier, and those of the content
pub record AdditionalData : Type 0 where
  pub oid : List ℕ
  pub content : List ℕ

-- how many octets both have together, at most
abbrev pub most_together : ℕ
most_together = 110

-- whether the octets are arcs to the end, where begins tells that the next octet begins an arc: no arc begins with 80
-- hexadecimal, and an octet below 80 hexadecimal ends its arc
abbrev pub are_arcs : Bool → List ℕ → Bool
are_arcs begins [] = begins
are_arcs begins (o ∷ octets) = not (begins && (o == 128)) && are_arcs (nat_lt o 128) octets

-- whether the octets are those of a relative object identifier: one arc or more
abbrev pub is_oid : List ℕ → Bool
is_oid [] = false
is_oid (o ∷ octets) = are_arcs true (o ∷ octets)

-- whether these octets are those of a candidate
abbrev pub is_candidate : List ℕ → List ℕ → Bool
is_candidate oid content = is_oid oid && nat_le (length oid + length content) most_together

-- the candidate of these octets, if they are those of one
abbrev pub candidate_of : List ℕ → List ℕ → Option AdditionalData
candidate_of oid content =
    if is_candidate oid content then Some (record { oid = oid; content = content }) else None
