-- Pieces of a text, one behind the other.
use Rattle.std.proofs.Common.{◌≡◌, ℕ, List, [], ◌∷◌, ◌++◌, map, sym, ap, ◌∙◌, append_assoc}
use Rattle.std.specs.List.{flat_map}
use Rattle.std.proofs.lemmas.List.{append-nil}
use Rattle.per_bits.specs.Bits.{Part, octets_of}
use Rattle.set_objects.specs.Object.{addition_field}

-- the index and the octets of an addition that is a part
abbrev pub octets_at : ℕ × Part → ℕ × List ℕ
octets_at addition = (addition.0, octets_of addition.1.bits)

-- one addition more
pub one_field_more : (parts : List (ℕ × Part)) (part : ℕ × Part)
    → flat_map addition_field (map octets_at (parts ++ part ∷ []))
    ≡ flat_map addition_field (map octets_at parts) ++ addition_field (octets_at part)
one_field_more [] part = append-nil (addition_field (octets_at part))
one_field_more (first ∷ parts) part =
    ap (λ text. addition_field (octets_at first) ++ text) (one_field_more parts part)
    ∙ sym (append_assoc (addition_field (octets_at first)) (flat_map addition_field (map octets_at parts))
    (addition_field (octets_at part)))
