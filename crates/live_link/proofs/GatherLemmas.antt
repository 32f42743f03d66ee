-- What items give to send, one behind the other.
use Rattle.std.proofs.Common.{◌≡◌, ℕ, ◌+◌, ◌<◌, Bool, List, [], ◌∷◌, ◌++◌, length, get_or, take, refl, ap, sym, ◌∙◌, append_assoc}
use Rattle.std.specs.List.{flat_map}
use Rattle.std.proofs.lemmas.List.{take_more, append-nil}
use Rattle.link_frames.specs.declared.note.Note.{Note}
use Rattle.link_parts.specs.Messages.{part_octets, part_of, parts_of}
use Rattle.link_parts.specs.declared.part.Part.{Part}

pub octets_append : (xs ys : List Part) →
    flat_map part_octets (xs ++ ys) ≡ flat_map part_octets xs ++ flat_map part_octets ys
octets_append [] ys = refl
octets_append (x ∷ xs) ys =
    ap (λ z. part_octets x ++ z) (octets_append xs ys)
    ∙ sym (append_assoc (part_octets x) (flat_map part_octets xs) (flat_map part_octets ys))

parts_append : (followed : Bool) (xs ys : List Note) →
    parts_of followed (xs ++ ys) ≡ parts_of followed xs ++ parts_of followed ys
parts_append followed [] ys = refl
parts_append followed (x ∷ xs) ys =
    ap (λ z. part_of followed x ++ z) (parts_append followed xs ys)
    ∙ sym (append_assoc (part_of followed x) (parts_of followed xs) (parts_of followed ys))

pub one_more : (followed : Bool) (xs : List Note) (i : ℕ) (x : Note) → i < length xs → x ≡ get_or xs i x →
    flat_map part_octets (parts_of followed (take (i + 1) xs))
    ≡ flat_map part_octets (parts_of followed (take i xs)) ++ flat_map part_octets (part_of followed x)
one_more followed xs i x inside read =
    ap (λ z. flat_map part_octets (parts_of followed z)) (take_more xs i x inside)
    ∙ ap (flat_map part_octets) (parts_append followed (take i xs) (get_or xs i x ∷ []))
    ∙ octets_append (parts_of followed (take i xs)) (parts_of followed (get_or xs i x ∷ []))
    ∙ ap (λ y. flat_map part_octets (parts_of followed (take i xs)) ++ flat_map part_octets (part_of followed y ++ [])) (sym read)
    ∙ ap (λ z. flat_map part_octets (parts_of followed (take i xs)) ++ flat_map part_octets z) (append-nil (part_of followed x))

-- the octets of one part
pub one_part : (parts : List Part) (part : Part) → parts ≡ part ∷ [] → flat_map part_octets parts ≡ part_octets part
one_part parts part is = ap (flat_map part_octets) is ∙ append-nil (part_octets part)
