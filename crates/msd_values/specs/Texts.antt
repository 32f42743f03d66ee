-- How each kind of value of a set is written for people: this project's profile. A number is written in
-- decimal digits, octets in hexadecimal digits, and what is absent as `none`. Cited by the definition of
-- a set's description.
use Rattle.std.specs.Prelude.{ℕ, ◌-◌, ◌==◌, Bool, true, false, ℤ, List, [], ◌∷◌, ◌++◌, slice_index, slice_index_or, codes, decimal, Option, None, Some, if◌then◌else◌}
use Rattle.std.specs.List.{join_with_byte}
use Rattle.std.specs.Fmt.{signed_decimal}
use Rattle.std.specs.Ordering.{int_eq}
use Rattle.hex.specs.Hex.{encode_lower}
use Rattle.per_bits.specs.Bits.{octets_of}
use Rattle.msd_values.specs.Position.{Way}
use Rattle.msd_values.specs.Remarks.{unknown_angle}
use Rattle.msd_values.specs.declared.kind.VehicleKind.{VehicleKind}
use Rattle.msd_values.specs.declared.kind.VehicleKind.TheVariants.{Root, Added}
use Rattle.msd_values.specs.declared.msd.Marks.{Marks}
use Rattle.msd_values.specs.declared.msd.Extra.{Extra}
use Rattle.msd_values.specs.declared.remarks.Remarks.{Remarks}

-- what is present as the function says, and else `none`
abbrev pub or_none : {X : Type 0} → (X → List ℕ) → Option X → List ℕ
or_none text None = codes "none"
or_none text (Some value) = text value

abbrev pub truth_text : Bool → List ℕ
truth_text true = codes "yes"
truth_text false = codes "no"

-- the categories of vehicles, from number 1 on
abbrev pub root_names : List (List ℕ)
root_names =
    codes "M1" ∷ codes "M2" ∷ codes "M3" ∷ codes "N1" ∷ codes "N2" ∷ codes "N3"
    ∷ codes "L1e" ∷ codes "L2e" ∷ codes "L3e" ∷ codes "L4e" ∷ codes "L5e" ∷ codes "L6e" ∷ codes "L7e" ∷ []

abbrev pub root_name : ℕ → List ℕ
root_name number = slice_index_or root_names (number - 1) []

abbrev pub kind_text : VehicleKind → List ℕ
kind_text (Root number) = root_name number
kind_text (Added number) = codes "added " ++ decimal number

-- the code of a text of one character
abbrev pub character : List ℕ → ℕ
character text = slice_index text 0

-- the digit 1 for a mark that is set
abbrev pub mark_digit : Bool → ℕ
mark_digit true = character (codes "1")
mark_digit false = character (codes "0")

-- seven digits
abbrev pub marks_text : Marks → List ℕ
marks_text marks =
    mark_digit marks.gasoline ∷ mark_digit marks.diesel ∷ mark_digit marks.natural_gas ∷ mark_digit marks.propane
    ∷ mark_digit marks.electric ∷ mark_digit marks.hydrogen ∷ mark_digit marks.other ∷ []

-- a latitude or a longitude
abbrev pub angle_text : ℤ → List ℕ
angle_text angle = if int_eq angle unknown_angle then codes "unknown" else signed_decimal angle

abbrev pub heading_text : ℕ → List ℕ
heading_text heading = if heading == 255 then codes "unknown" else decimal heading

-- the two numbers, latitude first
abbrev pub way_text : Way → List ℕ
way_text way = signed_decimal way.latitude ++ (codes " " ++ signed_decimal way.longitude)

-- the octets, or a hyphen where there are none
abbrev pub content_text : List ℕ → List ℕ
content_text [] = codes "-"
content_text (octet ∷ octets) = encode_lower (octet ∷ octets)

-- the object identifier and the data
abbrev pub extra_text : Extra → List ℕ
extra_text extra = encode_lower (octets_of extra.oid.bits) ++ (codes " " ++ content_text (octets_of extra.content.bits))

-- the word, where it applies
abbrev pub word_if : Bool → List ℕ → List (List ℕ)
word_if true word = word ∷ []
word_if false word = []

-- the names of the values that are remarked, in this order
abbrev pub words_of : Remarks → List (List ℕ)
words_of remarks =
    word_if remarks.latitude (codes "latitude")
    ++ word_if remarks.longitude (codes "longitude")
    ++ word_if remarks.heading (codes "heading")

-- some words with single spaces between them
abbrev pub words_text : List (List ℕ) → List ℕ
words_text [] = codes "none"
words_text (word ∷ words) = join_with_byte (character (codes " ")) (word ∷ words)

abbrev pub remarks_text : Remarks → List ℕ
remarks_text remarks = words_text (words_of remarks)
