-- The fact lines of a text: the form of each, and why it is refused. This project's profile; the numbers' ranges are
-- those of its set of data. Cited by the definitions of the lines of a script and of `encode`.
use Rattle.std.specs.Prelude.{ℕ, ◌-◌, ◌^◌, ◌==◌, ◌&&◌, ◌||◌, nat_le, ℤ, Bool, List, [], ◌∷◌, ◌++◌, length, slice_index, replicate, codes, Option, Some, None, Result, Ok, Err, if◌then◌else◌}
use Rattle.std.specs.List.{list_all}
use Rattle.std.specs.Str.{bytes_eq}
use Rattle.msd_values.specs.Alphabet.{is_vin_character}
use Rattle.msd_values.specs.Position.{Way}
use Rattle.msd_values.specs.declared.msd.Marks.{Marks}
use Rattle.msd_fit.specs.Candidates.{AdditionalData, candidate_of}
use Rattle.line_input.specs.Characters.{digit_zero, digit_one}
use Rattle.trace_text.specs.Choices.{format_choice, yes_or_no}
use Rattle.trace_text.specs.Hexadecimal.{octets_of, content_of}
use Rattle.line_input.specs.Numbers.{natural_below, positive_below, signed_within}
use Rattle.trace_text.specs.declared.fact_line.FactLine.{FactLine}
use Rattle.trace_text.specs.declared.fact_line.FactLine.TheVariants as fact
use Rattle.line_input.specs.declared.reason.Reason.{Reason}
use Rattle.line_input.specs.declared.reason.Reason.TheVariants as reason

-- the line of a value, or the reason where there is none
abbrev pub fact_or : {A : Type 0} → Reason → (A → FactLine) → Option A → Result FactLine Reason
fact_or why line (Some value) = Ok (line value)
fact_or why line None = Err why

-- seventeen characters of the alphabet
abbrev pub vin_text : List ℕ → Option (List ℕ)
vin_text text = if (length text == 17) && list_all is_vin_character text then Some text else None

-- `vin <17 characters>`
abbrev pub vin_line : List (List ℕ) → Result FactLine Reason
vin_line (text ∷ []) = fact_or reason.Word fact.Vin (vin_text text)
vin_line _ = Err reason.Count

-- `kind <1..13>`
abbrev pub kind_line : List (List ℕ) → Result FactLine Reason
kind_line (text ∷ []) = fact_or reason.Number fact.Kind (positive_below 14 text)
kind_line _ = Err reason.Count

abbrev pub is_mark : ℕ → Bool
is_mark c = (c == digit_zero) || (c == digit_one)

-- whether the digit at this place is 1
abbrev pub is_marked : List ℕ → ℕ → Bool
is_marked text place = slice_index text place == digit_one

-- seven digits 0 or 1, in the order of the set of data
abbrev pub marks_of : List ℕ → Option Marks
marks_of text =
    if (length text == 7) && list_all is_mark text then
    Some (record {
      gasoline = is_marked text 0;
      diesel = is_marked text 1;
      natural_gas = is_marked text 2;
      propane = is_marked text 3;
      electric = is_marked text 4;
      hydrogen = is_marked text 5;
      other = is_marked text 6;
    })
    else None

-- `fuel <seven digits>`
abbrev pub fuel_line : List (List ℕ) → Result FactLine Reason
fuel_line (text ∷ []) = fact_or reason.Word fact.Fuel (marks_of text)
fuel_line _ = Err reason.Count

-- `format 1|2`
abbrev pub format_line : List (List ℕ) → Result FactLine Reason
format_line (text ∷ []) = fact_or reason.Word fact.Format (format_choice text)
format_line _ = Err reason.Count

-- `time <0..4294967295>`
abbrev pub time_line : List (List ℕ) → Result FactLine Reason
time_line (text ∷ []) = fact_or reason.Number fact.Time (natural_below (2 ^ 32) text)
time_line _ = Err reason.Count

-- an angle in milliarcseconds, -2147483648 to 2147483647
abbrev pub angle : List ℕ → Option ℤ
angle text = signed_within (2 ^ 31) text

abbrev pub place_of : Option ℤ → Option ℤ → Result FactLine Reason
place_of (Some latitude) (Some longitude) = Ok (fact.Place latitude longitude)
place_of _ _ = Err reason.Number

-- `place <latitude> <longitude>`
abbrev pub place_line : List (List ℕ) → Result FactLine Reason
place_line (latitude ∷ longitude ∷ []) = place_of (angle latitude) (angle longitude)
place_line _ = Err reason.Count

-- `heading <0..255>`
abbrev pub heading_line : List (List ℕ) → Result FactLine Reason
heading_line (text ∷ []) = fact_or reason.Number fact.Heading (natural_below 256 text)
heading_line _ = Err reason.Count

-- `trusted yes|no`
abbrev pub trusted_line : List (List ℕ) → Result FactLine Reason
trusted_line (text ∷ []) = fact_or reason.Word fact.Trusted (yes_or_no text)
trusted_line _ = Err reason.Count

abbrev pub way_of : Option ℤ → Option ℤ → Option Way
way_of (Some latitude) (Some longitude) = Some (record { latitude = latitude; longitude = longitude })
way_of _ _ = None

-- two numbers, each from -512 to 511
abbrev pub way_text : (latitude longitude : List ℕ) → Option Way
way_text latitude longitude = way_of (signed_within 512 latitude) (signed_within 512 longitude)

-- `before1 <latitude> <longitude>`
abbrev pub before1_line : List (List ℕ) → Result FactLine Reason
before1_line (latitude ∷ longitude ∷ []) = fact_or reason.Number fact.Before1 (way_text latitude longitude)
before1_line _ = Err reason.Count

-- `before2 <latitude> <longitude>`
abbrev pub before2_line : List (List ℕ) → Result FactLine Reason
before2_line (latitude ∷ longitude ∷ []) = fact_or reason.Number fact.Before2 (way_text latitude longitude)
before2_line _ = Err reason.Count

-- `passengers <0..255>`
abbrev pub passengers_line : List (List ℕ) → Result FactLine Reason
passengers_line (text ∷ []) = fact_or reason.Number fact.Passengers (natural_below 256 text)
passengers_line _ = Err reason.Count

-- the candidate of an object identifier and a content
abbrev pub candidate_from : Option (List ℕ) → Option (List ℕ) → Option AdditionalData
candidate_from (Some oid) (Some content) = candidate_of oid content
candidate_from _ _ = None

-- `extra <oid> <data>`, in hexadecimal, the data `-` where there are none
abbrev pub extra_line : List (List ℕ) → Result FactLine Reason
extra_line (oid ∷ content ∷ []) = fact_or reason.Hex fact.Extra (candidate_from (octets_of oid) (content_of content))
extra_line _ = Err reason.Count

-- zero octets behind the octets of a set, up to 140
abbrev pub padded : List ℕ → List ℕ
padded octets = octets ++ replicate (140 - length octets) 0

abbrev pub set_of : Option (List ℕ) → Option (List ℕ)
set_of (Some octets) = if nat_le (length octets) 140 then Some (padded octets) else None
set_of None = None

-- `set <hexadecimal>`, of 1 to 140 octets
abbrev pub set_line : List (List ℕ) → Result FactLine Reason
set_line (text ∷ []) = fact_or reason.Hex fact.Set (set_of (octets_of text))
set_line _ = Err reason.Count

-- a fact about the vehicle, by the first word of its line and the words behind it
abbrev pub vehicle_fact : List ℕ → List (List ℕ) → Option (Result FactLine Reason)
vehicle_fact first rest =
    if bytes_eq first (codes "vin") then Some (vin_line rest)
    else if bytes_eq first (codes "kind") then Some (kind_line rest)
    else if bytes_eq first (codes "format") then Some (format_line rest)
    else if bytes_eq first (codes "fuel") then Some (fuel_line rest)
    else if bytes_eq first (codes "passengers") then Some (passengers_line rest)
    else if bytes_eq first (codes "extra") then Some (extra_line rest)
    else None

-- a fact about its way
abbrev pub way_fact : List ℕ → List (List ℕ) → Option (Result FactLine Reason)
way_fact first rest =
    if bytes_eq first (codes "time") then Some (time_line rest)
    else if bytes_eq first (codes "place") then Some (place_line rest)
    else if bytes_eq first (codes "heading") then Some (heading_line rest)
    else if bytes_eq first (codes "trusted") then Some (trusted_line rest)
    else if bytes_eq first (codes "before1") then Some (before1_line rest)
    else if bytes_eq first (codes "before2") then Some (before2_line rest)
    else None

-- a fact that the vehicle knows of itself, where the first word is that of one
abbrev pub own_fact : List ℕ → List (List ℕ) → Option (Result FactLine Reason)
own_fact first rest = elim (vehicle_fact first rest) [ Some says ↦ Some says | None ↦ way_fact first rest ]
