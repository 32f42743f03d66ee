-- The text of a table: compact JSON, with the keys of each object in alphabetical order. This project's profile, over
-- RFC 8259. A text that is `quoted` has JSON's escapes, of which hexadecimal digits and identification numbers need
-- none (`register_laws`). Cited by the register.
use Rattle.std.specs.Prelude.{ℕ, List, [], ◌∷◌, map, Option, Some, None, codes, decimal}
use Rattle.std.specs.List.{concat, join_with_byte}
use Rattle.std.specs.Option.{option_map}
use Rattle.hex.specs.Hex.{encode_lower}
use Rattle.json.specs.Print.{quoted}
use Rattle.trace_text.specs.EntryLine.{why_word}
use Rattle.call_register.specs.Rows.{Row, Rows}
use Rattle.call_register.specs.Vins.{vin_of}
use Rattle.call_register.specs.declared.record.ShownSet.{ShownSet}

-- the text, or `null` where there is none
abbrev pub or_null : Option (List ℕ) → List ℕ
or_null None = codes "null"
or_null (Some text) = text

-- a text between quotes, as it stands
abbrev pub in_quotes : List ℕ → List ℕ
in_quotes text = concat (codes "\"" ∷ text ∷ codes "\"" ∷ [])

abbrev pub comma : ℕ
comma = 44

-- these texts as an array
abbrev pub array_text : List (List ℕ) → List ℕ
array_text items = concat (codes "[" ∷ join_with_byte comma items ∷ codes "]" ∷ [])

-- a set that was shown
abbrev pub set_text : ShownSet → List ℕ
set_text set =
    concat (
    codes "{\"octets\":" ∷ quoted (encode_lower set.octets)
    ∷ codes ",\"request\":" ∷ decimal set.request
    ∷ codes ",\"tick\":" ∷ decimal set.tick
    ∷ codes ",\"vin\":" ∷ or_null (option_map quoted (vin_of set.octets))
    ∷ codes "}" ∷ []
    )

-- what is told of a call
abbrev pub row_text : ℕ × Row → List ℕ
row_text row =
    concat (
    codes "{\"call\":" ∷ decimal row.0
    ∷ codes ",\"from\":" ∷ decimal row.1.from
    ∷ codes ",\"sets\":" ∷ array_text (map set_text row.1.sets)
    ∷ codes ",\"until\":" ∷ or_null (option_map (λ ending. decimal ending.tick) row.1.ending)
    ∷ codes ",\"why\":" ∷ or_null (option_map (λ ending. in_quotes (why_word ending.why)) row.1.ending)
    ∷ codes "}" ∷ []
    )

-- the text of a table
unfoldable pub table_text : Rows → List ℕ
table_text rows = array_text (map row_text rows)
