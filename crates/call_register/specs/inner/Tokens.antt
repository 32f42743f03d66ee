-- A table as tokens of JSON, behind tokens that stand already. This project's profile. Scaffolding: cited by the
-- contracts of private functions alone.
use Rattle.std.specs.Prelude.{ℕ, List, [], ◌∷◌, ◌++◌, fold, Option, Some, None, codes, decimal}
use Rattle.std.specs.Option.{option_map}
use Rattle.hex.specs.Hex.{encode_lower}
use Rattle.json.specs.Token.{Token, begin_object, end_object, begin_array, end_array, key, string, number, null}
use Rattle.trace_text.specs.EntryLine.{why_word}
use Rattle.call_register.specs.Rows.{Row, Rows}
use Rattle.call_register.specs.Vins.{vin_of}
use Rattle.call_register.specs.declared.record.Ending.{Ending}
use Rattle.call_register.specs.declared.record.ShownSet.{ShownSet}

-- a text, or null
abbrev pub text_token : Option (List ℕ) → Token
text_token None = null
text_token (Some text) = string text

-- a number, or null
abbrev pub number_token : Option ℕ → Token
number_token None = null
number_token (Some n) = number (decimal n)

-- the tick of an end, or null
abbrev pub until_token : Option Ending → Token
until_token ending = number_token (option_map (λ e. e.tick) ending)

-- the word of an end, or null
abbrev pub why_token : Option Ending → Token
why_token ending = text_token (option_map (λ e. why_word e.why) ending)

-- behind these tokens, a value under its name
abbrev pub with_member : List Token → (name : List ℕ) → Token → List Token
with_member tokens name value = (tokens ++ key name ∷ []) ++ value ∷ []

-- behind these tokens, a set that was shown
abbrev pub with_set : List Token → ShownSet → List Token
with_set tokens set =
    let opened = tokens ++ begin_object ∷ [] in
    let octets = with_member opened (codes "octets") (string (encode_lower set.octets)) in
    let request = with_member octets (codes "request") (number (decimal set.request)) in
    let tick = with_member request (codes "tick") (number (decimal set.tick)) in
    let vin = with_member tick (codes "vin") (text_token (vin_of set.octets)) in
    vin ++ end_object ∷ []

-- behind these tokens, an array of sets
abbrev pub with_sets : List Token → List ShownSet → List Token
with_sets tokens sets = fold with_set (tokens ++ begin_array ∷ []) sets ++ end_array ∷ []

-- behind these tokens, what is told of a call
abbrev pub with_row : List Token → ℕ × Row → List Token
with_row tokens row =
    let opened = tokens ++ begin_object ∷ [] in
    let call = with_member opened (codes "call") (number (decimal row.0)) in
    let from = with_member call (codes "from") (number (decimal row.1.from)) in
    let sets = with_sets (from ++ key (codes "sets") ∷ []) row.1.sets in
    let until = with_member sets (codes "until") (until_token row.1.ending) in
    let word = with_member until (codes "why") (why_token row.1.ending) in
    word ++ end_object ∷ []

-- behind these tokens, a table
abbrev pub with_table : List Token → Rows → List Token
with_table tokens rows = fold with_row (tokens ++ begin_array ∷ []) rows ++ end_array ∷ []
