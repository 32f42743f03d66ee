-- The text of a table's tokens is the table's text. The tokens are stated with those that come behind them.
use Rattle.std.proofs.Common.{◌≡◌, ℕ, Bool, true, false, List, [], ◌∷◌, ◌++◌, fold, map, Option, Some, None, codes, decimal, refl, sym, ap, ◌∙◌, append_assoc}
use Rattle.std.specs.List.{concat, join_with_byte}
use Rattle.std.specs.Option.{option_map}
use Rattle.std.proofs.lemmas.List.{append-nil}
use Rattle.hex.specs.Hex.{encode_lower}
use Rattle.json.specs.Token.{Token, begin_object, end_object, begin_array, end_array, key, string, number, null}
use Rattle.json.specs.Print.{print, print_from, quoted, separator}
use Rattle.json.proofs.OnLiterals.{json_on_literals}
use Rattle.link_frames.specs.declared.note.Why.{Why}
use Rattle.link_frames.specs.declared.note.Why.TheVariants as why
use Rattle.trace_text.specs.EntryLine.{why_word}
use Rattle.call_register.specs.Rows.{Row, Rows}
use Rattle.call_register.specs.Text.{array_text, in_quotes, or_null, row_text, set_text, table_text}
use Rattle.call_register.specs.Vins.{vin_of}
use Rattle.call_register.specs.inner.Tokens.{text_token, until_token, why_token, with_row, with_set, with_sets, with_table}
use Rattle.call_register.specs.declared.record.Ending.{Ending}
use Rattle.call_register.specs.declared.record.ShownSet.{ShownSet}

-- ---- what is told, and the tokens behind it

-- a set that was shown, with this token for its identification number
abbrev set_then_by : Token → ShownSet → List Token → List Token
set_then_by vin set rest =
    begin_object
    ∷ key (codes "octets") ∷ string (encode_lower set.octets)
    ∷ key (codes "request") ∷ number (decimal set.request)
    ∷ key (codes "tick") ∷ number (decimal set.tick)
    ∷ key (codes "vin") ∷ vin
    ∷ end_object ∷ rest

abbrev set_then : ShownSet → List Token → List Token
set_then set = set_then_by (text_token (vin_of set.octets)) set

-- each item, with what comes behind all
abbrev each_then : {A : Type 0} → (A → List Token → List Token) → List A → List Token → List Token
each_then one [] rest = rest
each_then one (x ∷ xs) rest = one x (each_then one xs rest)

abbrev array_then : {A : Type 0} → (A → List Token → List Token) → List A → List Token → List Token
array_then one xs rest = begin_array ∷ each_then one xs (end_array ∷ rest)

abbrev row_then : ℕ × Row → List Token → List Token
row_then row rest =
    begin_object
    ∷ key (codes "call") ∷ number (decimal row.0)
    ∷ key (codes "from") ∷ number (decimal row.1.from)
    ∷ key (codes "sets") ∷ array_then set_then row.1.sets
    (key (codes "until") ∷ until_token row.1.ending
    ∷ key (codes "why") ∷ why_token row.1.ending
    ∷ end_object ∷ rest)

-- what stands behind these tokens after each item, and what comes behind it
with_each : {A : Type 0} (with : List Token → A → List Token) (one : A → List Token → List Token)
    → ((tokens rest : List Token) (x : A) → with tokens x ++ rest ≡ tokens ++ one x rest)
    → (tokens rest : List Token) (xs : List A) → fold with tokens xs ++ rest ≡ tokens ++ each_then one xs rest
with_each with one is tokens rest [] = refl
with_each with one is tokens rest (x ∷ xs) =
    with_each with one is (with tokens x) rest xs ∙ is tokens (each_then one xs rest) x

-- the same of an array
with_array : {A : Type 0} (with : List Token → A → List Token) (one : A → List Token → List Token)
    → ((tokens rest : List Token) (x : A) → with tokens x ++ rest ≡ tokens ++ one x rest)
    → (tokens rest : List Token) (xs : List A) →
    (fold with (tokens ++ begin_array ∷ []) xs ++ end_array ∷ []) ++ rest ≡ tokens ++ array_then one xs rest
with_array with one is tokens rest xs =
    append_assoc (fold with (tokens ++ begin_array ∷ []) xs) (end_array ∷ []) rest
    ∙ with_each with one is (tokens ++ begin_array ∷ []) (end_array ∷ rest) xs
    ∙ append_assoc tokens (begin_array ∷ []) (each_then one xs (end_array ∷ rest))

with_set-then : (tokens rest : List Token) (set : ShownSet) → with_set tokens set ++ rest ≡ tokens ++ set_then set rest
with_set-then tokens rest set = simp append_assoc

with_row-then : (tokens rest : List Token) (row : ℕ × Row) → with_row tokens row ++ rest ≡ tokens ++ row_then row rest
with_row-then tokens rest row =
    let front = tokens ++ (
    begin_object
    ∷ key (codes "call") ∷ number (decimal row.0)
    ∷ key (codes "from") ∷ number (decimal row.1.from)
    ∷ key (codes "sets") ∷ []
    ) in
    let back = key (codes "until") ∷ until_token row.1.ending
    ∷ key (codes "why") ∷ why_token row.1.ending
    ∷ end_object ∷ rest in
    let regrouped : with_row tokens row ++ rest ≡ with_sets front row.1.sets ++ back = simp append_assoc in
    regrouped
    ∙ with_array with_set set_then with_set-then front back row.1.sets
    ∙ append_assoc tokens _ (array_then set_then row.1.sets back)

-- ---- pieces of a text, and the text behind them

abbrev pieces_then : List (List ℕ) → List ℕ → List ℕ
pieces_then [] rest = rest
pieces_then (x ∷ xs) rest = x ++ pieces_then xs rest

concat-append : (xs : List (List ℕ)) (rest : List ℕ) → concat xs ++ rest ≡ pieces_then xs rest
concat-append [] rest = refl
concat-append (x ∷ xs) rest = append_assoc x (concat xs) rest ∙ ap (λ l. x ++ l) (concat-append xs rest)

-- ---- what is printed

-- the text of a value, wherever its tokens stand
abbrev Prints : {A : Type 0} → (A → List Token → List Token) → (A → List ℕ) → Type 0
Prints {A} one text =
    (after_value : Bool) (rest : List Token) (x : A) →
    print_from after_value (one x rest) ≡ separator after_value begin_object ++ (text x ++ print_from true rest)

-- some items of an array, with its end
each_printed : {A : Type 0} (one : A → List Token → List Token) (text : A → List ℕ) → Prints one text
    → (after_value : Bool) (rest : List Token) (x : A) (xs : List A) →
    print_from after_value (each_then one (x ∷ xs) (end_array ∷ rest))
    ≡ separator after_value begin_object ++ (join_with_byte 44 (map text (x ∷ xs)) ++ 93 ∷ print_from true rest)
unfolding print_from
each_printed one text prints after_value rest x [] = prints after_value (end_array ∷ rest) x
each_printed one text prints after_value rest x (y ∷ ys) =
    prints after_value (each_then one (y ∷ ys) (end_array ∷ rest)) x
    ∙ ap (λ l. separator after_value begin_object ++ (text x ++ l)) (each_printed one text prints true rest y ys)
    ∙ ap (λ l. separator after_value begin_object ++ l)
    (sym (append_assoc (text x) (44 ∷ join_with_byte 44 (map text (y ∷ ys))) (93 ∷ print_from true rest)))

array_printed : {A : Type 0} (one : A → List Token → List Token) (text : A → List ℕ) → Prints one text
    → (rest : List Token) (xs : List A) →
    print_from false (array_then one xs rest) ≡ array_text (map text xs) ++ print_from true rest
unfolding print_from
array_printed one text prints rest [] = refl
array_printed one text prints rest (x ∷ xs) =
    ap (λ l. 91 ∷ l) (each_printed one text prints false rest x xs
    ∙ sym (append_assoc (join_with_byte 44 (map text (x ∷ xs))) (93 ∷ []) (print_from true rest)))

word_is : (w : Why) → quoted (why_word w) ≡ in_quotes (why_word w)
unfolding json_on_literals
word_is why.Release = refl
word_is why.Hangup = refl
word_is why.Lost = refl

-- the pieces of a set in front of its identification number
abbrev set_front : ShownSet → List (List ℕ)
set_front set =
    codes "{\"octets\":" ∷ quoted (encode_lower set.octets)
    ∷ codes ",\"request\":" ∷ decimal set.request
    ∷ codes ",\"tick\":" ∷ decimal set.tick
    ∷ codes ",\"vin\":" ∷ []

set_printed : Prints set_then set_text
unfolding json_on_literals
set_printed after_value rest set = by (vin_of set.octets)
  where
    pieces : (vin : List ℕ) →
        separator after_value begin_object
        ++ pieces_then (set_front set ++ vin ∷ codes "}" ∷ []) (print_from true rest)
        ≡ separator after_value begin_object
        ++ (concat (set_front set ++ vin ∷ codes "}" ∷ []) ++ print_from true rest)
    pieces vin =
        ap (λ l. separator after_value begin_object ++ l)
        (sym (concat-append (set_front set ++ vin ∷ codes "}" ∷ []) (print_from true rest)))

    by : (vin : Option (List ℕ)) →
        print_from after_value (set_then_by (text_token vin) set rest)
        ≡ separator after_value begin_object
        ++ (concat (set_front set ++ or_null (option_map quoted vin) ∷ codes "}" ∷ []) ++ print_from true rest)
    by None = pieces (codes "null")
    by (Some vin) = pieces (quoted vin)

-- the pieces of a row in front of its sets
abbrev row_front : ℕ × Row → List (List ℕ)
row_front row =
    codes "{\"call\":" ∷ decimal row.0
    ∷ codes ",\"from\":" ∷ decimal row.1.from
    ∷ codes ",\"sets\":" ∷ []

-- and those behind its sets
abbrev row_back : (until word : List ℕ) → List (List ℕ)
row_back until word = codes ",\"until\":" ∷ until ∷ codes ",\"why\":" ∷ word ∷ codes "}" ∷ []

row_printed : Prints row_then row_text
unfolding json_on_literals
row_printed after_value rest row = by row.1.ending
  where
    sets : List ℕ
    sets = array_text (map set_text row.1.sets)

    told : (until word : List ℕ) → List ℕ
    told until word =
        separator after_value begin_object
        ++ (concat (row_front row ++ sets ∷ row_back until word) ++ print_from true rest)

    front : (back : List Token) →
        print_from after_value (
        begin_object
        ∷ key (codes "call") ∷ number (decimal row.0)
        ∷ key (codes "from") ∷ number (decimal row.1.from)
        ∷ key (codes "sets") ∷ array_then set_then row.1.sets back
        )
        ≡ separator after_value begin_object ++ pieces_then (row_front row) (sets ++ print_from true back)
    front back =
        ap (λ l. separator after_value begin_object ++ pieces_then (row_front row) l)
        (array_printed set_then set_text set_printed back row.1.sets)

    pieces : (until word : List ℕ) →
        separator after_value begin_object
        ++ pieces_then (row_front row) (sets ++ pieces_then (row_back until word) (print_from true rest))
        ≡ told until word
    pieces until word =
        ap (λ l. separator after_value begin_object ++ l)
        (sym (concat-append (row_front row ++ sets ∷ row_back until word) (print_from true rest)))

    by : (ending : Option Ending) →
        print_from after_value (row_then (row.0, record { from = row.1.from; sets = row.1.sets; ending = ending }) rest)
        ≡ told (or_null (option_map (λ e. decimal e.tick) ending))
        (or_null (option_map (λ e. in_quotes (why_word e.why)) ending))
    by None =
        front (key (codes "until") ∷ null ∷ key (codes "why") ∷ null ∷ end_object ∷ rest)
        ∙ pieces (codes "null") (codes "null")
    by (Some ending) =
        front (
        key (codes "until") ∷ number (decimal ending.tick)
        ∷ key (codes "why") ∷ string (why_word ending.why)
        ∷ end_object ∷ rest
        )
        ∙ pieces (decimal ending.tick) (quoted (why_word ending.why))
        ∙ ap (told (decimal ending.tick)) (word_is ending.why)

-- the text of a table
pub table_is : (rows : Rows) → print (with_table [] rows) ≡ table_text rows
unfolding table_text print_from
table_is rows =
    ap print (sym (append-nil (with_table [] rows)) ∙ with_array with_row row_then with_row-then [] [] rows)
    ∙ array_printed row_then row_text row_printed [] rows
    ∙ append-nil (table_text rows)
