-- What the one word of a line gives: its octets, or why it is refused.
use Rattle.std.specs.Prelude.{◌≡◌, ℕ, ◌+◌, ◌-◌, ◌/◌, ◌≤◌, nat_lt, Bool, true, false, List, ◌∷◌, length, take, drop, position, Option, Some, None, Result, Ok, Err, MatchResult}
use Rattle.std.proofs.Common.{sym, ◌∙◌, ap, refl, subst, inl, inr}
use Rattle.std.proofs.lemmas.Bool.{ltb-false}
use Rattle.std.proofs.lemmas.Bool.Decides.{eqb_tells}
use Rattle.hex.specs.Hex.{decode_of, decode_sized}
use Rattle.hex.specs.declared.error.FromHexError.{FromHexError}
use Rattle.line_input.proofs.WordsLemmas.{words-found, words-one, words-some}
use Rattle.line_input.specs.Lines.{line_fault, most_in_line}
use Rattle.line_input.specs.Characters.{is_space}
use Rattle.line_input.specs.Words.{only_word_of, words}
use Rattle.line_input.specs.declared.reason.Reason.TheVariants as reason
use Rattle.set_commands.specs.Decode.{octets_in, some_octets}

-- which is all of it
word_is_line : (text word : List ℕ) → Some word ≡ only_word_of (words text) → word ≡ text
word_is_line text word only = by_space (position is_space text) refl
  where
    by_space : (at : Option ℕ) → position is_space text ≡ at → word ≡ text
    by_space None h =
        let same : Some word ≡ Some text = only ∙ ap only_word_of (words-one text h) in
        cc same
    by_space (Some i) h =
        let others : List ℕ = take (length text - (i + 1)) (drop (i + 1) text) in
        let more : (other : List ℕ) × (rest : List (List ℕ)) × (words others ≡ other ∷ rest) = words-some others in
        let none : Some word ≡ None =
        only ∙ ap only_word_of (words-found text i h ∙ ap (λ ws. take i text ∷ ws) more.2) in
        absurd (cc none)

short_line : (text : List ℕ) → line_fault text ≡ None → length text ≤ most_in_line
short_line text sound = by_test (nat_lt most_in_line (length text)) refl
  where
    by_test : (b : Bool) → nat_lt most_in_line (length text) ≡ b → length text ≤ most_in_line
    by_test false h = ltb-false most_in_line (length text) h
    by_test true h =
        let long : line_fault text ≡ Some reason.LineLong = rw (line_fault, h) refl in
        let none : Some reason.LineLong ≡ None = sym long ∙ sound in
        absurd (cc none)

-- and as short as a line is
pub short_word : (text word : List ℕ) → line_fault text ≡ None → Some word ≡ only_word_of (words text)
    → length word ≤ most_in_line
short_word text word sound only =
    subst (λ (t : List ℕ). length t ≤ most_in_line) (sym (word_is_line text word only)) (short_line text sound)

-- room for half as many octets as there are digits is the right room
sized_is : (text : List ℕ) (n : ℕ) → n ≡ length text / 2 → decode_sized text n ≡ decode_of text
sized_is text n half = elim (eqb_tells (length text / 2) n) [
  | inl same ↦ rw same.0 refl
  | inr other ↦ absurd (other.1 (sym half))
]

-- digits that couldn't be read are no octets
pub no_hex : (text : List ℕ) (n : ℕ) (e : FromHexError) (P : List ℕ → Type 0) → n ≡ length text / 2
    → MatchResult (decode_sized text n)
    (λ bytes. (◌≡◌ {A = Result (Unit {0}) FromHexError} (Err e) (Ok tt)) × P bytes)
    (λ why. ◌≡◌ {A = Result (Unit {0}) FromHexError} (Err e) (Err why))
    → some_octets (octets_in (decode_of text)) ≡ Err reason.Hex
no_hex text n e P half fails =
    by_result (decode_of text)
    (subst (λ (r : Result (List ℕ) FromHexError).
    MatchResult r (λ bytes. (◌≡◌ {A = Result (Unit {0}) FromHexError} (Err e) (Ok tt)) × P bytes)
    (λ why. ◌≡◌ {A = Result (Unit {0}) FromHexError} (Err e) (Err why))) (sized_is text n half) fails)
  where
    by_result : (r : Result (List ℕ) FromHexError)
        → MatchResult r (λ bytes. (◌≡◌ {A = Result (Unit {0}) FromHexError} (Err e) (Ok tt)) × P bytes)
        (λ why. ◌≡◌ {A = Result (Unit {0}) FromHexError} (Err e) (Err why))
        → some_octets (octets_in r) ≡ Err reason.Hex
    by_result (Ok bytes) h = absurd (cc)
    by_result (Err why) h = refl

-- digits that could be read are these octets
pub hex_read : (text : List ℕ) (n : ℕ) (out : List ℕ) (u : Unit {0}) → n ≡ length text / 2
    → MatchResult (decode_sized text n)
    (λ bytes. (◌≡◌ {A = Result (Unit {0}) FromHexError} (Ok u) (Ok tt)) × (out ≡ bytes))
    (λ why. ◌≡◌ {A = Result (Unit {0}) FromHexError} (Ok u) (Err why)) → decode_of text ≡ Ok out
hex_read text n out u half reads =
    by_result (decode_of text)
    (subst (λ (r : Result (List ℕ) FromHexError).
    MatchResult r (λ bytes. (◌≡◌ {A = Result (Unit {0}) FromHexError} (Ok u) (Ok tt)) × (out ≡ bytes))
    (λ why. ◌≡◌ {A = Result (Unit {0}) FromHexError} (Ok u) (Err why))) (sized_is text n half) reads)
  where
    by_result : (r : Result (List ℕ) FromHexError)
        → MatchResult r (λ bytes. (◌≡◌ {A = Result (Unit {0}) FromHexError} (Ok u) (Ok tt)) × (out ≡ bytes))
        (λ why. ◌≡◌ {A = Result (Unit {0}) FromHexError} (Ok u) (Err why)) → r ≡ Ok out
    by_result (Ok bytes) h = ap Ok (sym h.1)
    by_result (Err why) h = absurd (cc)
