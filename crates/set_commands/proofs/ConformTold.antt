-- The lines of vectors, one behind the other, as they are written.
use Rattle.std.proofs.Common.{◌≡◌, ℕ, ◌+◌, ◌*◌, ◌/◌, ◌<◌, ◌≤◌, List, [], ◌∷◌, ◌++◌, length, get_or, take, drop, Option, Result, Ok, Err, refl, sym, ap, subst, ◌∙◌, arith, append_assoc, append-nil}
use Rattle.std.specs.Prelude.{IfErr, IsOk, MatchResult, map}
use Rattle.std.specs.Result.{result_unwrap_or}
use Rattle.std.proofs.lemmas.List.{length-take, take_more, take-append-drop}
use Rattle.call_io.specs.Bytes.{Grew, GrewPartly}
use Rattle.call_io.proofs.BytesLemmas.{Grew-append, GrewPartly-after, GrewPartly-longer}
use Rattle.hex.specs.Hex.{decode_of, decode_sized}
use Rattle.hex.specs.declared.error.FromHexError.{FromHexError}
use Rattle.hex.proofs.HexLemmas.{decode_of-ok, decode_sized-twice}
use Rattle.msd_values.specs.declared.msd.Msd.{Msd}
use Rattle.msd_codec.specs.Canonical.{canonical_bits}
use Rattle.msd_codec.proofs.BothFormats.{module_is}
use Rattle.msd_codec.specs.Module.{ecall_message}
use Rattle.msd_codec.specs.Sets.{Shows}
use Rattle.msd_codec.specs.Trees.{tree}
use Rattle.msd_codec.specs.declared.writing.TooLong.{TooLong}
use Rattle.set_commands.specs.Conform.{octets_of_text}
use Rattle.set_commands.specs.inner.ConformLines.{lines_from, vector_line}
use Rattle.set_commands.proofs.Shortest.{shown_fits}

-- ---- one vector

-- the octets into which hexadecimal was decoded, at the front of room for those of a set
pub text_octets : (text out room : List ℕ) (r : Result (Unit {0}) FromHexError) → IsOk (decode_of text)
    → length text ≤ 280 → length room ≡ 140
    → MatchResult (decode_sized text (length (take (length text / 2) room))) (λ bytes. (r ≡ Ok tt) × (out ≡ bytes))
    (λ e. r ≡ Err e)
    → out ≡ octets_of_text text
text_octets text out room r ok short long written =
    by_octets (length (take (length text / 2) room)) (omega (arith, length-take (length text / 2) room))
    (decode_of text) refl ok written
  where
    by_octets : (n : ℕ) → n ≡ length text / 2 → (d : Result (List ℕ) FromHexError) → decode_of text ≡ d → IsOk d
        → MatchResult (decode_sized text n) (λ bytes. (r ≡ Ok tt) × (out ≡ bytes)) (λ e. r ≡ Err e)
        → out ≡ octets_of_text text
    by_octets n half (Ok bytes) e h w =
        let digits : length text ≡ 2 * length bytes = (decode_of-ok text bytes e).2 in
        let sized : decode_sized text n ≡ Ok bytes = decode_sized-twice text n (omega arith) ∙ e in
        let same : (r ≡ Ok tt) × (out ≡ bytes) =
        subst (λ (x : Result (List ℕ) FromHexError). MatchResult x (λ b. (r ≡ Ok tt) × (out ≡ b)) (λ e. r ≡ Err e))
        sized w in
        same.1 ∙ sym (ap (λ (x : Result (List ℕ) FromHexError). result_unwrap_or x []) e)
    by_octets n half (Err x) e h w = absurd (cc h)

-- a set that some octets show is encoded
pub is_encoded : {X : Type 0} (octets : List ℕ) (msd : Msd) (r : Result X TooLong) → Shows octets msd
    → IfErr r (λ e. (e.bits ≡ length (canonical_bits (ecall_message msd.format) (tree msd))) × (1120 < e.bits)) → IsOk r
is_encoded octets msd (Ok x) shows long = refl
is_encoded octets msd (Err e) shows long =
    absurd (omega (
      arith,
      long.0,
      long.1,
      shown_fits octets (tree msd) shows,
      ap (λ t. length (canonical_bits t (tree msd))) (module_is msd),
    ))

-- ---- one line behind the other

pub lines_append : {X : Type 0} (f : X → List ℕ) (number : ℕ) (xs ys : List X)
    → lines_from number (map f (xs ++ ys)) ≡ lines_from number (map f xs) ++ lines_from (number + length xs) (map f ys)
lines_append f number [] ys = let e : number ≡ number + 0 = omega arith in ap (λ n. lines_from n (map f ys)) e
lines_append {X} f number (x ∷ xs) ys =
    let line = vector_line number (octets_of_text (f x)) in
    let e : number + 1 + length xs ≡ number + length (x ∷ xs) = omega arith in
    ap (λ (l : List ℕ). line ++ l) (lines_append f (number + 1) xs ys)
    ∙ ap (λ n. line ++ (lines_from (number + 1) (map f xs) ++ lines_from n (map f ys))) e
    ∙ sym (append_assoc line (lines_from (number + 1) (map f xs)) (lines_from (number + length (x ∷ xs)) (map f ys)))

-- one line more
pub lines_more : {X : Type 0} (f : X → List ℕ) (xs : List X) (i : ℕ) (d : X) → i < length xs
    → lines_from 1 (map f (take (i + 1) xs))
    ≡ lines_from 1 (map f (take i xs)) ++ vector_line (i + 1) (octets_of_text (f (get_or xs i d)))
lines_more {X} f xs i d inside =
    let long : 1 + length (take i xs) ≡ i + 1 = omega (arith, length-take i xs) in
    let x = get_or xs i d in
    let front = lines_from 1 (map f (take i xs)) in
    ap (λ (l : List X). lines_from 1 (map f l)) (take_more xs i d inside)
    ∙ lines_append f 1 (take i xs) (x ∷ [])
    ∙ ap (λ n. front ++ lines_from n (map f (x ∷ []))) long
    ∙ ap (λ (l : List ℕ). front ++ l) (append-nil (vector_line (i + 1) (octets_of_text (f x))))

-- the sink has grown by one line more
pub grown_more : {X : Type 0} (f : X → List ℕ) (xs : List X) (i : ℕ) (d : X) (start held next : Option (List ℕ))
    (line : List ℕ) → i < length xs → Grew start held (lines_from 1 (map f (take i xs)))
    → line ≡ vector_line (i + 1) (octets_of_text (f (get_or xs i d))) → Grew held next line
    → Grew start next (lines_from 1 (map f (take (i + 1) xs)))
grown_more f xs i d start held next line inside before says grown =
    subst (Grew start next)
    (ap (λ (l : List ℕ). lines_from 1 (map f (take i xs)) ++ l) says ∙ sym (lines_more f xs i d inside))
    (Grew-append start held next (lines_from 1 (map f (take i xs))) line before grown)

-- a part of one line more is a part of all lines
pub grown_partly : {X : Type 0} (f : X → List ℕ) (xs : List X) (i : ℕ) (d : X) (start held next : Option (List ℕ))
    (line : List ℕ) → i < length xs → Grew start held (lines_from 1 (map f (take i xs)))
    → line ≡ vector_line (i + 1) (octets_of_text (f (get_or xs i d))) → GrewPartly held next line
    → GrewPartly start next (lines_from 1 (map f xs))
grown_partly {X} f xs i d start held next line inside before says grown =
    let front = lines_from 1 (map f (take i xs)) in
    let rest = lines_from (1 + length (take (i + 1) xs)) (map f (drop (i + 1) xs)) in
    let all : (front ++ line) ++ rest ≡ lines_from 1 (map f xs) =
    ap (λ (l : List ℕ). (front ++ l) ++ rest) says
    ∙ ap (λ (l : List ℕ). l ++ rest) (sym (lines_more f xs i d inside))
    ∙ sym (lines_append f 1 (take (i + 1) xs) (drop (i + 1) xs))
    ∙ ap (λ (l : List X). lines_from 1 (map f l)) (take-append-drop (i + 1) xs) in
    subst (GrewPartly start next) all
    (GrewPartly-longer start next (front ++ line) rest (GrewPartly-after start held next front line before grown))
