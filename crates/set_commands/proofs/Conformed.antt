-- There is one text that `conform` writes.
use Rattle.std.proofs.Common.{◌≡◌, ℕ, ◌+◌, ◌++◌, ◌⊎◌, ◌∷◌, List, [], Result, Ok, Err, refl, sym, ap, ◌∙◌, inl, inr}
use Rattle.std.specs.Prelude.{map}
use Rattle.std.specs.Result.{result_unwrap_or}
use Rattle.hex.specs.Hex.{decode_of}
use Rattle.hex.specs.declared.error.FromHexError.{FromHexError}
use Rattle.hex.proofs.HexLemmas.{decode_of-ok}
use Rattle.per_bits.specs.Parts.{AreOctets}
use Rattle.per_bits.proofs.Octets.{are_octets}
use Rattle.per_bits.specs.declared.refusals.Refusal.{Refusal}
use Rattle.per_types.specs.Types.{Tree}
use Rattle.msd_values.specs.declared.msd.Msd.{Msd}
use Rattle.msd_codec.specs.Reading.{reading_of}
use Rattle.msd_codec.specs.Sets.{Shows, StopsAt}
use Rattle.msd_codec.proofs.SetLaws.{decided, shows_read, stops_read}
use Rattle.msd_codec.specs.Trees.{tree}
use Rattle.set_commands.specs.Conform.{AreVectorLines, IsConformed, IsVectorLine, numbered_line, octets_of_text, vector_texts}
use Rattle.set_commands.specs.inner.ConformLines.{answer_words, lines_from, vector_line}

-- what a text has in hexadecimal are octets
text_is_octets : (text : List ℕ) → AreOctets (octets_of_text text)
text_is_octets text = by_octets (decode_of text) refl
  where
    by_octets : (d : Result (List ℕ) FromHexError) → decode_of text ≡ d → AreOctets (result_unwrap_or d [])
    by_octets (Ok octets) e = are_octets octets (decode_of-ok text octets e).3
    by_octets (Err x) e = tt

-- ---- the line of a vector

-- the line by how its octets read
line_by : (number : ℕ) (octets : List ℕ) (answer : Result Tree Refusal) → answer ≡ reading_of octets
    → vector_line number octets ≡ numbered_line number (answer_words answer)
unfolding vector_line
line_by number octets answer e = ap (λ a. numbered_line number (answer_words a)) (sym e)

-- each vector has its line
line_is : (number : ℕ) (octets : List ℕ) → AreOctets octets → IsVectorLine number octets (vector_line number octets)
line_is number octets small = by_set (decided octets small)
  where
    by_set : ((msd : Msd) × Shows octets msd) ⊎ ((refusal : Refusal) × StopsAt octets refusal)
        → IsVectorLine number octets (vector_line number octets)
    by_set (inl s) =
        inl (record {
          msd = s.0;
          shown = s.1;
          says = line_by number octets (Ok (tree s.0)) (shows_read octets (tree s.0) s.1);
        })
    by_set (inr s) =
        inr (record {
          refusal = s.0;
          stops = s.1;
          says = line_by number octets (Err s.0) (stops_read octets s.0 s.1);
        })

-- and no other
line_one : (number : ℕ) (octets line : List ℕ) → IsVectorLine number octets line → line ≡ vector_line number octets
line_one number octets line (inl s) =
    s.says ∙ sym (line_by number octets (Ok (tree s.msd)) (shows_read octets (tree s.msd) s.shown))
line_one number octets line (inr s) =
    s.says ∙ sym (line_by number octets (Err s.refusal) (stops_read octets s.refusal s.stops))

-- ---- the lines of all vectors

lines_are : (number : ℕ) (texts : List (List ℕ))
    → AreVectorLines number (map octets_of_text texts) (lines_from number texts)
lines_are number [] = refl
lines_are number (text ∷ texts) = (
  vector_line number (octets_of_text text),
  lines_from (number + 1) texts,
  line_is number (octets_of_text text) (text_is_octets text),
  lines_are (number + 1) texts,
  refl,
)

lines_one : (number : ℕ) (texts : List (List ℕ)) (text : List ℕ)
    → AreVectorLines number (map octets_of_text texts) text → text ≡ lines_from number texts
lines_one number [] text s = s
lines_one number (first ∷ texts) text s =
    s.4 ∙ ap (λ (l : List ℕ). l ++ s.1) (line_one number (octets_of_text first) s.0 s.2)
    ∙ ap (λ (l : List ℕ). vector_line number (octets_of_text first) ++ l) (lines_one (number + 1) texts s.1 s.3)

-- ---- the text of `conform`

pub is_conformed : IsConformed (lines_from 1 vector_texts)
is_conformed = lines_are 1 vector_texts

-- there is one
pub conformed_some : (text : List ℕ) × IsConformed text
conformed_some = (lines_from 1 vector_texts, is_conformed)

-- and no other
pub conformed_one : (a b : List ℕ) → IsConformed a → IsConformed b → a ≡ b
conformed_one a b h k = lines_one 1 vector_texts a h ∙ sym (lines_one 1 vector_texts b k)
