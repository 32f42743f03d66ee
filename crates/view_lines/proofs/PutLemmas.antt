-- What was put behind a text, told of all that was handed on and that text.
use Rattle.std.proofs.Common.{◌≡◌, ℕ, ◌||◌, Bool, List, [], ◌++◌, sym, ap, subst, ◌∙◌, append_assoc}
use Rattle.view_lines.specs.Told.{IsInputTold, AreTold, Puts, Told}
use Rattle.line_input.specs.Lines.{lines_of}
use Rattle.view_lines.proofs.ToldLemmas.{same_told}

-- the text that comes behind, and whether anything is refused
abbrev pub put_told : (tells : Told → Type 0) (old new : List ℕ) (refused : Bool) → Puts tells old new refused → Told
put_told tells old new refused puts = record { text = puts.text; refused = refused }

pub put_behind : (tells : Told → Type 0) (handed old new : List ℕ) (refused : Bool) (puts : Puts tells old new refused)
    → (handed ++ old) ++ puts.text ≡ handed ++ new
put_behind tells handed old new refused puts =
    append_assoc handed old puts.text ∙ ap (λ (z : List ℕ). handed ++ z) (sym puts.grew)

-- the end behind all lines
pub end_put : (tells : List (List ℕ) → List ℕ → Told → Type 0) (ends : List (List ℕ) → Told → Type 0)
    (front handed old new : List ℕ) (any refused now : Bool) → now ≡ any || refused
    → AreTold tells [] (lines_of front) (record { text = handed ++ old; refused = any })
    → Puts (ends (lines_of front)) old new refused
    → IsInputTold tells ends front (record { text = handed ++ new; refused = now })
end_put tells ends front handed old new any refused now is told puts = record {
  of_lines = record { text = handed ++ old; refused = any };
  lines = told;
  of_end = record { text = puts.text; refused = refused };
  «end» = puts.told;
  says = same_told (handed ++ new) ((handed ++ old) ++ puts.text) now (any || refused)
      (sym (put_behind (ends (lines_of front)) handed old new refused puts)) is;
}
