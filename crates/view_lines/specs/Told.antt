-- What is told of the lines of an input, by what is told of one line behind those before it, and of the end behind them
-- all. This project's profile. Cited by `LineTeller` and by the outcome of telling an input.
use Rattle.std.specs.Prelude.{◌≡◌, ℕ, Bool, false, ◌||◌, List, [], ◌∷◌, ◌++◌}
use Rattle.line_input.specs.Lines.{lines_of}

-- a text, and whether anything in it says that a line is refused, or that something is wrong
pub record Told : Type 0 where
  pub text : List ℕ
  pub refused : Bool

abbrev pub nothing_told : Told
nothing_told = record { text = []; refused = false }

-- one behind the other
abbrev pub told_then : Told → Told → Told
told_then first second = record { text = first.text ++ second.text; refused = first.refused || second.refused }

-- what is told of these lines, behind those before them
abbrev pub AreTold :
    (tells : List (List ℕ) → List ℕ → Told → Type 0) → (before lines : List (List ℕ)) → Told → Type 0
AreTold tells before [] t = t ≡ nothing_told
AreTold tells before (line ∷ lines) t =
    (first rest : Told) × tells before line first × AreTold tells (before ++ line ∷ []) lines rest
    × (t ≡ told_then first rest)

-- What is told of a whole input: of each of its lines in order, and then of the end.
pub record IsInputTold (tells : List (List ℕ) → List ℕ → Told → Type 0) (ends : List (List ℕ) → Told → Type 0)
    (input : List ℕ) (t : Told) : Type 0 where
  pub of_lines : Told
  pub lines : AreTold tells [] (lines_of input) of_lines
  pub of_end : Told
  pub «end» : ends (lines_of input) of_end
  pub says : t ≡ told_then of_lines of_end

-- What is told came behind a text.
pub record Puts (tells : Told → Type 0) (old new : List ℕ) (refused : Bool) : Type 0 where
  pub text : List ℕ
  pub told : tells (record { text = text; refused = refused })
  pub grew : new ≡ old ++ text
