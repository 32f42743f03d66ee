-- Where a teller stands within its input: which of its lines were told, and what it keeps of the line that isn't ended.
-- Scaffolding: cited by the contracts of private functions alone.
use Rattle.std.specs.Prelude.{◌≡◌, ℕ, ◌+◌, ◌≤◌, ◌||◌, Bool, List, [], ◌∷◌, ◌++◌, length, take}
use Rattle.std.specs.List.{AllByRecursion}
use Rattle.line_input.specs.Feed.{IsInner}
use Rattle.line_input.specs.Lines.{lines_of}
use Rattle.view_lines.specs.Fault.{most_kept}
use Rattle.view_lines.specs.Told.{AreTold, Puts, Told}
use Rattle.view_lines.specs.declared.teller.Teller.{Teller}

-- Behind a front of the input: of its whole lines this text was told in all, and this is kept of the part behind them.
pub record StandsAt (tells : List (List ℕ) → List ℕ → Told → Type 0) (heard : List (List ℕ) → Type 0)
    (front text kept : List ℕ) (number : ℕ) (refused : Bool) : Type 0 where
  pub lines : List (List ℕ)
  pub part : List ℕ
  pub inner : AllByRecursion IsInner part
  pub split : (more : List ℕ) → lines_of (front ++ more) ≡ lines ++ lines_of (part ++ more)
  pub few : length lines ≤ length front
  pub keeps : kept ≡ take most_kept part
  pub counts : number ≡ length lines
  pub told : AreTold tells [] lines (record { text = text; refused = refused })
  pub hears : heard lines

-- the same of a teller whose text comes behind what was handed on
abbrev pub Stands : {T : Type 0} → (tells : List (List ℕ) → List ℕ → Told → Type 0)
    → (heard : T → List (List ℕ) → Type 0) → (front handed : List ℕ) → Teller T → Type 0
Stands tells heard front handed teller =
    StandsAt tells (heard teller.lines) front (handed ++ teller.text.items) teller.kept.items teller.ended
    teller.refused

-- The line goes on with these bytes.
pub record GoesOn {T : Type 0} (old new : Teller T) (run : List ℕ) : Type 0 where
  pub text : new.text.items ≡ old.text.items
  pub kept : new.kept.items ≡ take most_kept (old.kept.items ++ run)
  pub ended : new.ended ≡ old.ended
  pub refused : new.refused ≡ old.refused
  pub lines : new.lines ≡ old.lines

-- one more line behind these was told and heard
abbrev pub HearsLine : (tells : List (List ℕ) → List ℕ → Told → Type 0) → (heard : List (List ℕ) → Type 0)
    → (before : List (List ℕ)) → (line old new : List ℕ) → Bool → Type 0
HearsLine tells heard before line old new refused =
    Puts (tells before line) old new refused × heard (before ++ line ∷ [])

-- The line that is kept is told, and nothing is kept behind it.
pub record TellsLine {T : Type 0} (tells : List (List ℕ) → List ℕ → Told → Type 0)
    (heard : T → List (List ℕ) → Type 0) (old new : Teller T) : Type 0 where
  pub refused : Bool
  pub hears : (before : List (List ℕ)) (line : List ℕ) → heard old.lines before → old.ended ≡ length before
      → old.kept.items ≡ take most_kept line
      → HearsLine tells (heard new.lines) before line old.text.items new.text.items refused
  pub ended : new.ended ≡ old.ended + 1
  pub any : new.refused ≡ old.refused || refused
  pub kept : new.kept.items ≡ []

-- All lines of an input were told and heard, the last one too.
pub record EndsInput {T : Type 0} (tells : List (List ℕ) → List ℕ → Told → Type 0)
    (heard : T → List (List ℕ) → Type 0) (front handed : List ℕ) (new : Teller T) : Type 0 where
  pub told : AreTold tells [] (lines_of front) (record { text = handed ++ new.text.items; refused = new.refused })
  pub hears : heard new.lines (lines_of front)
