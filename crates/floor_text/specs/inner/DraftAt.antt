-- What one more fact line makes of the drafts. Cited by the contracts of private functions of `Drafts`.
use Rattle.std.specs.Prelude.{◌≡◌, ℕ, not, Bool, true, List, [], ◌∷◌, ◌++◌, set}
use Rattle.trace_text.specs.Drafts.{DraftOf}
use Rattle.trace_text.specs.Facts.{is_one_too_many}
use Rattle.trace_text.specs.declared.draft.Draft.{Draft}
use Rattle.trace_text.specs.declared.fact_line.FactLine.{FactLine}

-- The draft at this place took a line, or had no room for it.
pub record AddsAt (place : ℕ) (old new : List Draft) (lines : List FactLine) (f : FactLine) (room : Bool) : Type 0 where
  pub answer : room ≡ not (is_one_too_many lines f)
  pub draft : Draft
  pub put : new ≡ set old place draft
  pub taken : room ≡ true → DraftOf draft (lines ++ f ∷ [])

-- A draft of this one line stands behind the others.
pub record IsBehind (old new : List Draft) (f : FactLine) : Type 0 where
  pub draft : Draft
  pub behind : new ≡ old ++ draft ∷ []
  pub first : DraftOf draft (f ∷ [])
