-- What the fact lines of a floor's script said so far, by vehicle. This project's profile. Cited by the contracts of
-- `Drafts`, and by the reply of `ecall floor`.
use Rattle.std.specs.Prelude.{◌≡◌, ℕ, ◌==◌, Bool, true, false, List, [], ◌∷◌, ◌++◌, map, if◌then◌else◌}
use Rattle.std.specs.List.{AllByRecursion}
use Rattle.trace_text.specs.Drafts.{DraftOf}
use Rattle.trace_text.specs.declared.draft.Draft.{Draft}
use Rattle.trace_text.specs.declared.fact_line.FactLine.{FactLine}
use Rattle.floor_text.specs.VehicleNumbers.{IsVehicle}
use Rattle.floor_text.specs.declared.drafts.Drafts.{Drafts}

-- A vehicle, and its fact lines in order.
pub record VehicleFacts : Type 0 where
  pub number : ℕ
  pub lines : List FactLine

-- with one line more of a vehicle; vehicles stand in the order of their first lines
abbrev pub with_fact : ℕ → FactLine → List VehicleFacts → List VehicleFacts
with_fact v f [] = record { number = v; lines = f ∷ [] } ∷ []
with_fact v f (k ∷ ks) =
    if k.number == v then record { number = k.number; lines = k.lines ++ f ∷ [] } ∷ ks else k ∷ with_fact v f ks

-- the fact lines of a vehicle; none where it has none
abbrev pub lines_for : ℕ → List VehicleFacts → List FactLine
lines_for v [] = []
lines_for v (k ∷ ks) = if k.number == v then k.lines else lines_for v ks

-- whether a vehicle has a fact line
abbrev pub has_facts : ℕ → List VehicleFacts → Bool
has_facts v [] = false
has_facts v (k ∷ ks) = if k.number == v then true else has_facts v ks

-- ---- the drafts that are kept

-- each draft is of these lines
abbrev pub AreDrafts : List Draft → List VehicleFacts → Type 0
AreDrafts [] [] = Unit {0}
AreDrafts [] (k ∷ ks) = ⊥
AreDrafts (d ∷ ds) [] = ⊥
AreDrafts (d ∷ ds) (k ∷ ks) = DraftOf d k.lines × AreDrafts ds ks

-- The drafts are those of these vehicles, which each have a number in range.
pub record DraftsStandFor (drafts : Drafts) (known : List VehicleFacts) : Type 0 where
  pub numbers : drafts.numbers.items ≡ map (λ k. k.number) known
  pub drafts_are : AreDrafts drafts.drafts.items known
  pub ranged : AllByRecursion (λ k. IsVehicle k.number) known
