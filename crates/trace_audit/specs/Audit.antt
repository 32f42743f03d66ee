-- What an audit says of the lines of a trace: over each front of them, whether every line is an entry, whether ticks
-- never fall, and whether the entries are safe. This project's profile. Cited by the contracts of `audit` and
-- `audit_laws`.
use Rattle.std.specs.Prelude.{◌≡◌, ◌≤◌, ◌<◌, ◌+◌, ◌⊎◌, ℕ, List, [], ◌∷◌, ◌++◌, length, Option, Some, None, Result, Ok, Err, if◌then◌else◌}
use Rattle.std.specs.List.{AllByRecursion}
use Rattle.trace_model.specs.declared.entry.Entry.{Entry}
use Rattle.line_input.specs.declared.reason.Reason.{Reason}
use Rattle.line_input.specs.declared.reason.Reason.TheVariants as reason
use Rattle.trace_text.specs.EntryLines.{entry_of}
use Rattle.line_input.specs.Lines.{line_fault, is_comment}
use Rattle.trace_model.specs.Safety.{Safe}
use Rattle.trace_model.specs.declared.rule.Rule.{Rule}
use Rattle.trace_audit.specs.declared.verdict.Verdict.{Verdict}
use Rattle.trace_audit.specs.declared.verdict.Verdict.TheVariants as verdict
use Rattle.trace_model.specs.Tallies.{last_tick}
use Rattle.trace_audit.specs.Judged.{Judges}

abbrev pub some_entry : Result Entry Reason → Result (Option Entry) Reason
some_entry (Ok x) = Ok (Some x)
some_entry (Err why) = Err why

-- what a line says: an entry, or nothing where it is passed over; or why it is refused
abbrev pub line_says : List ℕ → Result (Option Entry) Reason
line_says text = elim (line_fault text) [
  | Some why ↦ Err why
  | None ↦ if is_comment text then Ok None else some_entry (entry_of text)
]

abbrev pub in_front : Result (Option Entry) Reason → List Entry → List Entry
in_front (Ok (Some x)) xs = x ∷ xs
in_front (Ok None) xs = xs
in_front (Err why) xs = xs

-- the entries that lines say, in order
abbrev pub entries_of : List (List ℕ) → List Entry
entries_of [] = []
entries_of (text ∷ texts) = in_front (line_says text) (entries_of texts)

abbrev pub IsUnrefused : Result (Option Entry) Reason → Type 0
IsUnrefused (Ok says) = Unit {0}
IsUnrefused (Err why) = ⊥

-- ticks never fall
abbrev pub NeverFall : List Entry → Type 0
NeverFall [] = Unit {0}
NeverFall (x ∷ []) = Unit {0}
NeverFall (x ∷ y ∷ xs) = (x.tick ≤ y.tick) × NeverFall (y ∷ xs)

-- These lines are a trace: none is refused, and ticks never fall.
pub record IsTrace (lines : List (List ℕ)) : Type 0 where
  pub each : AllByRecursion (λ text. IsUnrefused (line_says text)) lines
  pub order : NeverFall (entries_of lines)

-- They are a trace that is safe up to its last tick.
pub record IsSafeTrace (lines : List (List ℕ)) : Type 0 where
  pub trace : IsTrace lines
  pub safe : Safe (entries_of lines) (last_tick (entries_of lines))

-- A line behind these is refused: it is no entry, or its tick is below that of the entry before.
abbrev pub IsRefused : (front : List (List ℕ)) → (text : List ℕ) → Reason → Type 0
IsRefused front text why =
    (line_says text ≡ Err why)
    ⊎ ((x : Entry) × (line_says text ≡ Ok (Some x)) × (x.tick < last_tick (entries_of front)) × (why ≡ reason.Number))

-- A line behind these breaks a rule, and none that is named before that rule.
pub record IsBroken (front : List (List ℕ)) (text : List ℕ) (rule : Rule) : Type 0 where
  pub trace : IsTrace (front ++ text ∷ [])
  pub broken : Judges (entries_of (front ++ text ∷ [])) (last_tick (entries_of (front ++ text ∷ []))) (Some rule)

-- The line of this number is the first of which this holds: those in front of it are a safe trace.
pub record IsFirst (lines : List (List ℕ)) (number : ℕ) (Is : List (List ℕ) → List ℕ → Type 0) : Type 0 where
  pub front : List (List ℕ)
  pub text : List ℕ
  pub rest : List (List ℕ)
  pub split : lines ≡ front ++ text ∷ rest
  pub place : number ≡ length front + 1
  pub safe : IsSafeTrace front
  pub is : Is front text

-- what is said of the lines of a trace; nothing by an answer that isn't of the lines
abbrev pub Audits : List (List ℕ) → Verdict → Type 0
Audits lines (verdict.Sound items) = IsSafeTrace lines × (items ≡ length (entries_of lines))
Audits lines (verdict.Broken line rule) = IsFirst lines line (λ front text. IsBroken front text rule)
Audits lines (verdict.Bad bad) = IsFirst lines bad.line (λ front text. IsRefused front text bad.reason)
Audits lines _ = ⊥
