-- Where an audit stands between two lines, and what one more line comes to. This project's profile. Cited by the
-- contracts of the private functions of `audit`.
use Rattle.std.specs.Prelude.{◌≡◌, ℕ, ◌<◌, ◌≤◌, List, [], ◌∷◌, ◌++◌, length, Option, Some, None, Result, Ok, Err}
use Rattle.std.specs.List.{AllByRecursion}
use Rattle.trace_model.specs.declared.entry.Entry.{Entry}
use Rattle.line_input.specs.declared.fault.LineFault.{LineFault}
use Rattle.line_input.specs.declared.fault.LineFault.TheVariants as fault
use Rattle.line_input.specs.declared.reason.Reason.{Reason}
use Rattle.line_input.specs.declared.reason.Reason.TheVariants as reason
use Rattle.line_input.specs.Lines.{most_bytes}
use Rattle.line_input.specs.Reading.{Reading}
use Rattle.line_input.specs.Taken.{LinesSoFar}
use Rattle.trace_audit.specs.Audit.{IsUnrefused, NeverFall, entries_of, line_says}
use Rattle.trace_audit.specs.declared.audit_lines.Heard.{Heard}
use Rattle.trace_audit.specs.declared.verdict.Verdict.{Verdict}
use Rattle.trace_audit.specs.declared.verdict.Verdict.TheVariants as verdict
use Rattle.trace_model.specs.Tallies.{last_tick}
use Rattle.trace_audit.specs.Judged.{Judges}
use Rattle.trace_audit.specs.Outcome.{Outcome}
use Rattle.trace_audit.specs.RulesStand.{RulesStandFor}

-- What is kept stands for these entries, whose ticks never fall.
pub record HeardStandsFor (heard : Heard) (entries : List Entry) : Type 0 where
  pub rules : RulesStandFor heard.rules entries
  pub tick : heard.tick ≡ last_tick entries
  pub items : heard.items ≡ length entries
  pub order : NeverFall entries

-- what one more entry comes to: it is taken, its tick falls, or it breaks a rule
abbrev pub Hears : List Entry → (number : ℕ) → Entry → Heard → Option Verdict → Type 0
Hears before number x heard' None = (last_tick before ≤ x.tick) × HeardStandsFor heard' (before ++ x ∷ [])
Hears before number x heard' (Some (verdict.Bad bad)) =
    (x.tick < last_tick before) × (bad ≡ record { line = number; reason = reason.Number })
Hears before number x heard' (Some (verdict.Broken line rule)) =
    (line ≡ number) × (last_tick before ≤ x.tick) × Judges (before ++ x ∷ []) x.tick (Some rule)
Hears before number x heard' (Some verdict.Memory) = Unit {0}
Hears before number x heard' (Some _) = ⊥

-- what one more line comes to, by what it says
abbrev pub HearsLine : List Entry → (number : ℕ) → Result Entry Reason → Heard → Option Verdict → Type 0
HearsLine before number (Ok x) heard' answer = Hears before number x heard' answer
HearsLine before number (Err why) heard' answer =
    answer ≡ Some (verdict.Bad (record { line = number; reason = why }))

-- an answer to a line: none, or a verdict on it, or want of memory
abbrev pub IsOfLine : Option Verdict → Type 0
IsOfLine None = Unit {0}
IsOfLine (Some (verdict.Bad bad)) = Unit {0}
IsOfLine (Some (verdict.Broken line rule)) = Unit {0}
IsOfLine (Some verdict.Memory) = Unit {0}
IsOfLine (Some _) = ⊥

-- the verdict where there is no further line
abbrev pub verdict_of : LineFault → Verdict
verdict_of (fault.Bad bad) = verdict.Bad bad
verdict_of fault.ReadFault = verdict.ReadFault
verdict_of fault.TooLong = verdict.TooLong

-- None of the lines so far was refused, and what is kept stands for their entries.
pub record Standing (start now : Option (List ℕ)) (reading : Reading) (heard : Heard) : Type 0 where
  pub lines : List (List ℕ)
  pub so_far : LinesSoFar start now reading lines
  pub each : AllByRecursion (λ text. IsUnrefused (line_says text)) lines
  pub stands : HeardStandsFor heard (entries_of lines)

-- what a turn comes to: the audit stands behind one more line, or it ended with this outcome
abbrev pub Turn : (start now : Option (List ℕ)) → (old new : Reading) → Heard → Option Verdict → Type 0
Turn start now old new heard' None = Standing start now new heard' × (old.lines < new.lines) × (new.lines ≤ most_bytes)
Turn start now old new heard' (Some answer) = Outcome start now answer
