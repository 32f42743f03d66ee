-- What `ecall replay` replies to the text of a trace: the number of its entries where it is safe, or else its first
-- line that is refused or breaks a rule. This project's profile. Cited by the reply to words and an input.
use Rattle.std.specs.Prelude.{◌≡◌, ℕ, List, [], ◌∷◌, ◌++◌, codes, decimal}
use Rattle.trace_audit.specs.Audit.{Audits}
use Rattle.trace_model.specs.Rules.{rule_number}
use Rattle.trace_model.specs.declared.rule.Rule.{Rule}
use Rattle.trace_audit.specs.declared.verdict.Verdict.{Verdict}
use Rattle.trace_audit.specs.declared.verdict.Verdict.TheVariants as verdict
use Rattle.line_input.specs.Characters.{newline}
use Rattle.trace_text.specs.EntryLine.{spaced}
use Rattle.line_input.specs.Lines.{lines_of}
use Rattle.command_base.specs.Refusals.{Reply, refusal_line}
use Rattle.command_base.specs.declared.refusal.Refused.TheVariants as refused
use Rattle.command_base.specs.declared.status.Status.{Status}
use Rattle.command_base.specs.declared.status.Status.TheVariants as status

-- the line that says that a trace is safe, and how many entries it has
abbrev pub sound_line : ℕ → List ℕ
sound_line items = codes "sound" ++ spaced (decimal items ∷ []) ++ newline ∷ []

-- the line that says which line of a trace breaks which rule
abbrev pub broken_line : ℕ → Rule → List ℕ
broken_line number rule = codes "broken" ++ spaced (decimal number ∷ decimal (rule_number rule) ∷ []) ++ newline ∷ []

-- the text of a verdict; one that isn't of the lines has none
abbrev pub verdict_text : Verdict → List ℕ
verdict_text (verdict.Sound items) = sound_line items
verdict_text (verdict.Broken number rule) = broken_line number rule
verdict_text (verdict.Bad bad) = refusal_line (refused.Line bad)
verdict_text _ = []

-- the status of a verdict
abbrev pub verdict_status : Verdict → Status
verdict_status (verdict.Sound items) = status.Done
verdict_status (verdict.Broken number rule) = status.Broken number rule
verdict_status (verdict.Bad bad) = status.Refused (refused.Line bad)
verdict_status verdict.ReadFault = status.ReadFault
verdict_status verdict.TooLong = status.TooLong
verdict_status verdict.Memory = status.Memory

-- the reply of a verdict
abbrev pub verdict_reply : Verdict → Reply
verdict_reply v = record { text = verdict_text v; status = verdict_status v }

-- the text at the end of the input
abbrev pub ClosesReplay : List ℕ → Type 0
ClosesReplay text = (items : ℕ) × (text ≡ sound_line items)

-- the reply of `replay` to an input: that of the verdict on its lines
pub record IsReplayed (input : List ℕ) (r : Reply) : Type 0 where
  pub verdict : Verdict
  pub audits : Audits (lines_of input) verdict
  pub says : r ≡ verdict_reply verdict
