-- Which rule a trace breaks, if it breaks one. This project's profile. Cited by the contracts of `Rules` and `audit`.
use Rattle.std.specs.Prelude.{ℕ, List, Option, Some, None}
use Rattle.trace_model.specs.declared.entry.Entry.{Entry}
use Rattle.trace_model.specs.Safety.{Agreed, Bounded, Opened, Safe}
use Rattle.trace_model.specs.declared.rule.Rule.{Rule}
use Rattle.trace_model.specs.declared.rule.Rule.TheVariants as rule

-- These entries are safe up to this tick, or they break this rule up to it, and none that is named before it.
abbrev pub Judges : List Entry → (now : ℕ) → Option Rule → Type 0
Judges entries now None = Safe entries now
Judges entries now (Some rule.Agreed) = Agreed entries → ⊥
Judges entries now (Some rule.Opened) = Agreed entries × (Opened entries → ⊥)
Judges entries now (Some rule.Bounded) = Agreed entries × Opened entries × (Bounded entries now → ⊥)
