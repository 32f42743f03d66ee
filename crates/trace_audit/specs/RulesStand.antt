-- When what is kept of a trace stands for it: the legs of both ends, what was shown, and what must open. This project's
-- profile. Cited by the contract of `Rules`.
use Rattle.std.specs.Prelude.{◌≡◌, ◌↔◌, ℕ, List, Option, Some, None}
use Rattle.link_frames.specs.declared.frame.End.{End}
use Rattle.link_frames.specs.declared.frame.End.TheVariants as «end»
use Rattle.trace_model.specs.declared.entry.Entry.{Entry}
use Rattle.trace_model.specs.Safety.{OwesOpening, Safe, first_leg}
use Rattle.trace_model.specs.declared.moved.LegOf.{LegOf}
use Rattle.trace_audit.specs.declared.rules.Rules.{Rules}
use Rattle.trace_model.specs.Tallies.{last_tick}
use Rattle.trace_model.specs.LegsStand.{LegsStandFor}
use Rattle.trace_audit.specs.ShownStands.{ShownStandsFor}

-- the opening of this leg's voice is owed
abbrev pub IsOwed : Option LegOf → End → ℕ → Type 0
IsOwed None e c = ⊥
IsOwed (Some o) e c = (o.of ≡ e) × (o.call ≡ c)

-- These rules stand for these entries, which are safe up to the last of them.
pub record RulesStandFor (rules : Rules) (entries : List Entry) : Type 0 where
  pub vehicle : LegsStandFor «end».Vehicle rules.vehicle entries
  pub point : LegsStandFor «end».Point rules.point entries
  pub shown : ShownStandsFor rules.shown entries
  pub owed : (e : End) (c : ℕ) → OwesOpening e c first_leg entries ↔ IsOwed rules.owed e c
  pub safe : Safe entries (last_tick entries)
