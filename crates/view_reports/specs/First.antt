-- The first line that a report says is wrong, where it judges both ends: as the verdict of an audit. This project's
-- profile. Cited by `report_laws`.
use Rattle.std.specs.Prelude.{ℕ, ◌+◌, List, [], ◌∷◌, length, Option, Some, None, Result, Ok, Err}
use Rattle.std.specs.Option.{option_or, unwrap_or}
use Rattle.line_input.specs.declared.reason.Reason.{Reason}
use Rattle.trace_audit.specs.Audit.{entries_of}
use Rattle.trace_audit.specs.declared.verdict.Verdict.{Verdict}
use Rattle.trace_audit.specs.declared.verdict.Verdict.TheVariants as verdict
use Rattle.trace_model.specs.declared.entry.Entry.{Entry}
use Rattle.view_reports.specs.BreakTexts.{rule_of}
use Rattle.view_reports.specs.Told.{watch_after}
use Rattle.view_reports.specs.Watch.{breaks_at, no_watch}
use Rattle.view_reports.specs.declared.breaks.Break.{Break}
use Rattle.view_reports.specs.declared.watch.Watch.{Watch}
use Rattle.view_traces.specs.Told.{judged_entry, tick_after}

-- what is told of the line of this number first: the rule of the first of its breaks
abbrev pub first_rule : (number : ℕ) → List Break → Option Verdict
first_rule number [] = None
first_rule number (b ∷ bs) = Some (verdict.Broken number (rule_of b))

-- what is told of it, by what is kept of the lines before and by what is read in it
abbrev pub line_verdict : Watch → (number : ℕ) → Result (Option Entry) Reason → Option Verdict
line_verdict w number (Err why) = Some (verdict.Bad (record { line = number; reason = why }))
line_verdict w number (Ok None) = None
line_verdict w number (Ok (Some entry)) = first_rule number (breaks_at w entry.note entry.tick)

-- what is told first of these lines, of which the first has this number, behind what was kept and an entry of this tick
abbrev pub first_from : (tick number : ℕ) → Watch → List (List ℕ) → Option Verdict
first_from tick number w [] = None
first_from tick number w (line ∷ lines) =
    option_or (line_verdict w number (judged_entry tick line))
    (first_from (tick_after tick (judged_entry tick line)) (number + 1) (watch_after w number (judged_entry tick line))
    lines)

-- what is told first of these lines
abbrev pub first_told : List (List ℕ) → Option Verdict
first_told lines = first_from 0 1 no_watch lines

-- the verdict that a report of these lines comes to: what it tells first, or that nothing in them is wrong
abbrev pub reported_verdict : List (List ℕ) → Verdict
reported_verdict lines = unwrap_or (first_told lines) (verdict.Sound (length (entries_of lines)))
