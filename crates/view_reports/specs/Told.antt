-- What is told of a line of a trace, and of its end, in a report. This project's profile. What a line says is what
-- `ecall replay` reads in it; the lines behind one that is refused are judged as if it weren't there. Cited by
-- `report_trace`.
use Rattle.std.specs.Prelude.{◌≡◌, ℕ, ◌+◌, ◌++◌, Bool, true, false, List, [], ◌∷◌, codes, decimal, length, Option, Some, None, Result, Ok, Err, if◌then◌else◌}
use Rattle.std.specs.List.{concat}
use Rattle.line_input.specs.ReasonCode.{reason_code}
use Rattle.line_input.specs.declared.reason.Reason.{Reason}
use Rattle.link_frames.specs.declared.frame.End.{End}
use Rattle.trace_model.specs.Safety.{same_end}
use Rattle.trace_model.specs.declared.entry.Entry.{Entry}
use Rattle.view_lines.specs.Refused.{line_refusal_object}
use Rattle.view_lines.specs.Told.{Told, nothing_told, told_then}
use Rattle.view_reports.specs.BreakTexts.{break_object, break_sentence}
use Rattle.view_reports.specs.Calls.{CallRows}
use Rattle.view_reports.specs.EndTexts.{call_object, call_sentence, set_object, set_sentence}
use Rattle.view_reports.specs.Sets.{SetRows}
use Rattle.view_reports.specs.Watch.{breaks_at, no_watch, watch_behind}
use Rattle.view_reports.specs.declared.breaks.Break.{Break}
use Rattle.view_reports.specs.declared.breaks.Break.TheVariants as broken
use Rattle.view_reports.specs.declared.call.Call.{Call}
use Rattle.view_reports.specs.declared.handled.SetOf.{SetOf}
use Rattle.view_reports.specs.declared.manner.Layout.{Layout}
use Rattle.view_reports.specs.declared.manner.Layout.TheVariants as layout
use Rattle.view_reports.specs.declared.manner.Manner.{Manner}
use Rattle.view_reports.specs.declared.times.Times.{Times}
use Rattle.view_reports.specs.declared.watch.Watch.{Watch}
use Rattle.view_traces.specs.Told.{judged_entry, tick_after, tick_behind}

-- of one end alone rules 2 and 3 are judged, at that end: whether a set was shown its log can't tell
abbrev pub is_judged : Option End → Break → Bool
is_judged None b = true
is_judged (Some e) (broken.Unshown c) = false
is_judged (Some e) (broken.Unopened f c muted) = same_end e f
is_judged (Some e) (broken.Soon f c opened) = same_end e f
is_judged (Some e) (broken.Long f c muted) = same_end e f

abbrev pub break_text : Layout → (line tick : ℕ) → Break → List ℕ
break_text layout.Sentences line tick b = break_sentence line tick b
break_text layout.Objects line tick b = break_object line tick b

-- what is told of a break in this line at this tick
abbrev pub break_told : Manner → (line tick : ℕ) → Break → Told
break_told m line tick b =
    if is_judged m.end b then record { text = break_text m.layout line tick b; refused = true } else nothing_told

-- what is told of these breaks
abbrev pub breaks_told : Manner → (line tick : ℕ) → List Break → Told
breaks_told m line tick [] = nothing_told
breaks_told m line tick (b ∷ bs) = told_then (break_told m line tick b) (breaks_told m line tick bs)

unfoldable pub refusal_sentence : (line : ℕ) → Reason → List ℕ
refusal_sentence line why =
    concat (codes "line " ∷ decimal line ∷ codes ": refused, reason " ∷ decimal (reason_code why) ∷ codes "\n" ∷ [])

abbrev pub refusal_text : Layout → (line : ℕ) → Reason → List ℕ
refusal_text layout.Sentences line why = refusal_sentence line why
refusal_text layout.Objects line why = line_refusal_object line why

-- what is kept behind one more line
abbrev pub watch_after : Watch → (line : ℕ) → Result (Option Entry) Reason → Watch
watch_after w line (Ok (Some entry)) = watch_behind w entry.note line entry.tick
watch_after w line (Ok None) = w
watch_after w line (Err why) = w

-- what is kept behind these lines, of which the first has this number, behind what was kept and an entry of this tick
abbrev pub watch_from : (tick number : ℕ) → Watch → List (List ℕ) → Watch
watch_from tick number w [] = w
watch_from tick number w (line ∷ lines) =
    watch_from (tick_after tick (judged_entry tick line)) (number + 1) (watch_after w number (judged_entry tick line))
    lines

-- what is kept behind these lines
abbrev pub watch_of : List (List ℕ) → Watch
watch_of lines = watch_from 0 1 no_watch lines

-- what is told of the line of this number, by what is kept of those before it and by what is read in it
abbrev pub entry_reported : Manner → Watch → ℕ → Result (Option Entry) Reason → Told
entry_reported m w number (Err why) = record { text = refusal_text m.layout number why; refused = true }
entry_reported m w number (Ok None) = nothing_told
entry_reported m w number (Ok (Some entry)) =
    breaks_told m number entry.tick (breaks_at w entry.note entry.tick)

-- what is told of a line behind these lines
abbrev pub IsReported : Manner → (before : List (List ℕ)) → List ℕ → Told → Type 0
IsReported m before line t =
    t ≡ entry_reported m (watch_of before) (length before + 1) (judged_entry (tick_behind 0 before) line)

abbrev pub call_text : Layout → ℕ → Call → List ℕ
call_text layout.Sentences number call = call_sentence number call
call_text layout.Objects number call = call_object number call

abbrev pub set_text : Layout → SetOf → Times → List ℕ
set_text layout.Sentences set times = set_sentence set times
set_text layout.Objects set times = set_object set times

abbrev pub calls_text : Layout → CallRows → List ℕ
calls_text l [] = []
calls_text l (row ∷ rows) = call_text l row.0 row.1 ++ calls_text l rows

abbrev pub sets_text : Layout → SetRows → List ℕ
sets_text l [] = []
sets_text l (row ∷ rows) = set_text l row.0 row.1 ++ sets_text l rows

-- what is told at the end behind these lines: of all calls, and then of all sets
abbrev pub IsEndReported : Manner → (lines : List (List ℕ)) → Told → Type 0
IsEndReported m lines t =
    t ≡ record {
      text = calls_text m.layout (watch_of lines).calls ++ sets_text m.layout (watch_of lines).sets;
      refused = false;
    }
