-- What is told of a line of a trace: an object, unless the line is passed over, whether or not it is refused. This
-- project's profile. What a line says is what `ecall replay` reads in it; a line whose tick is below that of the entry
-- before it is refused as it is there, and the lines behind it are judged as if it weren't there. Cited by
-- `judge_line` and `tell_trace`.
use Rattle.std.specs.Prelude.{◌≡◌, ℕ, ◌+◌, nat_lt, Bool, true, false, List, [], ◌∷◌, length, Option, Some, None, Result, Ok, Err, if◌then◌else◌}
use Rattle.line_input.specs.Lines.{is_comment, line_fault}
use Rattle.line_input.specs.declared.reason.Reason.{Reason}
use Rattle.line_input.specs.declared.reason.Reason.TheVariants as reason
use Rattle.trace_model.specs.declared.entry.Entry.{Entry}
use Rattle.trace_text.specs.EntryLines.{entry_of}
use Rattle.view_lines.specs.Refused.{line_refusal_object}
use Rattle.view_lines.specs.Told.{Told, nothing_told}
use Rattle.view_traces.specs.Object.{entry_object}

-- an entry, unless its tick is below that of the one before
abbrev pub entry_after : (tick : ℕ) → Result Entry Reason → Result (Option Entry) Reason
entry_after tick (Ok entry) = if nat_lt entry.tick tick then Err reason.Number else Ok (Some entry)
entry_after tick (Err why) = Err why

-- a line by why it is refused whatever it says, by whether it is passed over, and by its entry
abbrev pub judged_by :
    Option Reason → (passed_over : Bool) → Result (Option Entry) Reason → Result (Option Entry) Reason
judged_by (Some why) passed_over entry = Err why
judged_by None passed_over entry = if passed_over then Ok None else entry

-- the entry of a line behind an entry of this tick, nothing where it is passed over, or why it is refused
abbrev pub judged_entry : (tick : ℕ) → List ℕ → Result (Option Entry) Reason
judged_entry tick line = judged_by (line_fault line) (is_comment line) (entry_after tick (entry_of line))

-- the tick of the last entry behind one more line
abbrev pub tick_after : (tick : ℕ) → Result (Option Entry) Reason → ℕ
tick_after tick (Ok (Some entry)) = entry.tick
tick_after tick (Ok None) = tick
tick_after tick (Err why) = tick

-- the tick of the last entry of these lines, behind an entry of this tick
abbrev pub tick_behind : (tick : ℕ) → List (List ℕ) → ℕ
tick_behind tick [] = tick
tick_behind tick (line ∷ lines) = tick_behind (tick_after tick (judged_entry tick line)) lines

-- what is told of the line of this number, by what is read in it
abbrev pub entry_told : ℕ → Result (Option Entry) Reason → Told
entry_told number (Err why) = record { text = line_refusal_object number why; refused = true }
entry_told number (Ok None) = nothing_told
entry_told number (Ok (Some entry)) = record { text = entry_object number entry; refused = false }

-- what is told of a line of a trace behind these lines
abbrev pub IsLineTold : (before : List (List ℕ)) → List ℕ → Told → Type 0
IsLineTold before line t = t ≡ entry_told (length before + 1) (judged_entry (tick_behind 0 before) line)

-- at the end of a trace nothing is told
abbrev pub IsEndTold : List (List ℕ) → Told → Type 0
IsEndTold lines t = t ≡ nothing_told
