-- What `ecall floor` replies to a script of a floor: its trace, and then the refusal of the first line that is refused;
-- and how often it passes the ends at most. This project's profile. Cited by the contract of `play_floor`, and by the
-- reply to words and an input.
use Rattle.std.specs.Prelude.{ℕ, ◌+◌, List, [], ◌∷◌, ◌++◌, Option, Some, None}
use Rattle.command_base.specs.Refusals.{Reply}
use Rattle.script_stage.specs.ScriptTrace.{ended}
use Rattle.call_floor.specs.Floor.{Floor, Stand, floor_with}
use Rattle.call_floor.specs.FloorLines.{floor_step, passes_within, trace_from}
use Rattle.call_floor.specs.declared.entry.FloorEntry.{FloorEntry}
use Rattle.call_floor.specs.declared.event.FloorEvent.{FloorEvent}
use Rattle.floor_command.specs.FloorScript.{FloorScript, script_of}
use Rattle.floor_command.specs.FloorText.{text_of}

-- the trace of these events on a floor of these vehicles; where one lacks facts there is no event
abbrev pub played : Option (List Stand) → List FloorEvent → List FloorEntry
played None events = []
played (Some stands) events = trace_from (floor_with stands) events

-- the trace of a script
abbrev pub script_trace : FloorScript → List FloorEntry
script_trace script = played script.stands script.events

-- how often the ends are passed at most by these events, from this floor on
abbrev pub bound_from : Floor → List FloorEvent → ℕ
bound_from w [] = 0
bound_from w (e ∷ es) = passes_within w e + bound_from (floor_step w e).floor es

abbrev pub most_passes : Option (List Stand) → List FloorEvent → ℕ
most_passes None events = 0
most_passes (Some stands) events = bound_from (floor_with stands) events

-- how often the ends are passed at most by a script
abbrev pub script_passes : FloorScript → ℕ
script_passes script = most_passes script.stands script.events

-- the reply of `floor` to an input
abbrev pub floor_reply : List ℕ → Reply
floor_reply input = ended (text_of (script_trace (script_of input))) (script_of input).refused

-- how often it passes the ends for it at most
abbrev pub floor_passes : List ℕ → ℕ
floor_passes input = script_passes (script_of input)
