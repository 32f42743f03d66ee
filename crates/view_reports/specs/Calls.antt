-- What is kept of a call, and of all calls of a trace, in the order in which the trace first has them come up, go
-- down or turn a voice. This project's profile. Cited by what is told of a line of a trace in a report.
use Rattle.std.specs.Prelude.{ℕ, nat_eq, List, Option, Some, None}
use Rattle.std.specs.Map.{lookup}
use Rattle.std.specs.Option.{unwrap_or}
use Rattle.indexmap.specs.IndexMap.{insert_entry}
use Rattle.link_frames.specs.declared.frame.End.{End}
use Rattle.link_frames.specs.declared.frame.End.TheVariants as «end»
use Rattle.link_frames.specs.declared.note.Note.{Note}
use Rattle.link_frames.specs.declared.note.Note.TheVariants as note
use Rattle.trace_model.specs.declared.moved.LegOf.{LegOf}
use Rattle.view_reports.specs.Sides.{no_side, side_behind}
use Rattle.view_reports.specs.declared.call.Call.{Call}
use Rattle.view_reports.specs.declared.side.Side.{Side}

-- a call of whose legs nothing was heard
abbrev pub no_call : Call
no_call = record { vehicle = no_side; point = no_side }

-- its leg at an end
abbrev pub side_of : Call → End → Side
side_of call «end».Vehicle = call.vehicle
side_of call «end».Point = call.point

-- it with another leg at an end
abbrev pub with_side : Call → End → Side → Call
with_side call «end».Vehicle side = record { vehicle = side; point = call.point }
with_side call «end».Point side = record { vehicle = call.vehicle; point = side }

-- it behind an item of its leg at this end
abbrev pub call_behind : Call → End → Note → (line now : ℕ) → Call
call_behind call e n line now = with_side call e (side_behind (side_of call e) n line now)

-- what is kept of each call, by its number
abbrev pub CallRows : Type 0
CallRows = List (ℕ × Call)

-- what is kept of a call
abbrev pub call_in : CallRows → ℕ → Call
call_in calls c = unwrap_or (lookup (nat_eq c) calls) no_call

-- the leg of an end in a call
abbrev pub side_in : CallRows → End → ℕ → Side
side_in calls e c = side_of (call_in calls c) e

-- the leg that an item raises or ends, or whose voice it turns
abbrev pub moved_leg : Note → Option LegOf
moved_leg (note.Up e c) = Some (record { of = e; call = c })
moved_leg (note.Down e c why) = Some (record { of = e; call = c })
moved_leg (note.Voice e c up down) = Some (record { of = e; call = c })
moved_leg _ = None

-- the calls where an item moves this leg
abbrev pub calls_moved : Option LegOf → CallRows → Note → (line now : ℕ) → CallRows
calls_moved None calls n line now = calls
calls_moved (Some leg) calls n line now =
    insert_entry nat_eq calls leg.call (call_behind (call_in calls leg.call) leg.of n line now)

-- the calls behind an item
abbrev pub calls_behind : CallRows → Note → (line now : ℕ) → CallRows
calls_behind calls n line now = calls_moved (moved_leg n) calls n line now
