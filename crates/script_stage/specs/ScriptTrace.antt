-- The trace of a script, the tick at which it ends, how often it passes the ends of its calls at most, and a text with
-- the refusal behind it. This project's profile. Cited by the replies of all commands that play a script, and by the
-- contract of `ecall` on every script.
use Rattle.std.specs.Prelude.{ℕ, List, [], Option, Some, None}
use Rattle.msd_fit.specs.declared.facts.Facts.{Facts}
use Rattle.trace_model.specs.declared.entry.Entry.{Entry}
use Rattle.trace_model.specs.declared.event.Event.{Event}
use Rattle.line_input.specs.declared.reason.BadLine.{BadLine}
use Rattle.trace_text.specs.Script.{Script}
use Rattle.channel_sim.specs.Lines.{bound, trace, world_after}
use Rattle.channel_sim.specs.World.{first_world}
use Rattle.command_base.specs.declared.refusal.Refused.TheVariants as refused
use Rattle.command_base.specs.declared.status.Status.TheVariants as status
use Rattle.command_base.specs.Refusals.{Reply, refusal_reply, in_front_of}

-- the trace of these events, where the vehicle's facts are known; without facts there is no event
abbrev pub played : Option Facts → List Event → List Entry
played None events = []
played (Some known) events = trace known events

-- the trace of a script
abbrev pub script_trace : Script → List Entry
script_trace script = played script.facts script.events

-- the tick that these events reach, where the vehicle's facts are known
abbrev pub tick_after : Option Facts → List Event → ℕ
tick_after None events = 0
tick_after (Some known) events = (world_after (first_world known) events).tick

-- the tick at which a script ends
abbrev pub script_tick : Script → ℕ
script_tick script = tick_after script.facts script.events

-- how often the ends are passed at most by these events, where the vehicle's facts are known
abbrev pub most_passes : Option Facts → List Event → ℕ
most_passes None events = 0
most_passes (Some known) events = bound known events

-- how often the ends are passed at most by a script
abbrev pub script_passes : Script → ℕ
script_passes script = most_passes script.facts script.events

-- a text, and then the line that refuses a line, where one is refused
abbrev pub ended : List ℕ → Option BadLine → Reply
ended text None = record { text = text; status = status.Done }
ended text (Some bad) = in_front_of text (refusal_reply (refused.Line bad))
