-- How far a run has come: what the lines so far said, and what is told of them. This project's profile. Cited by the
-- contracts of the functions that play a script line by line.
use Rattle.std.specs.Prelude.{ℕ, List, [], ◌∷◌, ◌++◌, Option, Some, None}
use Rattle.msd_fit.specs.declared.facts.Facts.{Facts}
use Rattle.trace_model.specs.declared.entry.Entry.{Entry}
use Rattle.trace_model.specs.declared.event.Event.{Event}
use Rattle.trace_text.specs.declared.script.ScriptLine.{ScriptLine}
use Rattle.trace_text.specs.declared.script.ScriptLine.TheVariants as line
use Rattle.trace_text.specs.Facts.{facts_in}
use Rattle.trace_text.specs.Script.{Said, Script}
use Rattle.channel_sim.specs.Lines.{passes_within, step, world_after}
use Rattle.channel_sim.specs.World.{World, first_world}

-- these events in front of a script's
abbrev pub events_before : List Event → Script → Script
events_before events script = record script { events = events ++ script.events }

-- the event of a line, if it is an event line
abbrev pub event_of : ScriptLine → List Event
event_of (line.Fact f) = []
event_of (line.Event e) = e ∷ []

-- the world that these events leave, where the vehicle's facts are known
abbrev pub world_left : Option Facts → List Event → Option World
world_left None events = None
world_left (Some known) events = Some (world_after (first_world known) events)

-- what an event gives in a world
abbrev pub entries_in : Option World → ScriptLine → List Entry
entries_in None says = []
entries_in (Some w) (line.Fact f) = []
entries_in (Some w) (line.Event e) = (step w e).entries

-- what a line gives in the world that these events leave
abbrev pub entries_of : Said → List Event → ScriptLine → List Entry
entries_of said events says = entries_in (world_left (facts_in said.facts) events) says

-- how often the ends are passed at most by a line in a world
abbrev pub passes_in : Option World → ScriptLine → ℕ
passes_in None says = 0
passes_in (Some w) (line.Fact f) = 0
passes_in (Some w) (line.Event e) = passes_within w e

-- how often they are passed at most by a line in the world that these events leave
abbrev pub passes_by : Said → List Event → ScriptLine → ℕ
passes_by said events says = passes_in (world_left (facts_in said.facts) events) says
