-- What a script that is being played has come to, and what one more line makes of it. This project's profile. Cited by
-- the contracts of `Stage` and of the functions that play a script.
use Rattle.std.specs.Prelude.{◌≡◌, ℕ, ◌+◌, ◌*◌, ◌≤◌, true, false, List, [], ◌∷◌, ◌++◌, Option, Some, None, Result, Ok, Err}
use Rattle.msd_fit.specs.declared.facts.Facts.{Facts}
use Rattle.trace_model.specs.declared.entry.Entry.{Entry}
use Rattle.trace_model.specs.declared.event.Event.{Event}
use Rattle.trace_text.specs.declared.script.ScriptLine.{ScriptLine}
use Rattle.trace_text.specs.Drafts.{DraftOf}
use Rattle.trace_text.specs.Facts.{facts_in, is_one_too_many}
use Rattle.trace_text.specs.declared.draft.Draft.{Draft}
use Rattle.trace_text.specs.declared.fact_line.FactLine.{FactLine}
use Rattle.line_input.specs.declared.reason.Reason.{Reason}
use Rattle.line_input.specs.declared.reason.Reason.TheVariants as reason
use Rattle.trace_text.specs.Script.{Said, placed, said_after}
use Rattle.channel_sim.specs.declared.play.Play.{Play}
use Rattle.channel_sim.specs.SimFault.{SimFaultCause}
use Rattle.channel_sim.specs.Lines.{world_after}
use Rattle.channel_sim.specs.World as model
use Rattle.channel_sim.specs.World.{first_world}
use Rattle.channel_sim.specs.PlayStands.{PlayStandsFor, calls_drawn, ticks_reached}
use Rattle.script_stage.specs.declared.stage.Stage.{Stage}
use Rattle.script_stage.specs.declared.stage.Halt.{Halt}
use Rattle.script_stage.specs.declared.stage.Halt.TheVariants as halt
use Rattle.script_stage.specs.Progress.{event_of, entries_of, passes_by}

-- the facts, or the world that they led to, stand for what the lines said and the events that they brought
abbrev pub StandsBy : Draft → Option Play → Said → List Event → Type 0
StandsBy draft None said events = DraftOf draft said.facts × (said.eventful ≡ false) × (events ≡ [])
StandsBy draft (Some world) said events =
    (known : Facts) × (facts_in said.facts ≡ Some known) × (said.eventful ≡ true)
    × PlayStandsFor world (world_after (first_world known) events)

abbrev pub StageStandsFor : Stage → Said → List Event → Type 0
StageStandsFor s said events = StandsBy s.draft s.world said events

-- how many calls were drawn
abbrev pub calls_by : Option Play → ℕ
calls_by None = 0
calls_by (Some world) = calls_drawn world

abbrev pub calls_in : Stage → ℕ
calls_in s = calls_by s.world

-- how many ticks were reached
abbrev pub ticks_by : Option Play → ℕ
ticks_by None = 0
ticks_by (Some world) = ticks_reached world

abbrev pub ticks_in : Stage → ℕ
ticks_in s = ticks_by s.world

-- No more calls were drawn, and no more ticks reached, than so many lines can.
pub record IsEarly (s : Stage) (lines : ℕ) : Type 0 where
  pub calls : calls_in s ≤ lines
  pub ticks : ticks_in s ≤ lines * 4294967295

-- One line draws one call more at most, and reaches at most so many ticks more.
pub record IsNext (old new : Stage) : Type 0 where
  pub calls : calls_in new ≤ calls_in old + 1
  pub ticks : ticks_in new ≤ ticks_in old + 4294967295

-- what the answer to a line says: of its place, of its entries, of the stage that it leaves, and of how often ends were
-- passed
abbrev pub Obeys : {A : Type 0} → (Grew Partly : List Entry → Type 0) → (Counted : ℕ → Type 0) → (old new : Stage)
    → Said → List Event → ScriptLine → Result A Halt → Type 0
Obeys Grew Partly Counted old new said events says (Ok done) =
    (placed said says ≡ Ok (Some says)) × Grew (entries_of said events says)
    × StageStandsFor new (said_after said says) (events ++ event_of says) × IsNext old new
    × Counted (passes_by said events says)
Obeys Grew Partly Counted old new said events says (Err (halt.Refused why)) =
    (placed said says ≡ Err why) × Grew [] × Counted 0
Obeys Grew Partly Counted old new said events says (Err (halt.Sim fault)) =
    (placed said says ≡ Ok (Some says)) × Partly (entries_of said events says) × Counted (passes_by said events says)

-- The stage has a world, and stands for the same events as before, behind an event line.
pub record HasWorld (old new : Stage) (said : Said) (events : List Event) : Type 0 where
  pub known : Facts
  pub facts : facts_in said.facts ≡ Some known
  pub stands : StageStandsFor new (record said { eventful = true }) events
  pub calls : calls_in new ≡ calls_in old
  pub ticks : ticks_in new ≡ ticks_in old

-- what the answer to an event line says that has nothing happen in the world
abbrev pub SetsOut : (old new : Stage) → Said → List Event → Result (Unit {0}) Reason → Type 0
SetsOut old new said events (Ok done) = HasWorld old new said events
SetsOut old new said events (Err why) = (why ≡ reason.Missing) × (facts_in said.facts ≡ None)

-- what the answer to a fact line says, in front of the first event line
abbrev pub Learns : {A : Type 0} → (old new : Draft) → FactLine → Result A Halt → Type 0
Learns old new fact (Ok done) =
    (lines : List FactLine) → DraftOf old lines
    → (is_one_too_many lines fact ≡ false) × DraftOf new (lines ++ fact ∷ [])
Learns old new fact (Err (halt.Refused why)) =
    (why ≡ reason.Many) × ((lines : List FactLine) → DraftOf old lines → is_one_too_many lines fact ≡ true)
Learns old new fact (Err (halt.Sim fault)) = ⊥

-- there is a world, and it stands for this one
abbrev pub StandsIn : Option Play → model.World → Type 0
StandsIn None w = ⊥
StandsIn (Some world) w = PlayStandsFor world w

-- what the answer to an event says, where a world stood for the model's
abbrev pub PlaysEvent : {A : Type 0} → (Grew Partly : List Entry → Type 0) → (Counted : ℕ → Type 0) → (old : Play)
    → (new : Option Play) → model.Step → (passes : ℕ) → Result A Halt → Type 0
PlaysEvent Grew Partly Counted old new step passes (Ok done) =
    Grew step.entries × StandsIn new step.world × (calls_by new ≤ calls_drawn old + 1)
    × (ticks_by new ≤ ticks_reached old + 4294967295) × Counted passes
PlaysEvent Grew Partly Counted old new step passes (Err (halt.Refused why)) = ⊥
PlaysEvent Grew Partly Counted old new step passes (Err (halt.Sim fault)) = Partly step.entries × Counted passes

-- what the answer to a line says of the count of faults of what is told: a write failed, or else none did
abbrev pub HaltWriteCause : {A : Type 0} → Result A Halt → (old new : ℕ) → Type 0
HaltWriteCause (Ok done) old new = new ≡ old
HaltWriteCause (Err (halt.Refused why)) old new = new ≡ old
HaltWriteCause (Err (halt.Sim fault)) old new = SimFaultCause fault old new
