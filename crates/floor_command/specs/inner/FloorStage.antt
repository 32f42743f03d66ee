-- What a floor's script that is being played has come to, and what one more line makes of it. This project's profile.
-- Cited by the contracts of `FloorStage` and of the functions that play a script.
use Rattle.std.specs.Prelude.{◌≡◌, ℕ, ◌+◌, ◌*◌, ◌≤◌, true, false, List, [], ◌∷◌, ◌++◌, Option, Some, None, Result, Ok, Err}
use Rattle.line_input.specs.declared.reason.Reason.{Reason}
use Rattle.line_input.specs.declared.reason.Reason.TheVariants as reason
use Rattle.call_floor.specs.Floor as model
use Rattle.call_floor.specs.Floor.{Stand, first_stand, floor_with, joined, stand_of}
use Rattle.call_floor.specs.FloorFault.{FloorFaultCause}
use Rattle.call_floor.specs.FloorLines.{floor_after}
use Rattle.call_floor.specs.FloorStands.{FloorStandsFor, numbers_drawn, ticks_elapsed}
use Rattle.call_floor.specs.declared.entry.FloorEntry.{FloorEntry}
use Rattle.call_floor.specs.declared.event.FloorEvent.{FloorEvent}
use Rattle.call_floor.specs.declared.floor.Floor.{Floor}
use Rattle.msd_fit.specs.declared.facts.Facts.{Facts}
use Rattle.trace_text.specs.Facts.{facts_in, is_one_too_many}
use Rattle.trace_text.specs.declared.fact_line.FactLine.{FactLine}
use Rattle.floor_text.specs.VehicleFacts.{DraftsStandFor, VehicleFacts, has_facts, lines_for, with_fact}
use Rattle.floor_text.specs.declared.drafts.Drafts.{Drafts}
use Rattle.floor_command.specs.FloorScript.{FloorSaid, placed, said_after, stands_in}
use Rattle.floor_command.specs.declared.says.FloorLine.{FloorLine}
use Rattle.floor_command.specs.declared.stage.FloorStage.{FloorStage}
use Rattle.floor_command.specs.declared.stage.Halt.{Halt}
use Rattle.floor_command.specs.declared.stage.Halt.TheVariants as halt
use Rattle.floor_command.specs.inner.Progress.{event_of, entries_of, passes_by}

-- no two of these have the same number
abbrev pub AreDistinct : List VehicleFacts → Type 0
AreDistinct [] = Unit {0}
AreDistinct (k ∷ ks) = (has_facts k.number ks ≡ false) × AreDistinct ks

-- none of these stands on the floor yet
abbrev pub AreNew : List Stand → List VehicleFacts → Type 0
AreNew stands [] = Unit {0}
AreNew stands (k ∷ ks) = (stand_of k.number stands ≡ None) × AreNew stands ks

-- The floor stands for what the events made of that of these vehicles.
pub record PlaysOn (floor : Floor) (known : List VehicleFacts) (events : List FloorEvent) : Type 0 where
  pub stands : List Stand
  pub known_are : stands_in known ≡ Some stands
  pub floor_stands : FloorStandsFor floor (floor_after (floor_with stands) events)

-- the facts, and the floor that they led to, stand for what the lines said and the events that they brought
abbrev pub StandsBy : Drafts → Option Floor → FloorSaid → List FloorEvent → Type 0
StandsBy drafts None said events =
    DraftsStandFor drafts said.known × AreDistinct said.known × (said.eventful ≡ false) × (events ≡ [])
StandsBy drafts (Some floor) said events =
    DraftsStandFor drafts said.known × AreDistinct said.known × (said.eventful ≡ true)
    × PlaysOn floor said.known events

abbrev pub StageStandsFor : FloorStage → FloorSaid → List FloorEvent → Type 0
StageStandsFor s said events = StandsBy s.drafts s.floor said events

-- how many calls were drawn
abbrev pub calls_by : Option Floor → ℕ
calls_by None = 0
calls_by (Some floor) = numbers_drawn floor

abbrev pub calls_in : FloorStage → ℕ
calls_in s = calls_by s.floor

-- how many ticks were reached
abbrev pub ticks_by : Option Floor → ℕ
ticks_by None = 0
ticks_by (Some floor) = ticks_elapsed floor

abbrev pub ticks_in : FloorStage → ℕ
ticks_in s = ticks_by s.floor

-- No more calls were drawn, and no more ticks reached, than so many lines can.
pub record IsEarly (s : FloorStage) (lines : ℕ) : Type 0 where
  pub calls : calls_in s ≤ lines
  pub ticks : ticks_in s ≤ lines * 4294967295

-- One line draws one call more at most, and reaches at most so many ticks more.
pub record IsNext (old new : FloorStage) : Type 0 where
  pub calls : calls_in new ≤ calls_in old + 1
  pub ticks : ticks_in new ≤ ticks_in old + 4294967295

-- what the answer to a line says: of its place, of its entries, of the stage that it leaves, and of how often ends were
-- passed; where memory is wanted before anything is played, nothing was told
abbrev pub Obeys : {A : Type 0} → (Grew Partly : List FloorEntry → Type 0) → (Counted : ℕ → Type 0)
    → (old new : FloorStage) → FloorSaid → List FloorEvent → FloorLine → Result A Halt → Type 0
Obeys Grew Partly Counted old new said events says (Ok done) =
    (placed said says ≡ Ok (Some says)) × Grew (entries_of said events says)
    × StageStandsFor new (said_after said says) (events ++ event_of says) × IsNext old new
    × Counted (passes_by said events says)
Obeys Grew Partly Counted old new said events says (Err (halt.Refused why)) =
    (placed said says ≡ Err why) × Grew [] × Counted 0
Obeys Grew Partly Counted old new said events says (Err halt.Memory) = Grew [] × Counted 0
Obeys Grew Partly Counted old new said events says (Err (halt.Floor fault)) =
    (placed said says ≡ Ok (Some says)) × Partly (entries_of said events says) × Counted (passes_by said events says)

-- what the answer to a fact line says, in front of the first event line
abbrev pub Learns : {A : Type 0} → (old new : Drafts) → (vehicle : ℕ) → FactLine → Result A Halt → Type 0
Learns old new v f (Ok done) =
    (known : List VehicleFacts) → DraftsStandFor old known
    → (is_one_too_many (lines_for v known) f ≡ false) × DraftsStandFor new (with_fact v f known)
Learns old new v f (Err (halt.Refused why)) =
    (why ≡ reason.Many)
    × ((known : List VehicleFacts) → DraftsStandFor old known → is_one_too_many (lines_for v known) f ≡ true)
Learns old new v f (Err halt.Memory) = Unit {0}
Learns old new v f (Err (halt.Floor fault)) = ⊥

-- what the answer to a floor that is built says, of vehicles with these facts: it stands for the floor of these, on
-- which nothing happened; it is refused where a vehicle lacks facts
abbrev pub Builds : List VehicleFacts → Result Floor Halt → Type 0
Builds known (Ok floor) =
    (stands : List Stand) × (stands_in known ≡ Some stands) × FloorStandsFor floor (floor_with stands)
    × (numbers_drawn floor ≡ 0) × (ticks_elapsed floor ≡ 0)
Builds known (Err (halt.Refused why)) = (why ≡ reason.Missing) × (stands_in known ≡ None)
Builds known (Err halt.Memory) = Unit {0}
Builds known (Err (halt.Floor fault)) = ⊥

-- what the answer to a vehicle that joins says, of these vehicles that are there
abbrev pub Joins : VehicleFacts → List Stand → (old : Floor) → Result Floor Halt → Type 0
Joins k stands old (Ok floor) =
    (facts : Facts) × (facts_in k.lines ≡ Some facts)
    × FloorStandsFor floor (floor_with (joined (first_stand k.number facts) stands))
    × (numbers_drawn floor ≡ numbers_drawn old) × (ticks_elapsed floor ≡ ticks_elapsed old)
Joins k stands old (Err (halt.Refused why)) = (why ≡ reason.Missing) × (facts_in k.lines ≡ None)
Joins k stands old (Err halt.Memory) = Unit {0}
Joins k stands old (Err (halt.Floor fault)) = ⊥

-- there is a floor, and it stands for this one
abbrev pub StandsIn : Option Floor → model.Floor → Type 0
StandsIn None w = ⊥
StandsIn (Some floor) w = FloorStandsFor floor w

-- what the answer to an event says, where a floor stood for the model's
abbrev pub PlaysEvent : {A : Type 0} → (Grew Partly : List FloorEntry → Type 0) → (Counted : ℕ → Type 0) → (old : Floor)
    → (new : Option Floor) → model.FloorStep → (passes : ℕ) → Result A Halt → Type 0
PlaysEvent Grew Partly Counted old new step passes (Ok done) =
    Grew step.entries × StandsIn new step.floor × (calls_by new ≤ numbers_drawn old + 1)
    × (ticks_by new ≤ ticks_elapsed old + 4294967295) × Counted passes
PlaysEvent Grew Partly Counted old new step passes (Err (halt.Refused why)) = ⊥
PlaysEvent Grew Partly Counted old new step passes (Err halt.Memory) = ⊥
PlaysEvent Grew Partly Counted old new step passes (Err (halt.Floor fault)) = Partly step.entries × Counted passes

-- what the answer to a line says of the count of faults of what is told: a write failed, or else none did
abbrev pub HaltWriteCause : {A : Type 0} → Result A Halt → (old new : ℕ) → Type 0
HaltWriteCause (Ok done) old new = new ≡ old
HaltWriteCause (Err (halt.Refused why)) old new = new ≡ old
HaltWriteCause (Err halt.Memory) old new = new ≡ old
HaltWriteCause (Err (halt.Floor fault)) old new = FloorFaultCause fault old new
