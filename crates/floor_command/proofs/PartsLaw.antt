-- Each vehicle of a script gets the trace that it would get alone.
use Rattle.std.specs.Prelude.{◌≡◌, ℕ, ◌+◌, ◌<◌, Bool, true, false, cond, List, [], ◌∷◌, Option, Some, None, Result, Ok, Err, IfOk, IfSome}
use Rattle.std.specs.List.{AllByRecursion}
use Rattle.std.proofs.Common.{refl, sym, ap, subst, ◌∙◌}
use Rattle.line_input.specs.Lines.{is_comment, line_fault, lines_of}
use Rattle.line_input.specs.declared.reason.Reason.{Reason}
use Rattle.line_input.specs.declared.reason.Reason.TheVariants as reason
use Rattle.msd_fit.specs.declared.facts.Facts.{Facts}
use Rattle.trace_model.specs.declared.event.Event.{Event}
use Rattle.trace_text.specs.Facts.{facts_in, is_one_too_many}
use Rattle.trace_text.specs.declared.fact_line.FactLine.{FactLine}
use Rattle.trace_text.specs.declared.script.ScriptLine.{ScriptLine}
use Rattle.trace_text.specs.declared.script.ScriptLine.TheVariants as says
use Rattle.channel_sim.specs.World.{World, first_world}
use Rattle.floor_text.specs.VehicleFacts.{VehicleFacts, has_facts, lines_for, with_fact}
use Rattle.floor_text.specs.VehicleLines.{floor_line}
use Rattle.floor_text.specs.VehicleNumbers.{IsVehicle}
use Rattle.floor_text.specs.declared.line.NumberedLine.{NumberedLine}
use Rattle.floor_text.proofs.DraftLists.{vehicles-with_fact}
use Rattle.floor_command.proofs.LineNumbers.{HasVehicle, line_number}
use Rattle.call_floor.specs.Floor.{Stand, first_stand, floor_with, joined, own, stand_of}
use Rattle.call_floor.specs.FloorEvents.{floor_event}
use Rattle.call_floor.specs.FloorKept.{IsKept}
use Rattle.call_floor.specs.Parts.{alone, only}
use Rattle.call_floor.specs.declared.event.FloorEvent.{FloorEvent}
use Rattle.floor_command.specs.FloorParts.{AreApart, IsAlone}
use Rattle.floor_command.specs.FloorScript.{FloorSaid, FloorScript, event_says, fact_says, floor_says, is_there, judged, line_says, nothing_said, numbered_says, placed, placed_event, placed_fact, placed_line, said_after, script_from, script_of, stands_in, stands_with}
use Rattle.floor_command.specs.declared.says.FloorLine.{FloorLine}
use Rattle.floor_command.specs.declared.says.FloorLine.TheVariants as line
use Rattle.floor_command.specs.inner.FloorLaws.{script_from-bad, script_from-comment, script_from-line, script_from-none}
use Rattle.floor_command.specs.inner.FloorStage.{AreDistinct, AreNew}
use Rattle.floor_command.proofs.Distinct.{distinct-with_fact, new-first, new-joined}

-- ---- a fact line is one of a vehicle

abbrev IsOfVehicle : FloorLine → Type 0
IsOfVehicle (line.Fact v f) = IsVehicle v
IsOfVehicle (line.Event e) = Unit {0}

event-of : (o : Option FloorEvent) → IfOk (event_says o) IsOfVehicle
event-of None = tt
event-of (Some e) = tt

fact-of : (v : Option ℕ) (f : FactLine) → IfSome v IsVehicle → IfOk (fact_says v f) IsOfVehicle
fact-of None f is = tt
fact-of (Some v) f is = is

numbered-of : (v : Option ℕ) (l : ScriptLine) → IfSome v IsVehicle → IfOk (numbered_says v l) IsOfVehicle
numbered-of v (says.Fact f) is = fact-of v f is
numbered-of v (says.Event e) is = event-of (floor_event v e)

line-of : (r : Result NumberedLine Reason) → IfOk r HasVehicle → IfOk (line_says r) IsOfVehicle
line-of (Ok l) is = numbered-of l.vehicle l.says is
line-of (Err why) is = tt

-- what is placed is what is said
abbrev IfPlaced : Result (Option FloorLine) Reason → Type 0
IfPlaced (Ok (Some l)) = IsOfVehicle l
IfPlaced _ = Unit {0}

placed-of : (said : FloorSaid) (l : FloorLine) → IsOfVehicle l → IfPlaced (placed said l)
placed-of said (line.Fact v f) is = by_late said.eventful
  where
    by_many : (b : Bool) → IfPlaced (cond b (Err reason.Many) (Ok (Some (line.Fact v f))))
    by_many true = tt
    by_many false = is

    by_late : (b : Bool) → IfPlaced (cond b (Err reason.Late) (placed_fact said.known v f))
    by_late true = tt
    by_late false = by_many (is_one_too_many (lines_for v said.known) f)
placed-of said (line.Event e) is = by_stands (stands_in said.known)
  where
    by_there : (b : Bool) → IfPlaced (cond b (Ok (Some (line.Event e))) (Err reason.Missing))
    by_there true = tt
    by_there false = tt

    by_stands : (o : Option (List Stand)) → IfPlaced (placed_event said.known e o)
    by_stands None = tt
    by_stands (Some stands) = by_there (is_there said.known e)

placed_line-of : (said : FloorSaid) (r : Result FloorLine Reason) → IfOk r IsOfVehicle → IfPlaced (placed_line said r)
placed_line-of said (Ok l) is = placed-of said l is
placed_line-of said (Err why) is = tt

judged-of : (said : FloorSaid) (text : List ℕ) → IfPlaced (judged said text)
judged-of said text = by_parts (line_fault text) (is_comment text)
  where
    by_parts : (o : Option Reason) (b : Bool)
        → IfPlaced (elim o [ Some why ↦ Err why | None ↦ cond b (Ok None) (placed_line said (floor_says text)) ])
    by_parts (Some why) b = tt
    by_parts None true = tt
    by_parts None false = placed_line-of said (floor_says text) (line-of (floor_line text) (line_number text))

-- ---- the vehicles of a script

abbrev AreVehicles : List VehicleFacts → Type 0
AreVehicles known = AllByRecursion (λ k. IsVehicle k.number) known

-- The vehicles of a script are those of some fact lines, each a vehicle, and no two the same.
record HasStands (stands : Option (List Stand)) : Type 0 where
  known : List VehicleFacts
  vehicles : AreVehicles known
  distinct : AreDistinct known
  are : stands ≡ stands_in known

script-stands : (said : FloorSaid) (number : ℕ) (texts : List (List ℕ)) → AreVehicles said.known
    → AreDistinct said.known → HasStands (script_from said number texts).stands
script-stands said number [] vehicles distinct =
    record {
      known = said.known;
      vehicles = vehicles;
      distinct = distinct;
      are = ap (λ s. s.stands) (script_from-none said number);
    }
script-stands said number (text ∷ texts) vehicles distinct =
    by_answer (judged said text) refl (judged-of said text)
    (script-stands said (number + 1) texts vehicles distinct)
    (λ v f is. script-stands (said_after said (line.Fact v f)) (number + 1) texts
    (vehicles-with_fact v f said.known is vehicles) (distinct-with_fact v f said.known distinct))
    (λ e. script-stands (said_after said (line.Event e)) (number + 1) texts vehicles distinct)
  where
    by_answer : (a : Result (Option FloorLine) Reason) → judged said text ≡ a → IfPlaced a
        → HasStands (script_from said (number + 1) texts).stands
        → ((v : ℕ) (f : FactLine) → IsVehicle v
        → HasStands (script_from (said_after said (line.Fact v f)) (number + 1) texts).stands)
        → ((e : FloorEvent) → HasStands (script_from (said_after said (line.Event e)) (number + 1) texts).stands)
        → HasStands (script_from said number (text ∷ texts)).stands
    by_answer (Ok None) h of passed fact event =
        subst HasStands (sym (ap (λ s. s.stands) (script_from-comment said text number texts h))) passed
    by_answer (Ok (Some (line.Fact v f))) h of passed fact event =
        subst HasStands (sym (ap (λ s. s.stands) (script_from-line said text number texts (line.Fact v f) h)))
        (fact v f of)
    by_answer (Ok (Some (line.Event e))) h of passed fact event =
        subst HasStands (sym (ap (λ s. s.stands) (script_from-line said text number texts (line.Event e) h)))
        (event e)
    by_answer (Err why) h of passed fact event =
        record {
          known = said.known;
          vehicles = vehicles;
          distinct = distinct;
          are = ap (λ s. s.stands) (script_from-bad said text number texts why h);
        }

-- ---- the floor of these vehicles

abbrev Joins : Type 0
Joins =
    (v : ℕ) (known : Facts) (stands : List Stand) → 0 < v → stand_of v stands ≡ None → IsKept (floor_with stands)
    → IsKept (floor_with (joined (first_stand v known) stands))

-- each vehicle that joins leaves a floor that keeps what every floor keeps
stands-kept : Joins → (stands all : List Stand) (ks : List VehicleFacts) → AreVehicles ks → AreDistinct ks
    → AreNew stands ks → IsKept (floor_with stands) → stands_with stands ks ≡ Some all → IsKept (floor_with all)
stands-kept joins stands all [] vehicles distinct news kept is =
    subst (λ (ss : List Stand). IsKept (floor_with ss)) (cc) kept
stands-kept joins stands all (k ∷ ks) vehicles distinct news kept is =
    by_facts (facts_in k.lines) is
    (λ facts. stands-kept joins (joined (first_stand k.number facts) stands) all ks vehicles.1 distinct.1
    (new-joined (first_stand k.number facts) stands ks distinct.0 news.1)
    (joins k.number facts stands vehicles.0.0 news.0 kept))
  where
    by_facts : (o : Option Facts)
        → elim o [ None ↦ None | Some facts ↦ stands_with (joined (first_stand k.number facts) stands) ks ] ≡ Some all
        → ((facts : Facts) → stands_with (joined (first_stand k.number facts) stands) ks ≡ Some all
        → IsKept (floor_with all))
        → IsKept (floor_with all)
    by_facts None is rest = absurd cc
    by_facts (Some facts) is rest = rest facts is

-- a vehicle that is there with these facts is alone in its first world
only-first : (v : ℕ) (facts : Facts) (stands : List Stand) → stand_of v stands ≡ Some (first_stand v facts)
    → only v (floor_with stands) ≡ Some (first_world facts)
only-first v facts stands at = rw at refl

pub script-kept : Joins → IsKept (floor_with []) → (bytes : List ℕ) (stands : List Stand)
    → (script_of bytes).stands ≡ Some stands → IsKept (floor_with stands)
script-kept joins none bytes stands is =
    let has = script-stands nothing_said 1 (lines_of bytes) tt tt in
    stands-kept joins [] stands has.known has.vehicles has.distinct (new-first has.known) none (sym has.are ∙ is)

pub only_of : (v : ℕ) (facts : Facts) (stands : List Stand) → stand_of v stands ≡ Some (first_stand v facts)
    → only v (floor_with stands) ≡ Some (first_world facts)
only_of v facts stands at = only-first v facts stands at
