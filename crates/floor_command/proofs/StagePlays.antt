-- What an event does to a stage follows from what it does on the floor.
use Rattle.std.specs.Prelude.{◌≡◌, ℕ, ◌+◌, ◌≤◌, cond, Bool, true, false, List, [], ◌∷◌, ◌++◌, Option, Some, None, Result, Ok, Err}
use Rattle.std.proofs.Common.{sym, ap, refl, subst, arith, ◌∙◌}
use Rattle.std.proofs.lemmas.List.{append-nil}
use Rattle.line_input.specs.declared.reason.Reason.{Reason}
use Rattle.line_input.specs.declared.reason.Reason.TheVariants as reason
use Rattle.trace_text.specs.Facts.{is_one_too_many}
use Rattle.trace_text.specs.declared.fact_line.FactLine.{FactLine}
use Rattle.floor_text.specs.VehicleFacts.{DraftsStandFor, VehicleFacts, lines_for, with_fact}
use Rattle.floor_text.specs.declared.drafts.Drafts.{Drafts}
use Rattle.call_floor.specs.Floor as model
use Rattle.call_floor.specs.Floor.{Stand, floor_with}
use Rattle.call_floor.specs.FloorLines.{floor_after, floor_step, passes_within}
use Rattle.call_floor.specs.FloorStands.{FloorStandsFor, numbers_drawn, ticks_elapsed}
use Rattle.call_floor.specs.declared.entry.FloorEntry.{FloorEntry}
use Rattle.call_floor.specs.declared.event.FloorEvent.{FloorEvent}
use Rattle.call_floor.specs.declared.floor.Floor.{Floor}
use Rattle.floor_command.specs.FloorScript.{FloorSaid, is_there, placed, placed_event, placed_fact, said_after, stands_in}
use Rattle.floor_command.specs.declared.says.FloorLine.{FloorLine}
use Rattle.floor_command.specs.declared.says.FloorLine.TheVariants as line
use Rattle.floor_command.specs.declared.stage.FloorStage.{FloorStage}
use Rattle.floor_command.specs.declared.stage.Halt.{Halt}
use Rattle.floor_command.specs.declared.stage.Halt.TheVariants as halt
use Rattle.floor_command.specs.inner.FloorStage.{AreDistinct, Builds, Learns, Obeys, PlaysEvent, PlaysOn, StageStandsFor, StandsBy, StandsIn, calls_by, calls_in, ticks_by, ticks_in}
use Rattle.floor_command.specs.inner.Progress.{entries_in, floor_left, passes_in}
use Rattle.floor_command.proofs.Distinct.{distinct-with_fact}
use Rattle.floor_command.proofs.ScriptSoFar.{no_entries, no_passes}

-- the floor behind one more event
pub floor_after-push : (w : model.Floor) → (es : List FloorEvent) (e : FloorEvent)
    → floor_after w (es ++ e ∷ []) ≡ (floor_step (floor_after w es) e).floor
floor_after-push w [] e = refl
floor_after-push w (x ∷ es) e = floor_after-push (floor_step w x).floor es e

place_of_event : (said : FloorSaid) (stands : List Stand) (e : FloorEvent) → stands_in said.known ≡ Some stands
    → is_there said.known e ≡ true → placed said (line.Event e) ≡ Ok (Some (line.Event e))
place_of_event said stands e is there =
    ap (placed_event said.known e) is
    ∙ ap (λ (b : Bool). cond b (Ok (Some (line.Event e))) (Err reason.Missing)) there

-- an event of a vehicle that has no fact line is refused, whatever the others have
pub nobody_there : (said : FloorSaid) (e : FloorEvent) → is_there said.known e ≡ false
    → placed said (line.Event e) ≡ Err reason.Missing
nobody_there said e none = by_facts (stands_in said.known)
  where
    by_facts : (o : Option (List Stand)) → placed_event said.known e o ≡ Err reason.Missing
    by_facts None = refl
    by_facts (Some stands) = ap (λ (b : Bool). cond b (Ok (Some (line.Event e))) (Err reason.Missing)) none

-- a stage on the floor behind one more event stands for that event, too
stands_by : (drafts : Drafts) (o : Option Floor) (said : FloorSaid) (events : List FloorEvent) (stands : List Stand)
    (e : FloorEvent) → DraftsStandFor drafts said.known → AreDistinct said.known
    → stands_in said.known ≡ Some stands
    → StandsIn o (floor_step (floor_after (floor_with stands) events) e).floor
    → StandsBy drafts o (said_after said (line.Event e)) (events ++ e ∷ [])
stands_by drafts None said events stands e drafts_are distinct is h = absurd h
stands_by drafts (Some floor) said events stands e drafts_are distinct is h = (
  drafts_are,
  distinct,
  refl,
  record {
    stands = stands;
    known_are = is;
    floor_stands =
        subst (λ (w : model.Floor). FloorStandsFor floor w) (sym (floor_after-push (floor_with stands) events e)) h;
  },
)

module _ (Grew Partly : List FloorEntry → Type 0) (Counted : ℕ → Type 0) (old new : FloorStage)
    (answer : Result (Unit {0}) Halt) where
  -- what is played on this floor, where the model's floor is this one
  abbrev Plays : Floor → model.Floor → FloorEvent → Result (Unit {0}) Halt → Type 0
  Plays floor w e r = PlaysEvent Grew Partly Counted floor new.floor (floor_step w e) (passes_within w e) r

  obeys_event : (floor : Floor) (said : FloorSaid) (events : List FloorEvent) (stands : List Stand) (e : FloorEvent)
      → DraftsStandFor new.drafts said.known → AreDistinct said.known
      → stands_in said.known ≡ Some stands → is_there said.known e ≡ true
      → numbers_drawn floor ≤ calls_in old → ticks_elapsed floor ≤ ticks_in old
      → (r : Result (Unit {0}) Halt) → Plays floor (floor_after (floor_with stands) events) e r
      → Obeys Grew Partly Counted old new said events (line.Event e) r
  obeys_event floor said events stands e drafts_are distinct is there calls ticks (Ok done) plays = (
    place_of_event said stands e is there,
    subst (λ (o : Option (List Stand)). Grew (entries_in (floor_left o events) (line.Event e))) (sym is) plays.0,
    stands_by new.drafts new.floor said events stands e drafts_are distinct is plays.1,
    record { calls = omega (arith, plays.2, calls); ticks = omega (arith, plays.3, ticks) },
    subst (λ (o : Option (List Stand)). Counted (passes_in (floor_left o events) (line.Event e))) (sym is) plays.4,
  )
  obeys_event floor said events stands e drafts_are distinct is there calls ticks (Err (halt.Refused why)) plays =
      absurd plays
  obeys_event floor said events stands e drafts_are distinct is there calls ticks (Err halt.Memory) plays =
      absurd plays
  obeys_event floor said events stands e drafts_are distinct is there calls ticks (Err (halt.Floor fault)) plays = (
    place_of_event said stands e is there,
    subst (λ (o : Option (List Stand)). Partly (entries_in (floor_left o events) (line.Event e))) (sym is) plays.0,
    subst (λ (o : Option (List Stand)). Counted (passes_in (floor_left o events) (line.Event e))) (sym is) plays.1,
  )

  -- the first event, behind the facts that it needs
  pub obeys_first : (e : FloorEvent) (floor : Floor) → old.floor ≡ None → new.drafts ≡ old.drafts
      → ((known : List VehicleFacts) → DraftsStandFor old.drafts known → AreDistinct known → Builds known (Ok floor))
      → ((w : model.Floor) → FloorStandsFor floor w → Plays floor w e answer)
      → (said : FloorSaid) (events : List FloorEvent) → StageStandsFor old said events → is_there said.known e ≡ true
      → Obeys Grew Partly Counted old new said events (line.Event e) answer
  obeys_first e floor none same builds plays said events stage there =
      let s : StandsBy old.drafts None said events =
      subst (λ (o : Option Floor). StandsBy old.drafts o said events) none stage in
      let built = builds said.known s.0 s.1 in
      let first_events : Plays floor (floor_after (floor_with built.0) events) e answer =
      subst (λ (es : List FloorEvent). Plays floor (floor_after (floor_with built.0) es) e answer) (sym s.3)
      (plays (floor_with built.0) built.2) in
      obeys_event floor said events built.0 e (subst (λ (d : Drafts). DraftsStandFor d said.known) (sym same) s.0) s.1
      built.1 there (omega (arith, built.3)) (omega (arith, built.4)) answer first_events

  -- a further event
  pub obeys_next : (e : FloorEvent) (floor : Floor) → old.floor ≡ Some floor → new.drafts ≡ old.drafts
      → ((w : model.Floor) → FloorStandsFor floor w → Plays floor w e answer)
      → (said : FloorSaid) (events : List FloorEvent) → StageStandsFor old said events → is_there said.known e ≡ true
      → Obeys Grew Partly Counted old new said events (line.Event e) answer
  obeys_next e floor some same plays said events stage there =
      let s : StandsBy old.drafts (Some floor) said events =
      subst (λ (o : Option Floor). StandsBy old.drafts o said events) some stage in
      obeys_event floor said events s.3.stands e
      (subst (λ (d : Drafts). DraftsStandFor d said.known) (sym same) s.0) s.1 s.3.known_are there
      (subst (λ (o : Option Floor). numbers_drawn floor ≤ calls_by o) (sym some) (omega arith))
      (subst (λ (o : Option Floor). ticks_elapsed floor ≤ ticks_by o) (sym some) (omega arith))
      answer (plays (floor_after (floor_with s.3.stands) events) s.3.floor_stands)

-- where a vehicle lacks facts, an event is refused
pub lacks_facts : (said : FloorSaid) (e : FloorEvent) → stands_in said.known ≡ None
    → placed said (line.Event e) ≡ Err reason.Missing
lacks_facts said e none = ap (placed_event said.known e) none

-- ---- fact lines, and an event for which there is no floor

module _ (Grew Partly : List FloorEntry → Type 0) (Counted : ℕ → Type 0) (old new : FloorStage) where
  -- a fact line in front of the first event line
  pub obeys_fact : (v : ℕ) (f : FactLine) → old.floor ≡ None → new.floor ≡ None → Grew [] → Counted 0
      → (r : Result (Unit {0}) Halt) → Learns old.drafts new.drafts v f r
      → (said : FloorSaid) (events : List FloorEvent) → StageStandsFor old said events
      → Obeys Grew Partly Counted old new said events (line.Fact v f) r
  obeys_fact v f none still grew counted (Ok done) learns said events stage =
      let s : StandsBy old.drafts None said events =
      subst (λ (o : Option Floor). StandsBy old.drafts o said events) none stage in
      let l = learns said.known s.0 in (
        ap (λ (b : Bool). cond b (Err reason.Late) (placed_fact said.known v f)) s.2
            ∙ ap (λ (b : Bool). cond b (Err reason.Many) (Ok (Some (line.Fact v f)))) l.0,
        subst Grew (sym (no_entries (floor_left (stands_in said.known) events) v f)) grew,
        subst (λ (o : Option Floor). StandsBy new.drafts o (said_after said (line.Fact v f)) (events ++ [])) (sym still)
            (l.1, distinct-with_fact v f said.known s.1, s.2, append-nil events ∙ s.3),
        record {
          calls = subst (λ (o : Option Floor). calls_by o ≤ calls_in old + 1) (sym still) (omega arith);
          ticks = subst (λ (o : Option Floor). ticks_by o ≤ ticks_in old + 4294967295) (sym still) (omega arith);
        },
        subst Counted (sym (no_passes (floor_left (stands_in said.known) events) v f)) counted,
      )
  obeys_fact v f none still grew counted (Err (halt.Refused why)) learns said events stage =
      let s : StandsBy old.drafts None said events =
      subst (λ (o : Option Floor). StandsBy old.drafts o said events) none stage in (
        ap (λ (b : Bool). cond b (Err reason.Late) (placed_fact said.known v f)) s.2
            ∙ ap (λ (b : Bool). cond b (Err reason.Many) (Ok (Some (line.Fact v f)))) (learns.1 said.known s.0)
            ∙ sym (ap Err learns.0),
        grew,
        counted,
      )
  obeys_fact v f none still grew counted (Err halt.Memory) learns said events stage = (grew, counted)
  obeys_fact v f none still grew counted (Err (halt.Floor fault)) learns said events stage = absurd learns

  pub obeys_fact_line : (says : FloorLine) (v : ℕ) (f : FactLine) → says ≡ line.Fact v f → old.floor ≡ None
      → new.floor ≡ None → Grew [] → Counted 0
      → (r : Result (Unit {0}) Halt) → Learns old.drafts new.drafts v f r
      → (said : FloorSaid) (events : List FloorEvent) → StageStandsFor old said events
      → Obeys Grew Partly Counted old new said events says r
  obeys_fact_line says v f is none still grew counted r learns said events stage =
      subst (λ (l : FloorLine). Obeys Grew Partly Counted old new said events l r) (sym is)
      (obeys_fact v f none still grew counted r learns said events stage)

  -- and one behind it
  pub obeys_late : (v : ℕ) (f : FactLine) (floor : Floor) → old.floor ≡ Some floor → Grew [] → Counted 0
      → (said : FloorSaid) (events : List FloorEvent) → StageStandsFor old said events
      → Obeys {A = Unit {0}} Grew Partly Counted old new said events (line.Fact v f) (Err (halt.Refused reason.Late))
  obeys_late v f floor some grew counted said events stage =
      let s : StandsBy old.drafts (Some floor) said events =
      subst (λ (o : Option Floor). StandsBy old.drafts o said events) some stage in (
        ap (λ (b : Bool). cond b (Err reason.Late) (placed_fact said.known v f)) s.2,
        grew,
        counted,
      )

  -- an event for which no floor was built
  pub obeys_unbuilt : (e : FloorEvent) (h : Halt) → old.floor ≡ None → Grew [] → Counted 0
      → ((known : List VehicleFacts) → DraftsStandFor old.drafts known → AreDistinct known → Builds known (Err h))
      → (said : FloorSaid) (events : List FloorEvent) → StageStandsFor old said events
      → Obeys {A = Unit {0}} Grew Partly Counted old new said events (line.Event e) (Err h)
  obeys_unbuilt e h none grew counted builds said events stage =
      let s : StandsBy old.drafts None said events =
      subst (λ (o : Option Floor). StandsBy old.drafts o said events) none stage in
      by_halt h (builds said.known s.0 s.1)
    where
      by_halt : (x : Halt) → Builds said.known (Err x)
          → Obeys {A = Unit {0}} Grew Partly Counted old new said events (line.Event e) (Err x)
      by_halt (halt.Refused why) b = (lacks_facts said e b.1 ∙ sym (ap Err b.0), grew, counted)
      by_halt halt.Memory b = (grew, counted)
      by_halt (halt.Floor fault) b = absurd b

-- the drafts of a stage are those of the facts so far
pub drafts_of : (drafts : Drafts) (o : Option Floor) (said : FloorSaid) (events : List FloorEvent)
    → StandsBy drafts o said events → DraftsStandFor drafts said.known
drafts_of drafts None said events s = s.0
drafts_of drafts (Some floor) said events s = s.0

pub distinct_of : (drafts : Drafts) (o : Option Floor) (said : FloorSaid) (events : List FloorEvent)
    → StandsBy drafts o said events → AreDistinct said.known
distinct_of drafts None said events s = s.1
distinct_of drafts (Some floor) said events s = s.1

-- the floor of a stage stands for one
pub floor_of : (drafts : Drafts) (floor : Floor) (said : FloorSaid) (events : List FloorEvent)
    → StandsBy drafts (Some floor) said events → (w : model.Floor) × FloorStandsFor floor w
floor_of drafts floor said events s = (floor_after (floor_with s.3.stands) events, s.3.floor_stands)
