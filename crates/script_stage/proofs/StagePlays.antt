-- What an event does to a stage follows from what it does in the world.
use Rattle.std.specs.Prelude.{◌≡◌, ℕ, ◌≤◌, List, [], ◌∷◌, ◌++◌, Option, Some, None, Result, Ok, Err}
use Rattle.std.proofs.Common.{sym, ap, refl, subst, arith}
use Rattle.msd_fit.specs.declared.facts.Facts.{Facts}
use Rattle.trace_text.specs.Drafts.{DraftOf}
use Rattle.trace_text.specs.Facts.{facts_in}
use Rattle.trace_text.specs.declared.draft.Draft.{Draft}
use Rattle.trace_text.specs.declared.fact_line.FactLine.{FactLine}
use Rattle.trace_model.specs.declared.entry.Entry.{Entry}
use Rattle.trace_model.specs.declared.event.Event.{Event}
use Rattle.trace_text.specs.declared.script.ScriptLine.TheVariants as line
use Rattle.trace_text.specs.Script.{Said, placed, placed_event, said_after}
use Rattle.channel_sim.specs.declared.play.Play.{Play}
use Rattle.channel_sim.specs.World as model
use Rattle.channel_sim.specs.Lines.{passes_within, step, world_after}
use Rattle.channel_sim.specs.World.{first_world}
use Rattle.channel_sim.specs.PlayStands.{PlayStandsFor, calls_drawn, ticks_reached}
use Rattle.script_stage.specs.declared.stage.Stage.{Stage}
use Rattle.script_stage.specs.declared.stage.Halt.{Halt}
use Rattle.script_stage.specs.declared.stage.Halt.TheVariants as halt
use Rattle.script_stage.specs.Progress.{entries_in, passes_in, world_left}
use Rattle.script_stage.specs.Stage.{StandsBy, StageStandsFor, StandsIn, Obeys, PlaysEvent, calls_by, calls_in, ticks_by, ticks_in}

-- the world behind one more event
pub world_after-push : (w : model.World) → (es : List Event) (e : Event)
    → world_after w (es ++ e ∷ []) ≡ (step (world_after w es) e).world
world_after-push w [] e = refl
world_after-push w (x ∷ es) e = world_after-push (step w x).world es e

place_of_event : (said : Said) (known : Facts) (e : Event) → facts_in said.facts ≡ Some known
    → placed said (line.Event e) ≡ Ok (Some (line.Event e))
place_of_event said known e is = ap (λ o. placed_event o e) is

-- a stage in the world behind one more event stands for that event, too
stands_by : (draft : Draft) (o : Option Play) (said : Said) (events : List Event) (known : Facts) (e : Event)
    → facts_in said.facts ≡ Some known
    → StandsIn o (step (world_after (first_world known) events) e).world
    → StandsBy draft o (said_after said (line.Event e)) (events ++ e ∷ [])
stands_by draft None said events known e is h = absurd h
stands_by draft (Some world) said events known e is h = (
  known,
  is,
  refl,
  subst (λ (w : model.World). PlayStandsFor world w) (sym (world_after-push (first_world known) events e)) h,
)

module _ (Grew Partly : List Entry → Type 0) (Counted : ℕ → Type 0) (old new : Stage)
    (answer : Result (Unit {0}) Halt) where
  -- what is played in this world, where the model's world is this one
  abbrev Plays : Play → model.World → Event → Result (Unit {0}) Halt → Type 0
  Plays world w e r = PlaysEvent Grew Partly Counted world new.world (step w e) (passes_within w e) r

  obeys_event : (world : Play) (said : Said) (events : List Event) (known : Facts) (e : Event)
      → facts_in said.facts ≡ Some known → calls_drawn world ≤ calls_in old → ticks_reached world ≤ ticks_in old
      → (r : Result (Unit {0}) Halt) → Plays world (world_after (first_world known) events) e r
      → Obeys Grew Partly Counted old new said events (line.Event e) r
  obeys_event world said events known e is calls ticks (Ok done) plays = (
    place_of_event said known e is,
    subst (λ (o : Option Facts). Grew (entries_in (world_left o events) (line.Event e))) (sym is) plays.0,
    stands_by new.draft new.world said events known e is plays.1,
    record { calls = omega (arith, plays.2, calls); ticks = omega (arith, plays.3, ticks) },
    subst (λ (o : Option Facts). Counted (passes_in (world_left o events) (line.Event e))) (sym is) plays.4,
  )
  obeys_event world said events known e is calls ticks (Err (halt.Refused why)) plays = absurd plays
  obeys_event world said events known e is calls ticks (Err (halt.Sim fault)) plays = (
    place_of_event said known e is,
    subst (λ (o : Option Facts). Partly (entries_in (world_left o events) (line.Event e))) (sym is) plays.0,
    subst (λ (o : Option Facts). Counted (passes_in (world_left o events) (line.Event e))) (sym is) plays.1,
  )

  -- the first event, behind the facts that it needs
  pub obeys_first : (known : Facts) (e : Event) (world : Play) → old.world ≡ None
      → ((lines : List FactLine) → DraftOf old.draft lines → Some known ≡ facts_in lines)
      → PlayStandsFor world (first_world known) → calls_drawn world ≡ 0 → ticks_reached world ≡ 0
      → ((w : model.World) → PlayStandsFor world w → Plays world w e answer)
      → (said : Said) (events : List Event) → StageStandsFor old said events
      → Obeys Grew Partly Counted old new said events (line.Event e) answer
  obeys_first known e world none gives first calls ticks plays said events stands =
      let s : StandsBy old.draft None said events =
      subst (λ (o : Option Play). StandsBy old.draft o said events) none stands in
      let first_events : Plays world (world_after (first_world known) events) e answer =
      subst (λ (es : List Event). Plays world (world_after (first_world known) es) e answer) (sym s.2)
      (plays (first_world known) first) in
      obeys_event world said events known e (sym (gives said.facts s.0)) (omega (arith, calls))
      (omega (arith, ticks)) answer first_events

  -- a further event
  pub obeys_next : (e : Event) (world : Play) → old.world ≡ Some world
      → ((w : model.World) → PlayStandsFor world w → Plays world w e answer)
      → (said : Said) (events : List Event) → StageStandsFor old said events
      → Obeys Grew Partly Counted old new said events (line.Event e) answer
  obeys_next e world some plays said events stands =
      let s : StandsBy old.draft (Some world) said events =
      subst (λ (o : Option Play). StandsBy old.draft o said events) some stands in
      obeys_event world said events s.0 e s.1
      (subst (λ (o : Option Play). calls_drawn world ≤ calls_by o) (sym some) (omega arith))
      (subst (λ (o : Option Play). ticks_reached world ≤ ticks_by o) (sym some) (omega arith))
      answer (plays (world_after (first_world s.0) events) s.3)
