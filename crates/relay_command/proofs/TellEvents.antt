-- What an event line comes to where a stage and a desk stand for what was said before.
use Rattle.std.specs.Prelude.{◌≡◌, ℕ, ◌-◌, true, false, List, Option, Some, None, Ok}
use Rattle.std.proofs.Common.{refl, sym, ap, ◌∙◌, subst}
use Rattle.call_io.specs.Bytes.{GrewPartly}
use Rattle.msd_fit.specs.declared.facts.Facts.{Facts}
use Rattle.trace_model.specs.declared.event.Event.{Event}
use Rattle.trace_text.specs.Facts.{facts_in}
use Rattle.trace_text.specs.Script.{Said, placed, placed_event}
use Rattle.trace_text.specs.declared.draft.Draft.{Draft}
use Rattle.trace_text.specs.declared.script.ScriptLine.TheVariants as script
use Rattle.channel_sim.specs.Lines as lines
use Rattle.channel_sim.specs.Lines.{passes_within, world_after}
use Rattle.channel_sim.specs.World.{first_world}
use Rattle.channel_sim.specs.declared.play.Play as kept
use Rattle.script_stage.specs.Stage.{StandsBy, ticks_by}
use Rattle.relay_text.specs.ItemLine.{text_with_desk}
use Rattle.relay_command.specs.Scenes.{Scene, event_step}
use Rattle.relay_watch.specs.declared.clock.DeskClock.{DeskClock}
use Rattle.relay_watch.specs.inner.ClockLaws.{partly_then, told_partly, told_then}
use Rattle.relay_watch.specs.Clocks.{Came, Clock, IsTold, and_then, clock_of, elapses, follows}
use Rattle.relay_command.proofs.SceneFollows.{came_of, clock_at, event_follows, finish}

-- the tick that a stage with a world has reached
pub tick_by : (draft : Draft) (o : Option kept.Play) (said : Said) (events : List Event) (known : Facts)
    → facts_in said.facts ≡ Some known → said.eventful ≡ true → StandsBy draft o said events
    → ticks_by o ≡ (world_after (first_world known) events).tick
tick_by draft None said events known facts eventful h =
    let no : false ≡ true = sym h.1 ∙ eventful in absurd (cc)
tick_by draft (Some world) said events known facts eventful h =
    let same : Some h.0 ≡ Some known = sym h.1 ∙ facts in
    let k : h.0 ≡ known = cc in
    sym h.3.tick ∙ ap (λ x. (world_after (first_world x) events).tick) k

-- the facts of an event that was placed
pub record HasFacts (said : Said) : Type 0 where
  pub known : Facts
  pub facts : facts_in said.facts ≡ Some known

pub has_facts : (said : Said) (e : Event) → placed said (script.Event e) ≡ Ok (Some (script.Event e)) → HasFacts said
has_facts said e h = by_facts (facts_in said.facts) refl h
  where
    by_facts : (o : Option Facts) → facts_in said.facts ≡ o → placed_event o e ≡ Ok (Some (script.Event e))
        → HasFacts said
    by_facts None f p = absurd (cc)
    by_facts (Some known) f p = record { known = known; facts = f }

whole : (s : Scene) (e : Event) (c : Clock) (t : ℕ) → c ≡ clock_at s → t ≡ (lines.step s.world e).world.tick
    → and_then (follows (lines.step s.world e).entries c) (λ b. elapses (t - b.tick) b) ≡ came_of (event_step s e)
whole s e c t clock tick =
    ap (λ k. finish (lines.step s.world e).entries t k) clock
    ∙ ap (λ k. finish (lines.step s.world e).entries k (clock_at s)) tick
    ∙ event_follows s e

module _ (desk1 desk2 : DeskClock) (h h1 h2 : Option (List ℕ)) (s : Scene) (e : Event) (c : Clock) (t : ℕ)
    (clock : c ≡ clock_at s) (tick : t ≡ (lines.step s.world e).world.tick) where
  pub event_told : IsTold (follows (lines.step s.world e).entries c) desk1 h h1
      → IsTold (elapses (t - desk1.tick) (clock_of desk1)) desk2 h1 h2
      → IsTold (came_of (event_step s e)) desk2 h h2
  event_told first second =
      subst (λ (r : Came). IsTold r desk2 h h2) (whole s e c t clock tick)
      (told_then (follows (lines.step s.world e).entries c) (λ b. elapses (t - b.tick) b) desk1 desk2 h h1 h2 first
      second)

  pub event_cut_there : IsTold (follows (lines.step s.world e).entries c) desk1 h h1
      → GrewPartly h1 h2 (text_with_desk (elapses (t - desk1.tick) (clock_of desk1)).items)
      → GrewPartly h h2 (text_with_desk (event_step s e).items)
  event_cut_there first part =
      subst (λ (r : Came). GrewPartly h h2 (text_with_desk r.items)) (whole s e c t clock tick)
      (told_partly (follows (lines.step s.world e).entries c) (λ b. elapses (t - b.tick) b) desk1 h h1 h2 first part)

pub event_cut_here : (h h1 : Option (List ℕ)) (s : Scene) (e : Event) (c : Clock) → c ≡ clock_at s
    → GrewPartly h h1 (text_with_desk (follows (lines.step s.world e).entries c).items)
    → GrewPartly h h1 (text_with_desk (event_step s e).items)
event_cut_here h h1 s e c clock part =
    subst (λ (r : Came). GrewPartly h h1 (text_with_desk r.items))
    (whole s e c (lines.step s.world e).world.tick clock refl)
    (partly_then (follows (lines.step s.world e).entries c)
    (λ b. elapses ((lines.step s.world e).world.tick - b.tick) b) h h1 part)
