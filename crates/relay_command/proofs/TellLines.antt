-- What a line comes to where a stage and a desk stand for what was said before.
use Rattle.std.specs.Prelude.{◌≡◌, true, false, List, Option, Some, None}
use Rattle.std.specs.Option.{option_map}
use Rattle.std.proofs.Common.{refl, sym, ap, ◌∙◌}
use Rattle.msd_fit.specs.declared.facts.Facts.{Facts}
use Rattle.link_frames.specs.declared.frame.End.TheVariants as «end»
use Rattle.trace_model.specs.declared.event.Event.{Event}
use Rattle.trace_model.specs.declared.event.Event.TheVariants as event
use Rattle.trace_text.specs.Facts.{facts_in}
use Rattle.trace_text.specs.Script.{Said}
use Rattle.channel_sim.specs.Lines as lines
use Rattle.channel_sim.specs.Lines.{passes_within, world_after}
use Rattle.channel_sim.specs.World.{first_world}
use Rattle.relay_command.specs.Relay.{scene_at}
use Rattle.relay_command.specs.Scenes.{Scene, event_step, first_scene}
use Rattle.relay_watch.specs.declared.clock.DeskClock.{DeskClock}
use Rattle.relay_watch.specs.Clocks.{clock_of}
use Rattle.relay_command.specs.inner.Seen.{SceneStands}
use Rattle.relay_command.proofs.SceneFollows.{clock_at, units_world}

-- The scene of a line, as the stage and the desk have it.
pub record IsNow (said : Said) (events : List Event) (o : Option Scene) (kept : DeskClock) (known : Facts) : Type 0 where
  pub scene : Scene
  pub is : scene_at said o ≡ Some scene
  pub world : scene.world ≡ world_after (first_world known) events
  pub clock : clock_of kept ≡ clock_at scene

pub scene_now : (said : Said) (events : List Event) (o : Option Scene) (kept : DeskClock) (known : Facts)
    → SceneStands said events o kept → facts_in said.facts ≡ Some known → IsNow said events o kept known
scene_now said events None kept known stands facts =
    record {
      scene = first_scene known;
      is = ap (option_map first_scene) facts;
      world = ap (world_after (first_world known)) (sym stands.1);
      clock = stands.2;
    }
scene_now said events (Some s) kept known stands facts =
    let same : Some stands.0 ≡ Some known = sym stands.1 ∙ facts in
    let k : stands.0 ≡ known = cc in
    record {
      scene = s;
      is = refl;
      world = stands.3 ∙ ap (λ x. world_after (first_world x) events) k;
      clock = stands.4;
    }

-- the world behind an event is the definition's, whatever the desk does
pub event_world : (s : Scene) (e : Event) → (event_step s e).scene.world ≡ (lines.step s.world e).world
event_world s (event.Tick n) = units_world n s
event_world s (event.Flow true delay) = refl
event_world s (event.Flow false delay) = refl
event_world s (event.Reset «end».Point) = refl
event_world s (event.Reset «end».Vehicle) = refl
event_world s (event.Trigger x) = refl
event_world s event.Cancel = refl
event_world s (event.Net x) = refl
event_world s event.Answer = refl
event_world s event.Fail = refl
event_world s event.Callback = refl
event_world s event.Sleep = refl
event_world s event.FaultVehicle = refl
event_world s (event.FaultPoint x) = refl
event_world s (event.Damaged x) = refl
event_world s (event.Request x) = refl
event_world s (event.Clear x) = refl
event_world s (event.Hangup x) = refl
event_world s event.DropVehicle = refl
event_world s (event.DropPoint x) = refl
event_world s (event.DropBoth x) = refl
event_world s (event.Deliver x c k) = refl
