-- What an order to the relay desk comes to where a stage and a desk stand for what was said before.
use Rattle.std.specs.Prelude.{◌≡◌, ℕ, true, List, [], ◌++◌, Option, Some, Result, Ok, Err, OnOk, OnErr}
use Rattle.std.proofs.Common.{arith, refl, sym, ap, ◌∙◌, subst}
use Rattle.std.proofs.lemmas.List.{append-nil}
use Rattle.call_io.specs.Bytes.{Grew, GrewPartly}
use Rattle.msd_fit.specs.declared.facts.Facts.{Facts}
use Rattle.line_input.specs.declared.reason.Reason.{Reason}
use Rattle.trace_model.specs.declared.event.Event.{Event}
use Rattle.trace_text.specs.Facts.{facts_in}
use Rattle.channel_sim.specs.Lines.{world_after}
use Rattle.channel_sim.specs.World.{first_world}
use Rattle.relay_desk.specs.Desk.{happens}
use Rattle.script_stage.specs.Stage.{HasWorld, SetsOut, StageStandsFor}
use Rattle.script_stage.specs.declared.stage.Halt.{Halt}
use Rattle.script_stage.specs.declared.stage.Halt.TheVariants as halt
use Rattle.script_stage.specs.declared.stage.Stage.{Stage}
use Rattle.relay_text.specs.ItemLine.{text_with_desk}
use Rattle.relay_text.specs.RelayLines.{placed_order}
use Rattle.relay_text.specs.declared.line.RelayLine.TheVariants as line
use Rattle.relay_text.specs.declared.line.RelayOrder.{RelayOrder}
use Rattle.relay_watch.specs.Clocks.{Clock, IsTold, clock_of, row_at}
use Rattle.relay_watch.specs.Hears.{order_event}
use Rattle.relay_watch.specs.declared.clock.DeskClock.{DeskClock}
use Rattle.relay_command.specs.Relay.{LineStep, in_scene, line_step}
use Rattle.relay_command.specs.Scenes.{Scene, order_step}
use Rattle.relay_command.specs.inner.Seen.{RelaySeen, SceneStands}
use Rattle.relay_command.specs.inner.Turns.{IsSimHalt, Stands, Tells}
use Rattle.relay_command.proofs.SceneFollows.{came_of}
use Rattle.relay_command.proofs.TellLines.{IsNow, scene_now}

module _ (seen : RelaySeen) (old new : Stage) (desk0 desk1 : DeskClock) (h h1 : Option (List ℕ)) (o : RelayOrder)
    (passes : ℕ) (stands : Stands seen old desk0) where
  -- the desk, or its link, did it
  abbrev Ordered : Result (Unit {0}) Halt → Type 0
  Ordered r =
      OnOk r (IsTold (row_at (clock_of desk0).tick (happens (clock_of desk0).desk (order_event o))) desk1 h h1)
      × OnErr r (GrewPartly h h1
      (text_with_desk (row_at (clock_of desk0).tick (happens (clock_of desk0).desk (order_event o))).items))
      × IsSimHalt r

  pub order_ok : HasWorld old new seen.said seen.events → (r : Result (Unit {0}) Halt) → Ordered r
      → Tells seen (line.Order o) old new desk1 h h1 passes passes r
  order_ok w (Ok done) ordered =
      let now : IsNow seen.said seen.events seen.scene desk0 w.known =
      scene_now seen.said seen.events seen.scene desk0 w.known stands.scene_stands w.facts in
      let s : Scene = now.scene in
      let is : line_step seen.said seen.scene (line.Order o)
      ≡ record { items = (order_step s o).items; scene = Some (order_step s o).scene } =
      ap (λ (x : Option Scene). in_scene x (λ y. order_step y o)) now.is in
      let told : IsTold (came_of (order_step s o)) desk1 h h1 =
      subst (λ (c : Clock). IsTold (row_at c.tick (happens c.desk (order_event o))) desk1 h h1) now.clock ordered.0 in
      record {
        placed = ap (λ (f : Option Facts). placed_order f o) w.facts;
        wrote = subst (λ (l : LineStep). Grew h h1 (text_with_desk l.items)) (sym is) told.wrote;
        stands =
            record {
              stage_stands =
                  subst (λ (es : List Event). StageStandsFor new (record seen.said { eventful = true }) es)
                  (sym (append-nil seen.events)) w.stands;
              scene_stands =
                  subst (λ (l : LineStep).
                  SceneStands (record seen.said { eventful = true }) (seen.events ++ []) l.scene desk1) (sym is) (
                    w.known,
                    w.facts,
                    refl,
                    now.world ∙ ap (world_after (first_world w.known)) (sym (append-nil seen.events)),
                    told.clock,
                  );
            };
        near = record { calls = omega (arith, w.calls); ticks = omega (arith, w.ticks) };
        counted = omega arith;
      }
  order_ok w (Err (halt.Refused why)) ordered = absurd ordered.2
  order_ok w (Err (halt.Sim fault)) ordered =
      let now : IsNow seen.said seen.events seen.scene desk0 w.known =
      scene_now seen.said seen.events seen.scene desk0 w.known stands.scene_stands w.facts in
      let s : Scene = now.scene in
      let is : line_step seen.said seen.scene (line.Order o)
      ≡ record { items = (order_step s o).items; scene = Some (order_step s o).scene } =
      ap (λ (x : Option Scene). in_scene x (λ y. order_step y o)) now.is in
      record {
        placed = ap (λ (f : Option Facts). placed_order f o) w.facts;
        wrote =
            subst (λ (l : LineStep). GrewPartly h h1 (text_with_desk l.items)) (sym is)
            (subst (λ (c : Clock).
            GrewPartly h h1 (text_with_desk (row_at c.tick (happens c.desk (order_event o))).items)) now.clock ordered.1);
        counted = omega arith;
      }

  -- there is no world to come
  pub order_missing : (why : Reason) → SetsOut old new seen.said seen.events (Err why)
      → Tells {A = Unit {0}} seen (line.Order o) old new desk0 h h passes passes (Err (halt.Refused why))
  order_missing why w =
      let place : placed_order (facts_in seen.said.facts) o ≡ Err why =
      ap (λ (f : Option Facts). placed_order f o) w.1 ∙ ap Err (sym w.0) in
      record { placed = place; wrote = refl; counted = omega arith }
