-- What a line of a script comes to where a stage and a desk stand for what was said before: the stage plays it while the
-- desk follows, and then the desk reaches the world's tick.
use Rattle.std.specs.Prelude.{◌≡◌, ◌≤◌, ℕ, ◌+◌, ◌-◌, Bool, true, false, List, [], ◌∷◌, ◌++◌, Option, Some, None, Result, Ok, Err, OnOk, OnErr, if◌then◌else◌}
use Rattle.std.proofs.Common.{arith, refl, sym, ap, ◌∙◌, subst}
use Rattle.call_io.specs.Bytes.{Grew, GrewPartly}
use Rattle.call_io.proofs.BytesLemmas.{Grew-nothing}
use Rattle.msd_fit.specs.declared.facts.Facts.{Facts}
use Rattle.line_input.specs.declared.reason.Reason.TheVariants as reason
use Rattle.trace_model.specs.declared.entry.Entry.{Entry}
use Rattle.trace_model.specs.declared.event.Event.{Event}
use Rattle.trace_text.specs.Facts.{facts_in}
use Rattle.trace_text.specs.Script.{Said, placed, placed_fact, said_after}
use Rattle.trace_text.specs.declared.draft.Draft.{Draft}
use Rattle.trace_text.specs.declared.fact_line.FactLine.{FactLine}
use Rattle.trace_text.specs.declared.script.ScriptLine.{ScriptLine}
use Rattle.trace_text.specs.declared.script.ScriptLine.TheVariants as script
use Rattle.channel_sim.specs.Lines as lines
use Rattle.channel_sim.specs.Lines.{passes_within, world_after}
use Rattle.channel_sim.specs.World as model
use Rattle.channel_sim.specs.World.{first_world}
use Rattle.channel_sim.specs.declared.play.Play as kept
use Rattle.script_stage.proofs.StagePlays.{world_after-push}
use Rattle.script_stage.specs.Progress.{entries_in, entries_of, passes_by, passes_in, world_left}
use Rattle.script_stage.specs.Stage.{Obeys, StageStandsFor, StandsBy, ticks_by, ticks_in}
use Rattle.script_stage.specs.declared.stage.Halt.{Halt}
use Rattle.script_stage.specs.declared.stage.Halt.TheVariants as halt
use Rattle.script_stage.specs.declared.stage.Stage.{Stage}
use Rattle.relay_text.specs.ItemLine.{text_with_desk}
use Rattle.relay_text.specs.RelayLines.{placed_script}
use Rattle.relay_text.specs.declared.line.RelayLine.TheVariants as line
use Rattle.relay_command.specs.Relay.{LineStep, in_scene, line_passes, line_step, passes_in_scene}
use Rattle.relay_command.specs.Scenes.{Scene, event_step}
use Rattle.relay_watch.specs.declared.clock.DeskClock.{DeskClock}
use Rattle.relay_watch.specs.inner.ClockLaws.{told_partly, told_then}
use Rattle.relay_watch.specs.Clocks.{IsTold, came_quietly, clock_of, elapses, follows}
use Rattle.relay_command.specs.inner.Seen.{RelaySeen, SceneStands}
use Rattle.relay_command.specs.inner.Turns.{IsSimHalt, Stands, Tells}
use Rattle.relay_command.proofs.SceneFollows.{came_of}
use Rattle.relay_command.proofs.TellEvents.{HasFacts, event_cut_here, event_cut_there, event_told, has_facts, tick_by}
use Rattle.relay_command.proofs.TellLines.{IsNow, event_world, scene_now}

-- nothing more was written
pub still : (held held' : Option (List ℕ)) → Grew held held' [] → held' ≡ held
still held held' h = h ∙ sym (Grew-nothing held)

-- What the stage and the desk say of an event line that was placed.
record AnEvent (seen : RelaySeen) (kept : DeskClock) : Type 0 where
  known : Facts
  facts : facts_in seen.said.facts ≡ Some known
  now : IsNow seen.said seen.events seen.scene kept known

an_event : (seen : RelaySeen) (e : Event) (old : Stage) (kept : DeskClock) → Stands seen old kept
    → placed seen.said (script.Event e) ≡ Ok (Some (script.Event e)) → AnEvent seen kept
an_event seen e old kept stands is =
    let f : HasFacts seen.said = has_facts seen.said e is in
    record {
      known = f.known;
      facts = f.facts;
      now = scene_now seen.said seen.events seen.scene kept f.known stands.scene_stands f.facts;
    }

module _ (seen : RelaySeen) (e : Event) (kept : DeskClock) (a : AnEvent seen kept) where
  entries_are : entries_of seen.said seen.events (script.Event e) ≡ (lines.step a.now.scene.world e).entries
  entries_are =
      ap (λ (o : Option Facts). entries_in (world_left o seen.events) (script.Event e)) a.facts
      ∙ ap (λ (w : model.World). (lines.step w e).entries) (sym a.now.world)

  passes_are : passes_by seen.said seen.events (script.Event e)
      ≡ line_passes seen.said seen.scene (line.Script (script.Event e))
  passes_are =
      ap (λ (o : Option Facts). passes_in (world_left o seen.events) (script.Event e)) a.facts
      ∙ ap (λ (w : model.World). passes_within w e) (sym a.now.world)
      ∙ sym (ap (λ (o : Option Scene). passes_in_scene o e) a.now.is)

  step_is : line_step seen.said seen.scene (line.Script (script.Event e))
      ≡ record { items = (event_step a.now.scene e).items; scene = Some (event_step a.now.scene e).scene }
  step_is = ap (λ (o : Option Scene). in_scene o (λ s. event_step s e)) a.now.is

  tick_is : (new : Stage) → StageStandsFor new (said_after seen.said (script.Event e)) (seen.events ++ e ∷ [])
      → ticks_in new ≡ (lines.step a.now.scene.world e).world.tick
  tick_is new stands =
      tick_by new.draft new.world (said_after seen.said (script.Event e)) (seen.events ++ e ∷ []) a.known a.facts refl
      stands
      ∙ ap (λ (w : model.World). w.tick) (world_after-push (first_world a.known) seen.events e)
      ∙ ap (λ (w : model.World). (lines.step w e).world.tick) (sym a.now.world)

  world_is : (event_step a.now.scene e).scene.world ≡ world_after (first_world a.known) (seen.events ++ e ∷ [])
  world_is =
      event_world a.now.scene e
      ∙ ap (λ (w : model.World). (lines.step w e).world) a.now.world
      ∙ sym (world_after-push (first_world a.known) seen.events e)

  scene_behind : (next : DeskClock) (h h' : Option (List ℕ)) → IsTold (came_of (event_step a.now.scene e)) next h h'
      → SceneStands (said_after seen.said (script.Event e)) (seen.events ++ e ∷ [])
      (line_step seen.said seen.scene (line.Script (script.Event e))).scene next
  scene_behind next h h' told =
      subst (λ (l : LineStep).
      SceneStands (said_after seen.said (script.Event e)) (seen.events ++ e ∷ []) l.scene next) (sym step_is)
      (a.known, a.facts, refl, world_is, told.clock)

module _ (seen : RelaySeen) (old new : Stage) (desk0 desk1 desk2 : DeskClock) (h h1 h2 : Option (List ℕ))
    (passes passes' t : ℕ) (stands : Stands seen old desk0) (tick : t ≡ ticks_in new) where
  -- the stage played a line while the desk followed
  abbrev Watched : ScriptLine → Result (Unit {0}) Halt → Type 0
  Watched says r =
      Obeys (λ es. IsTold (follows es (clock_of desk0)) desk1 h h1)
      (λ es. GrewPartly h h1 (text_with_desk (follows es (clock_of desk0)).items)) (λ n. passes' ≤ passes + n) old new
      seen.said seen.events says r

  -- and then the desk reached the tick
  abbrev Reached : Result (Unit {0}) Halt → Type 0
  Reached r =
      OnOk r (IsTold (elapses (t - desk1.tick) (clock_of desk1)) desk2 h1 h2)
      × OnErr r (GrewPartly h1 h2 (text_with_desk (elapses (t - desk1.tick) (clock_of desk1)).items))
      × IsSimHalt r

  event_ok : (e : Event) → Watched (script.Event e) (Ok tt) → (r : Result (Unit {0}) Halt) → Reached r
      → Tells seen (line.Script (script.Event e)) old new desk2 h h2 passes passes' r
  event_ok e w (Ok done) reached =
      let a : AnEvent seen desk0 = an_event seen e old desk0 stands w.0 in
      let s : Scene = a.now.scene in
      let first : IsTold (follows (lines.step s.world e).entries (clock_of desk0)) desk1 h h1 =
      subst (λ (es : List Entry). IsTold (follows es (clock_of desk0)) desk1 h h1) (entries_are seen e desk0 a) w.1 in
      let at : t ≡ (lines.step s.world e).world.tick = tick ∙ tick_is seen e desk0 a new w.2 in
      let told : IsTold (came_of (event_step s e)) desk2 h h2 =
      event_told desk1 desk2 h h1 h2 s e (clock_of desk0) t a.now.clock at first reached.0 in
      record {
        placed = ap placed_script w.0;
        wrote =
            subst (λ (l : LineStep). Grew h h2 (text_with_desk l.items)) (sym (step_is seen e desk0 a)) told.wrote;
        stands = record { stage_stands = w.2; scene_stands = scene_behind seen e desk0 a desk2 h h2 told };
        near = w.3;
        counted = subst (λ (n : ℕ). passes' ≤ passes + n) (passes_are seen e desk0 a) w.4;
      }
  event_ok e w (Err (halt.Refused why)) reached = absurd reached.2
  event_ok e w (Err (halt.Sim fault)) reached =
      let a : AnEvent seen desk0 = an_event seen e old desk0 stands w.0 in
      let s : Scene = a.now.scene in
      let first : IsTold (follows (lines.step s.world e).entries (clock_of desk0)) desk1 h h1 =
      subst (λ (es : List Entry). IsTold (follows es (clock_of desk0)) desk1 h h1) (entries_are seen e desk0 a) w.1 in
      let at : t ≡ (lines.step s.world e).world.tick = tick ∙ tick_is seen e desk0 a new w.2 in
      record {
        placed = ap placed_script w.0;
        wrote =
            subst (λ (l : LineStep). GrewPartly h h2 (text_with_desk l.items)) (sym (step_is seen e desk0 a))
            (event_cut_there desk1 desk2 h h1 h2 s e (clock_of desk0) t a.now.clock at first reached.1);
        counted = subst (λ (n : ℕ). passes' ≤ passes + n) (passes_are seen e desk0 a) w.4;
      }

  event_cut : (e : Event) (fault : Halt) → Watched (script.Event e) (Err fault)
      → Tells {A = Unit {0}} seen (line.Script (script.Event e)) old new desk1 h h1 passes passes' (Err fault)
  event_cut e (halt.Refused why) w =
      record { placed = ap placed_script w.0; wrote = still h h1 w.1.wrote; counted = omega (arith, w.2) }
  event_cut e (halt.Sim fault) w =
      let a : AnEvent seen desk0 = an_event seen e old desk0 stands w.0 in
      record {
        placed = ap placed_script w.0;
        wrote =
            subst (λ (l : LineStep). GrewPartly h h1 (text_with_desk l.items)) (sym (step_is seen e desk0 a))
            (event_cut_here h h1 a.now.scene e (clock_of desk0) a.now.clock
            (subst (λ (es : List Entry). GrewPartly h h1 (text_with_desk (follows es (clock_of desk0)).items))
            (entries_are seen e desk0 a) w.1));
        counted = subst (λ (n : ℕ). passes' ≤ passes + n) (passes_are seen e desk0 a) w.2;
      }

  -- a fact line gives nothing

  not_late : (b : Bool) (facts : List FactLine) (f : FactLine)
      → (if b then Err reason.Late else placed_fact facts f) ≡ Ok (Some (script.Fact f)) → b ≡ false
  not_late true facts f is = absurd (cc)
  not_late false facts f is = refl

  no_entries : (o : Option model.World) (f : FactLine) → entries_in o (script.Fact f) ≡ []
  no_entries None f = refl
  no_entries (Some w) f = refl

  no_passes : (o : Option model.World) (f : FactLine) → passes_in o (script.Fact f) ≡ 0
  no_passes None f = refl
  no_passes (Some w) f = refl

  no_ticks : (draft : Draft) (o : Option kept.Play) (said : Said) (events : List Event) → said.eventful ≡ false
      → StandsBy draft o said events → ticks_by o ≡ 0
  no_ticks draft None said events early s = refl
  no_ticks draft (Some world) said events early s = let no : true ≡ false = sym s.2 ∙ early in absurd (cc)

  -- the scene of lines that are facts alone
  no_scene : (o : Option Scene) (f : FactLine) (next : DeskClock) → seen.said.eventful ≡ false
      → SceneStands seen.said seen.events o desk0 → clock_of next ≡ clock_of desk0
      → SceneStands (said_after seen.said (script.Fact f)) (seen.events ++ []) o next
  no_scene None f next early s same = (early, ap (λ (es : List Event). es ++ []) s.1, same ∙ s.2)
  no_scene (Some x) f next early s same = let no : true ≡ false = sym s.2 ∙ early in absurd (cc)

  no_more : (f : FactLine) → Watched (script.Fact f) (Ok tt) → seen.said.eventful ≡ false → t - desk1.tick ≡ 0
  no_more f w early =
      let zero : t ≡ 0 = tick ∙ no_ticks new.draft new.world (said_after seen.said (script.Fact f)) (seen.events ++ [])
      early w.2 in
      omega (arith, zero)

  fact_ok : (f : FactLine) → Watched (script.Fact f) (Ok tt) → (r : Result (Unit {0}) Halt) → Reached r
      → Tells seen (line.Script (script.Fact f)) old new desk2 h h2 passes passes' r
  fact_ok f w (Ok done) reached =
      let early : seen.said.eventful ≡ false = not_late seen.said.eventful seen.said.facts f w.0 in
      let first : IsTold (came_quietly (clock_of desk0)) desk1 h h1 =
      subst (λ (es : List Entry). IsTold (follows es (clock_of desk0)) desk1 h h1)
      (no_entries (world_left (facts_in seen.said.facts) seen.events) f) w.1 in
      let second : IsTold (came_quietly (clock_of desk1)) desk2 h1 h2 =
      subst (λ (n : ℕ). IsTold (elapses n (clock_of desk1)) desk2 h1 h2) (no_more f w early) reached.0 in
      let told : IsTold (came_quietly (clock_of desk0)) desk2 h h2 =
      told_then (came_quietly (clock_of desk0)) came_quietly desk1 desk2 h h1 h2 first second in
      record {
        placed = ap placed_script w.0;
        wrote = told.wrote;
        stands =
            record {
              stage_stands = w.2;
              scene_stands = no_scene seen.scene f desk2 early stands.scene_stands told.clock;
            };
        near = w.3;
        counted =
            subst (λ (n : ℕ). passes' ≤ passes + n) (no_passes (world_left (facts_in seen.said.facts) seen.events) f)
            w.4;
      }
  fact_ok f w (Err (halt.Refused why)) reached = absurd reached.2
  fact_ok f w (Err (halt.Sim fault)) reached =
      let early : seen.said.eventful ≡ false = not_late seen.said.eventful seen.said.facts f w.0 in
      let first : IsTold (came_quietly (clock_of desk0)) desk1 h h1 =
      subst (λ (es : List Entry). IsTold (follows es (clock_of desk0)) desk1 h h1)
      (no_entries (world_left (facts_in seen.said.facts) seen.events) f) w.1 in
      let second : GrewPartly h1 h2 (text_with_desk (came_quietly (clock_of desk1)).items) =
      subst (λ (n : ℕ). GrewPartly h1 h2 (text_with_desk (elapses n (clock_of desk1)).items)) (no_more f w early)
      reached.1 in
      record {
        placed = ap placed_script w.0;
        wrote = told_partly (came_quietly (clock_of desk0)) came_quietly desk1 h h1 h2 first second;
        counted =
            subst (λ (n : ℕ). passes' ≤ passes + n) (no_passes (world_left (facts_in seen.said.facts) seen.events) f)
            w.4;
      }

  fact_cut : (f : FactLine) (fault : Halt) → Watched (script.Fact f) (Err fault)
      → Tells {A = Unit {0}} seen (line.Script (script.Fact f)) old new desk1 h h1 passes passes' (Err fault)
  fact_cut f (halt.Refused why) w =
      record { placed = ap placed_script w.0; wrote = still h h1 w.1.wrote; counted = omega (arith, w.2) }
  fact_cut f (halt.Sim fault) w =
      record {
        placed = ap placed_script w.0;
        wrote =
            subst (λ (es : List Entry). GrewPartly h h1 (text_with_desk (follows es (clock_of desk0)).items))
            (no_entries (world_left (facts_in seen.said.facts) seen.events) f) w.1;
        counted =
            subst (λ (n : ℕ). passes' ≤ passes + n) (no_passes (world_left (facts_in seen.said.facts) seen.events) f)
            w.2;
      }

  -- a line of either kind

  pub script_ok : (says : ScriptLine) → Watched says (Ok tt) → (r : Result (Unit {0}) Halt) → Reached r
      → Tells seen (line.Script says) old new desk2 h h2 passes passes' r
  script_ok (script.Fact f) w r reached = fact_ok f w r reached
  script_ok (script.Event e) w r reached = event_ok e w r reached

  pub script_cut : (says : ScriptLine) (fault : Halt) → Watched says (Err fault)
      → Tells {A = Unit {0}} seen (line.Script says) old new desk1 h h1 passes passes' (Err fault)
  script_cut (script.Fact f) fault w = fact_cut f fault w
  script_cut (script.Event e) fault w = event_cut e fault w
