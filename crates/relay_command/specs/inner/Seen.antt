-- What `relay` has come to behind some lines of its script, its reply to the others, and its law as a command over
-- lines, proved. Cited by that command.
use Rattle.std.specs.Prelude.{◌≡◌, ℕ, ◌+◌, true, false, List, [], ◌∷◌, ◌++◌, Option, Some, None, Ok, Err}
use Rattle.std.proofs.Common.{sym, ◌∙◌, ap, refl, arith, append_assoc}
use Rattle.msd_fit.specs.declared.facts.Facts.{Facts}
use Rattle.line_input.specs.Lines.{line_fault, IsPassedOver}
use Rattle.line_input.specs.declared.reason.BadLine.{BadLine}
use Rattle.line_input.specs.declared.reason.Reason.{Reason}
use Rattle.trace_model.specs.declared.event.Event.{Event}
use Rattle.trace_text.specs.Facts.{facts_in}
use Rattle.trace_text.specs.Script.{Said}
use Rattle.channel_sim.specs.Lines.{world_after}
use Rattle.channel_sim.specs.World.{first_world}
use Rattle.command_base.specs.LineCommands.{IsLined}
use Rattle.command_base.specs.Outcome.{ClosesSilently}
use Rattle.command_base.specs.Refusals.{Reply, in_front_of, refusal_reply}
use Rattle.command_base.specs.declared.refusal.Refused.TheVariants as refused
use Rattle.command_base.specs.declared.status.Status.TheVariants as status
use Rattle.script_stage.specs.ScriptTrace.{ended}
use Rattle.script_stage.specs.Stage.{IsEarly, StageStandsFor}
use Rattle.script_stage.specs.declared.stage.Stage.{Stage}
use Rattle.relay_text.specs.ItemLine.{text_with_desk}
use Rattle.relay_text.specs.RelayLines.{judged_relay, said_behind}
use Rattle.relay_text.specs.declared.line.RelayLine.{RelayLine}
use Rattle.relay_command.specs.Relay.{LineStep, line_passes, line_step, passes_from, refused_from, trace_from}
use Rattle.relay_command.specs.Scenes.{Scene}
use Rattle.relay_watch.specs.declared.clock.DeskClock.{DeskClock}
use Rattle.relay_watch.specs.inner.ClockLaws.{text_with_desk-append}
use Rattle.relay_watch.specs.Clocks.{clock_of, first_clock}

-- what the lines so far said, the events that they brought in the world, and the scene that they left
pub record RelaySeen : Type 0 where
  pub said : Said
  pub events : List Event
  pub scene : Option Scene

-- the reply to lines behind what was said
abbrev pub reply_from : Said → Option Scene → ℕ → List (List ℕ) → Reply
reply_from said scene number texts =
    ended (text_with_desk (trace_from said scene texts)) (refused_from said number texts)

abbrev pub RelayFrom : RelaySeen → ℕ → List (List ℕ) → Reply → Type 0
RelayFrom seen number texts r = r ≡ reply_from seen.said seen.scene number texts

abbrev pub passes_behind : RelaySeen → ℕ → List (List ℕ) → ℕ
passes_behind seen number texts = passes_from seen.said seen.scene texts

-- the scene is that of these events in the world, and of the desk's clock
abbrev pub SceneStands : Said → List Event → Option Scene → DeskClock → Type 0
SceneStands said events None kept = (said.eventful ≡ false) × (events ≡ []) × (clock_of kept ≡ first_clock)
SceneStands said events (Some s) kept =
    (known : Facts) × (facts_in said.facts ≡ Some known) × (said.eventful ≡ true)
    × (s.world ≡ world_after (first_world known) events)
    × (clock_of kept ≡ record { desk = s.desk; tick = s.world.tick })

-- The stage and the desk stand for what the lines said.
pub record RelayStands (before : ℕ) (seen : RelaySeen) (stage : Stage) (kept : DeskClock) : Type 0 where
  pub stage_stands : StageStandsFor stage seen.said seen.events
  pub scene_stands : SceneStands seen.said seen.events seen.scene kept
  pub early : IsEarly stage before

-- Lines one by one.

pub judged-passed : (said : Said) (text : List ℕ) → IsPassedOver text → judged_relay said text ≡ Ok None
judged-passed said text h = rw (judged_relay, h.0, h.1) refl

pub judged-fault : (said : Said) (text : List ℕ) (why : Reason) → line_fault text ≡ Some why
    → judged_relay said text ≡ Err why
judged-fault said text why h = rw (judged_relay, h) refl

pub trace-none : (said : Said) (scene : Option Scene) → trace_from said scene [] ≡ []
unfolding trace_from
trace-none said scene = refl

pub refused-none : (said : Said) (number : ℕ) → refused_from said number [] ≡ None
unfolding refused_from
refused-none said number = refl

pub reply-done : (said : Said) (scene : Option Scene) (number : ℕ)
    → record { text = []; status = status.Done } ≡ reply_from said scene number []
reply-done said scene number =
    ap (λ t. record { text = text_with_desk t; status = status.Done }) (sym (trace-none said scene))
    ∙ ap (λ o. ended (text_with_desk (trace_from said scene [])) o) (sym (refused-none said number))

module _ (said : Said) (scene : Option Scene) (text : List ℕ) (texts : List (List ℕ)) where
  pub trace-passed : judged_relay said text ≡ Ok None
      → trace_from said scene (text ∷ texts) ≡ trace_from said scene texts
  unfolding trace_from
  trace-passed h = rw (trace_from, h) refl

  refused-passed : (number : ℕ) → judged_relay said text ≡ Ok None
      → refused_from said number (text ∷ texts) ≡ refused_from said (number + 1) texts
  unfolding refused_from
  refused-passed number h = rw (refused_from, h) refl

  pub reply-passed : (number : ℕ) → judged_relay said text ≡ Ok None
      → reply_from said scene (number + 1) texts ≡ reply_from said scene number (text ∷ texts)
  reply-passed number h =
      ap (λ t. ended (text_with_desk t) (refused_from said (number + 1) texts)) (sym (trace-passed h))
      ∙ ap (ended (text_with_desk (trace_from said scene (text ∷ texts)))) (sym (refused-passed number h))

  pub passes-passed : judged_relay said text ≡ Ok None
      → passes_from said scene (text ∷ texts) ≡ passes_from said scene texts
  unfolding passes_from
  passes-passed h = rw (passes_from, h) refl

  pub trace-refused : (why : Reason) → judged_relay said text ≡ Err why → trace_from said scene (text ∷ texts) ≡ []
  unfolding trace_from
  trace-refused why h = rw (trace_from, h) refl

  refused-refused : (number : ℕ) (why : Reason) → judged_relay said text ≡ Err why
      → refused_from said number (text ∷ texts) ≡ Some (record { line = number; reason = why })
  unfolding refused_from
  refused-refused number why h = rw (refused_from, h) refl

  pub reply-refused : (number : ℕ) (why : Reason) → judged_relay said text ≡ Err why
      → refusal_reply (refused.Line (record { line = number; reason = why }))
      ≡ reply_from said scene number (text ∷ texts)
  reply-refused number why h =
      ap (λ t. ended (text_with_desk t) (Some (record { line = number; reason = why }))) (sym (trace-refused why h))
      ∙ ap (ended (text_with_desk (trace_from said scene (text ∷ texts)))) (sym (refused-refused number why h))

  pub trace-said : (says : RelayLine) → judged_relay said text ≡ Ok (Some says)
      → trace_from said scene (text ∷ texts)
      ≡ (line_step said scene says).items ++ trace_from (said_behind said says) (line_step said scene says).scene texts
  unfolding trace_from
  trace-said says h = rw (trace_from, h) refl

  refused-said : (number : ℕ) (says : RelayLine) → judged_relay said text ≡ Ok (Some says)
      → refused_from said number (text ∷ texts) ≡ refused_from (said_behind said says) (number + 1) texts
  unfolding refused_from
  refused-said number says h = rw (refused_from, h) refl

  pub passes-said : (says : RelayLine) → judged_relay said text ≡ Ok (Some says)
      → passes_from said scene (text ∷ texts)
      ≡ line_passes said scene says + passes_from (said_behind said says) (line_step said scene says).scene texts
  unfolding passes_from
  passes-said says h = rw (passes_from, h) refl

  -- the text of a line in front of the reply to the others
  pub reply-said : (number : ℕ) (says : RelayLine) → judged_relay said text ≡ Ok (Some says)
      → in_front_of (text_with_desk (line_step said scene says).items)
      (reply_from (said_behind said says) (line_step said scene says).scene (number + 1) texts)
      ≡ reply_from said scene number (text ∷ texts)
  reply-said number says h =
      let s : LineStep = line_step said scene says in
      by_end (refused_from (said_behind said says) (number + 1) texts)
      ∙ ap (ended (text_with_desk (s.items ++ trace_from (said_behind said says) s.scene texts)))
      (sym (refused-said number says h))
      ∙ ap (λ t. ended (text_with_desk t) (refused_from said number (text ∷ texts))) (sym (trace-said says h))
    where
      by_end : (o : Option BadLine)
          → in_front_of (text_with_desk (line_step said scene says).items)
          (ended (text_with_desk (trace_from (said_behind said says) (line_step said scene says).scene texts)) o)
          ≡ ended (text_with_desk ((line_step said scene says).items
          ++ trace_from (said_behind said says) (line_step said scene says).scene texts)) o
      by_end None =
          ap (λ t. record { text = t; status = status.Done })
          (sym (text_with_desk-append (line_step said scene says).items
          (trace_from (said_behind said says) (line_step said scene says).scene texts)))
      by_end (Some bad) =
          ap (λ t. record { text = t; status = status.Refused (refused.Line bad) })
          (sym (append_assoc (text_with_desk (line_step said scene says).items)
          (text_with_desk (trace_from (said_behind said says) (line_step said scene says).scene texts))
          (refusal_reply (refused.Line bad)).text)
          ∙ ap (λ t. t ++ (refusal_reply (refused.Line bad)).text)
          (sym (text_with_desk-append (line_step said scene says).items
          (trace_from (said_behind said says) (line_step said scene says).scene texts))))

pub relay_lined : (seen : RelaySeen) → IsLined (RelayFrom seen) (passes_behind seen) ClosesSilently
relay_lined seen =
    record {
      done = λ number. (
        record { text = []; status = status.Done },
        reply-done seen.said seen.scene number,
        refl,
        refl,
      );
      some = λ number texts. (reply_from seen.said seen.scene number texts, refl);
      passed = λ number text texts r passed is.
          is ∙ reply-passed seen.said seen.scene text texts number (judged-passed seen.said text passed);
      counted = λ number text texts passed.
          let same = passes-passed seen.said seen.scene text texts (judged-passed seen.said text passed) in
          omega (arith, same);
      faulty = λ number text texts why fails.
          reply-refused seen.said seen.scene text texts number why (judged-fault seen.said text why fails);
    }
