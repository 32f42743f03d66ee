-- What one more line makes of what was seen: where it is lost, and where it isn't.
use Rattle.std.specs.Prelude.{◌≡◌, ℕ, Bool, true, false, cond, List, [], ◌∷◌, ◌++◌, Option, Some, None, Result, Ok, Err}
use Rattle.std.proofs.Common.{sym, ◌∙◌, ap, refl, subst}
use Rattle.std.proofs.lemmas.Bool.{false≢true}
use Rattle.std.proofs.lemmas.List.{append-nil}
use Rattle.link_frames.specs.declared.frame.Frame.{Frame}
use Rattle.msd_fit.specs.declared.facts.Facts.{Facts}
use Rattle.trace_model.specs.declared.event.Event.{Event}
use Rattle.trace_model.specs.declared.event.Event.TheVariants as event
use Rattle.line_input.specs.declared.reason.Reason.{Reason}
use Rattle.line_input.specs.declared.reason.Reason.TheVariants as reason
use Rattle.trace_text.specs.Facts.{facts_in, is_one_too_many}
use Rattle.trace_text.specs.Script.{Said, placed, placed_event, placed_line, said_after}
use Rattle.trace_text.specs.declared.draft.Draft.{Draft}
use Rattle.trace_text.specs.declared.script.ScriptLine.{ScriptLine}
use Rattle.trace_text.specs.declared.script.ScriptLine.TheVariants as line
use Rattle.channel_sim.specs.declared.play.Play.{Play}
use Rattle.script_stage.specs.Progress.{event_of}
use Rattle.script_stage.specs.ScriptTrace.{played}
use Rattle.script_stage.specs.Stage.{StandsBy}
use Rattle.script_stage.specs.inner.TraceLaws.{played-nothing}
use Rattle.script_stage.specs.declared.stage.Stage.{Stage}
use Rattle.tones_command.specs.Modem.{behind_frame, is_lost}
use Rattle.tones_command.specs.declared.modem.Modem.{Modem}
use Rattle.tones_command.specs.declared.sent.SentFrames.{SentFrames}
use Rattle.tones_command.specs.Tones.{behind_carried, carried_for}
use Rattle.tones_command.specs.inner.ToneSeen.{IsReady, ToneSeen, line_carries, seen_behind, toning_behind, trace_so_far}
use Rattle.tones_command.specs.inner.ToneTurns.{draws_behind, line_draws, line_lost, loses}

-- where no frame was sent the modem carries none
nothing_carried : (e : Event) → carried_for [] e ≡ None
nothing_carried (event.Deliver true c k) = refl
nothing_carried (event.Deliver false c k) = refl
nothing_carried _ = refl

-- and so no line is lost
pub nothing_lost : (seen : ToneSeen) (says : ScriptLine) → trace_so_far seen ≡ [] → line_lost seen says ≡ false
nothing_lost seen (line.Fact f) none = refl
nothing_lost seen (line.Event e) none =
    ap (loses seen.most seen.toning.x) (ap (λ es. carried_for es e) none ∙ nothing_carried e)

-- x behind a line
pub draws_are : (seen : ToneSeen) (says : ScriptLine) → (toning_behind seen says).x ≡ line_draws seen says
draws_are seen (line.Fact f) = refl
draws_are seen (line.Event e) = by (carried_for (trace_so_far seen) e)
  where
    by : (o : Option Frame) → (behind_carried seen.most seen.toning e o).x ≡ draws_behind seen.toning.x o
    by None = refl
    by (Some frame) = refl

-- a line that isn't lost is left
pub line_left : (seen : ToneSeen) (says : ScriptLine) → line_lost seen says ≡ false
    → (toning_behind seen says).kept ≡ seen.toning.kept ++ event_of says
line_left seen (line.Fact f) h = sym (append-nil seen.toning.kept)
line_left seen (line.Event e) h = by (carried_for (trace_so_far seen) e) h
  where
    by : (o : Option Frame) → loses seen.most seen.toning.x o ≡ false
        → (behind_carried seen.most seen.toning e o).kept ≡ seen.toning.kept ++ e ∷ []
    by None h = refl
    by (Some frame) h = ap (λ b. cond b seen.toning.kept (seen.toning.kept ++ e ∷ [])) h

-- Of a line that is lost: it is an event, nothing is left of it, and it may stand where it stands.
pub record IsEventLost (seen : ToneSeen) (says : ScriptLine) : Type 0 where
  pub kept : (toning_behind seen says).kept ≡ seen.toning.kept
  pub trace : trace_so_far (seen_behind seen says) ≡ trace_so_far seen
  pub facts : (said_after seen.said says).facts ≡ seen.said.facts
  pub eventful : (said_after seen.said says).eventful ≡ true
  pub placed : placed seen.said says ≡ Ok (Some says)

event_placed : (o : Option Facts) (kept : List Event) (most x : ℕ) (e : Event)
    → loses most x (carried_for (played o kept) e) ≡ true → placed_event o e ≡ Ok (Some (line.Event e))
event_placed None kept most x e h =
    absurd (false≢true (sym (ap (loses most x) (nothing_carried e)) ∙ h))
event_placed (Some known) kept most x e h = refl

pub line_is_lost : (seen : ToneSeen) (says : ScriptLine) → line_lost seen says ≡ true → IsEventLost seen says
line_is_lost seen (line.Fact f) h = absurd (false≢true h)
line_is_lost seen (line.Event e) h =
    let kept = by (carried_for (trace_so_far seen) e) h in
    record {
      kept = kept;
      trace = ap (played (facts_in seen.said.facts)) kept;
      facts = refl;
      eventful = refl;
      placed = event_placed (facts_in seen.said.facts) seen.toning.kept seen.most seen.toning.x e h;
    }
  where
    by : (o : Option Frame) → loses seen.most seen.toning.x o ≡ true
        → (behind_carried seen.most seen.toning e o).kept ≡ seen.toning.kept
    by None h = absurd (false≢true h)
    by (Some frame) h = ap (λ b. cond b seen.toning.kept (seen.toning.kept ++ e ∷ [])) h

-- a stage stands for what was said with a line that is lost, as it did before
pub stage_behind_lost : (seen : ToneSeen) (says : ScriptLine) (draft : Draft) (world : Option Play)
    → line_lost seen says ≡ true → StandsBy draft world seen.said seen.toning.kept
    → StandsBy draft world (said_after seen.said says) (toning_behind seen says).kept
stage_behind_lost seen says draft None lost s =
    absurd (false≢true (sym (nothing_lost seen says
    (ap (played (facts_in seen.said.facts)) s.2 ∙ played-nothing (facts_in seen.said.facts))) ∙ lost))
stage_behind_lost seen (line.Fact f) draft (Some world) lost s = absurd (false≢true lost)
stage_behind_lost seen (line.Event e) draft (Some world) lost s =
    let is = line_is_lost seen (line.Event e) lost in
    subst (λ (es : List Event). StandsBy draft (Some world) (said_after seen.said (line.Event e)) es) (sym is.kept)
    (s.0, s.1, refl, s.3)

-- what is placed is what is said
placed_same : (said : Said) (says told : ScriptLine) → placed said says ≡ Ok (Some told) → says ≡ told
placed_same said (line.Fact f) told h = by_eventful said.eventful (is_one_too_many said.facts f) h
  where
    by_eventful : (a b : Bool)
        → cond a (Err reason.Late) (cond b (Err reason.Many) (Ok (Some (line.Fact f)))) ≡ Ok (Some told)
        → line.Fact f ≡ told
    by_eventful true b h = absurd cc
    by_eventful false true h = absurd cc
    by_eventful false false h = cc
placed_same said (line.Event e) told h = by_facts (facts_in said.facts) h
  where
    by_facts : (o : Option Facts) → placed_event o e ≡ Ok (Some told) → line.Event e ≡ told
    by_facts None h = absurd cc
    by_facts (Some known) h = cc

-- what is placed was read
pub placed_read : (said : Said) (r : Result ScriptLine Reason) (told : ScriptLine)
    → placed_line said r ≡ Ok (Some told) → r ≡ Ok told
placed_read said (Ok says) told h = ap Ok (placed_same said says told h)
placed_read said (Err why) told h = absurd cc

-- what the modem makes of the frame of an event
pub carries_event : (seen : ToneSeen) (stage : Stage) (frames : SentFrames) (modem : Modem) (e : Event) (frame : Frame)
    → IsReady seen stage frames modem → Some frame ≡ carried_for (trace_so_far seen) e
    → (is_lost modem.most modem.x frame ≡ line_lost seen (line.Event e))
    × (behind_frame modem.x frame ≡ line_draws seen (line.Event e))
carries_event seen stage frames modem e frame ready is = (
  ap (λ n. is_lost n modem.x frame) ready.most ∙ ap (λ n. is_lost seen.most n frame) ready.draws
      ∙ ap (loses seen.most seen.toning.x) is,
  ap (λ n. behind_frame n frame) ready.draws ∙ ap (draws_behind seen.toning.x) is,
)

-- and where it has none
pub carries_nothing : (seen : ToneSeen) (stage : Stage) (frames : SentFrames) (modem : Modem) (says : ScriptLine)
    → IsReady seen stage frames modem → None ≡ line_carries seen says
    → (false ≡ line_lost seen says) × (modem.x ≡ line_draws seen says)
carries_nothing seen stage frames modem says ready is = (
  ap (loses seen.most seen.toning.x) is,
  ready.draws ∙ ap (draws_behind seen.toning.x) is,
)
