-- What one line in front of the first event line makes of what the facts say together.
use Rattle.std.specs.Prelude.{◌≡◌, ℕ, Bool, true, false, not, List, [], ◌∷◌, ◌++◌, None, Ok, Err}
use Rattle.std.proofs.Common.{refl, sym, ap, ◌∙◌}
use Rattle.line_input.specs.declared.reason.Reason.TheVariants as reason
use Rattle.trace_model.specs.declared.event.Event.{Event}
use Rattle.trace_text.specs.Drafts.{DraftOf}
use Rattle.trace_text.specs.Facts.{facts_in, is_one_too_many}
use Rattle.trace_text.specs.Script.{placed_event, placed_fact}
use Rattle.trace_text.specs.declared.draft.Draft.{Draft}
use Rattle.trace_text.specs.declared.fact_line.FactLine.{FactLine}
use Rattle.trace_text.specs.declared.script.ScriptLine.TheVariants as line
use Rattle.live_link.specs.LiveOutcome.{LiveStreams}
use Rattle.live_link.specs.declared.answer.LiveStatus.TheVariants as status
use Rattle.live_link.specs.inner.FrontGoes.{IsStill, TakesInFront}

-- where nothing else changed
pub still_now : (start old now : LiveStreams) → IsStill start old → now.trace ≡ old.trace → now.from ≡ old.from
    → now.to ≡ old.to → now.passes ≡ old.passes → IsStill start now
still_now start old now h trace from to passes =
    record { trace = trace ∙ h.trace; from = from ∙ h.from; to = to ∙ h.to; passes = passes ∙ h.passes }

module _ (told : List FactLine) (draft : Draft) (number : ℕ) where
  none_too_many : (b : Bool) → true ≡ not b → b ≡ false
  none_too_many true h = h
  none_too_many false h = refl

  one_too_many : (b : Bool) → false ≡ not b → b ≡ true
  one_too_many true h = refl
  one_too_many false h = h

  -- a fact was added
  pub adds_fact : (fact : FactLine) → true ≡ not (is_one_too_many told fact)
      → (is_one_too_many told fact ≡ false → DraftOf draft (told ++ fact ∷ []))
      → TakesInFront told draft (line.Fact fact) number (Ok None)
  adds_fact fact answer taken =
      let room = none_too_many (is_one_too_many told fact) answer in (fact, refl, room, taken room)

  -- or there was no room for it
  pub adds_none : (fact : FactLine) → false ≡ not (is_one_too_many told fact)
      → TakesInFront told draft (line.Fact fact) number
      (Err (status.Refused (record { line = number; reason = reason.Many })))
  adds_none fact answer = (refl, no_room (one_too_many (is_one_too_many told fact) answer))
    where
      no_room : is_one_too_many told fact ≡ true → placed_fact told fact ≡ Err reason.Many
      no_room h = rw h refl

  -- an event line behind no facts, or behind these
  pub no_facts : (event : Event) → None ≡ facts_in told
      → TakesInFront told draft (line.Event event) number
      (Err (status.Refused (record { line = number; reason = reason.Missing })))
  no_facts event known = (refl, ap (λ z. placed_event z event) (sym known))
