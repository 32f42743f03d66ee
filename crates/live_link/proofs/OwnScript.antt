-- The script of an end, line by line.
use Rattle.std.specs.Prelude.{◌≡◌, ℕ, ◌+◌, Bool, true, false, cond, List, [], ◌∷◌, ◌++◌, length, codes, Option, Some, None, Result, Ok, Err}
use Rattle.std.specs.List.{AllByRecursion}
use Rattle.std.proofs.Common.{refl, ap, ◌∙◌, arith}
use Rattle.line_input.specs.Lines.{IsLine, IsPassedOver, is_comment, line_fault}
use Rattle.line_input.specs.Words.{words}
use Rattle.line_input.specs.declared.reason.Reason.{Reason}
use Rattle.line_input.specs.declared.reason.Reason.TheVariants as reason
use Rattle.link_frames.specs.declared.frame.End.{End}
use Rattle.link_frames.specs.declared.frame.End.TheVariants as «end»
use Rattle.msd_fit.specs.declared.facts.Facts.{Facts}
use Rattle.trace_model.specs.declared.event.Event.{Event}
use Rattle.trace_text.specs.Facts.{facts_in}
use Rattle.trace_text.specs.Script.{Said, in_front, placed_event, said_after}
use Rattle.trace_text.specs.declared.script.ScriptLine.{ScriptLine}
use Rattle.trace_text.specs.declared.script.ScriptLine.TheVariants as line
use Rattle.live_link.specs.Scripts.{judged, line_by_words, placed_line, script_from}

-- what a line that says something is judged by
pub judged_line : (e : End) (said : Said) (text : List ℕ) → IsLine text
    → judged e said text ≡ placed_line e said (line_by_words e (words text))
judged_line e said text h = rw (judged, h.0, h.1) refl

pub judged_passed : (e : End) (said : Said) (text : List ℕ) → IsPassedOver text → judged e said text ≡ Ok None
judged_passed e said text h = rw (judged, h.0, h.1) refl

pub judged_fault : (e : End) (said : Said) (text : List ℕ) (why : Reason) → line_fault text ≡ Some why
    → judged e said text ≡ Err why
judged_fault e said text why h = rw (judged, h) refl

pub script_none : (e : End) (said : Said) (number : ℕ)
    → script_from e said number [] ≡ record { facts = facts_in said.facts; events = []; refused = None }
unfolding script_from
script_none e said number = refl

module _ (e : End) (said : Said) (number : ℕ) (text : List ℕ) (texts : List (List ℕ)) where
  pub script_passed : judged e said text ≡ Ok None
      → script_from e said number (text ∷ texts) ≡ script_from e said (number + 1) texts
  unfolding script_from
  script_passed h = rw (script_from, h) refl

  pub script_says : (says : ScriptLine) → judged e said text ≡ Ok (Some says)
      → script_from e said number (text ∷ texts)
      ≡ in_front says (script_from e (said_after said says) (number + 1) texts)
  unfolding script_from
  script_says says h = rw (script_from, h) refl

  pub script_refused : (why : Reason) → judged e said text ≡ Err why
      → script_from e said number (text ∷ texts)
      ≡ record {
        facts = facts_in said.facts;
        events = [];
        refused = Some (record { line = number; reason = why });
      }
  unfolding script_from
  script_refused why h = rw (script_from, h) refl

-- lines that are passed over count alone
pub script_behind : (e : End) (said : Said) (passed : List (List ℕ)) → AllByRecursion IsPassedOver passed
    → (number : ℕ) (texts : List (List ℕ))
    → script_from e said number (passed ++ texts) ≡ script_from e said (number + length passed) texts
script_behind e said [] h number texts = ap (λ n. script_from e said n texts) (omega arith)
script_behind e said (text ∷ passed) h number texts =
    script_passed e said number text (passed ++ texts) (judged_passed e said text h.0)
    ∙ script_behind e said passed h.1 (number + 1) texts
    ∙ ap (λ n. script_from e said n texts) (omega arith)

-- a line that is none of either end's
pub judged_unknown : (e : End) (said : Said) → judged e said (codes "$") ≡ Err reason.Word
judged_unknown «end».Vehicle said = refl
judged_unknown «end».Point said = refl

-- Behind the first event line of the vehicle's no fact line stands, and the facts stay as they are.

abbrev IsNoFact : Result (Option ScriptLine) Reason → Type 0
IsNoFact (Ok (Some (line.Fact f))) = ⊥
IsNoFact _ = Unit {0}

no_fact_placed : (said : Said) → said.eventful ≡ true → (r : Result ScriptLine Reason)
    → IsNoFact (placed_line «end».Vehicle said r)
no_fact_placed said eventful (Err why) = tt
no_fact_placed said eventful (Ok (line.Fact f)) = rw eventful tt
no_fact_placed said eventful (Ok (line.Event e)) = by_facts (facts_in said.facts)
  where
    by_facts : (known : Option Facts) → IsNoFact (placed_event known e)
    by_facts None = tt
    by_facts (Some known) = tt

no_fact_judged : (said : Said) → said.eventful ≡ true → (text : List ℕ) → IsNoFact (judged «end».Vehicle said text)
no_fact_judged said eventful text = by_parts (line_fault text) (is_comment text) (line_by_words «end».Vehicle (words text))
  where
    by_parts : (o : Option Reason) (b : Bool) (r : Result ScriptLine Reason)
        → IsNoFact (elim o [ Some why ↦ Err why | None ↦ cond b (Ok None) (placed_line «end».Vehicle said r) ])
    by_parts (Some why) b r = tt
    by_parts None true r = tt
    by_parts None false r = no_fact_placed said eventful r

pub facts_kept : (said : Said) → said.eventful ≡ true → (texts : List (List ℕ)) (number : ℕ)
    → (script_from «end».Vehicle said number texts).facts ≡ facts_in said.facts
facts_kept said eventful [] number = ap (λ s. s.facts) (script_none «end».Vehicle said number)
facts_kept said eventful (text ∷ texts) number =
    by_answer (judged «end».Vehicle said text) refl (no_fact_judged said eventful text) (facts_kept said eventful texts (number + 1))
    (λ e. facts_kept (said_after said (line.Event e)) refl texts (number + 1))
  where
    by_answer : (a : Result (Option ScriptLine) Reason) → judged «end».Vehicle said text ≡ a → IsNoFact a
        → (script_from «end».Vehicle said (number + 1) texts).facts ≡ facts_in said.facts
        → ((e : Event)
        → (script_from «end».Vehicle (said_after said (line.Event e)) (number + 1) texts).facts ≡ facts_in said.facts)
        → (script_from «end».Vehicle said number (text ∷ texts)).facts ≡ facts_in said.facts
    by_answer (Ok None) h fact same event = ap (λ s. s.facts) (script_passed «end».Vehicle said number text texts h) ∙ same
    by_answer (Ok (Some (line.Fact f))) h fact same event = absurd fact
    by_answer (Ok (Some (line.Event e))) h fact same event =
        ap (λ s. s.facts) (script_says «end».Vehicle said number text texts (line.Event e) h) ∙ event e
    by_answer (Err why) h fact same event = ap (λ s. s.facts) (script_refused «end».Vehicle said number text texts why h)
