-- The trace of events one behind the other, and that the text of the trace so far is a front of the whole reply: laws,
-- proved. Cited by the laws of the commands that write the trace of a script as it is played.
use Rattle.std.specs.Prelude.{◌≡◌, ℕ, ◌+◌, Bool, true, false, cond, List, [], ◌∷◌, ◌++◌, Option, Some, None, Result, Ok, Err}
use Rattle.std.proofs.Common.{sym, ◌∙◌, ap, refl, subst, append_assoc, inl, inr}
use Rattle.msd_fit.specs.declared.facts.Facts.{Facts}
use Rattle.trace_text.specs.EntryLine.{text_of}
use Rattle.trace_text.specs.inner.TextListenerLaws.{text_of-append}
use Rattle.trace_model.specs.declared.event.Event.{Event}
use Rattle.line_input.specs.declared.reason.BadLine.{BadLine}
use Rattle.line_input.specs.declared.reason.Reason.{Reason}
use Rattle.line_input.specs.declared.reason.Reason.TheVariants as reason
use Rattle.trace_text.specs.declared.script.ScriptLine.{ScriptLine}
use Rattle.trace_text.specs.declared.script.ScriptLine.TheVariants as line
use Rattle.trace_text.specs.Facts.{facts_in}
use Rattle.line_input.specs.Lines.{line_fault, is_comment}
use Rattle.trace_text.specs.Script.{Said, Script, judged, placed, placed_fact, placed_event, placed_line, said_after, script_from, script_line}
use Rattle.channel_sim.specs.Lines.{step, trace_from, world_after}
use Rattle.channel_sim.specs.World.{World, first_world}
use Rattle.command_base.specs.Refusals.{refusal_line}
use Rattle.script_stage.specs.ScriptTrace.{ended, played, script_trace}
use Rattle.command_base.specs.declared.refusal.Refused.TheVariants as refused
use Rattle.script_stage.specs.Progress.{events_before}
use Rattle.script_stage.specs.ScriptSeen.{IsTidy}
use Rattle.script_stage.specs.inner.ScriptLaws.{script_from-bad, script_from-comment, script_from-line, script_from-none}

-- events one behind the other are traced one behind the other
pub trace_from-append : (w : World) → (es fs : List Event)
    → trace_from w (es ++ fs) ≡ trace_from w es ++ trace_from (world_after w es) fs
trace_from-append w [] fs = refl
trace_from-append w (e ∷ es) fs =
    ap (λ t. (step w e).entries ++ t) (trace_from-append (step w e).world es fs)
    ∙ sym (append_assoc (step w e).entries (trace_from (step w e).world es)
    (trace_from (world_after (step w e).world es) fs))

-- an answer that isn't a fact line
abbrev pub IsNoFact : Result (Option ScriptLine) Reason → Type 0
IsNoFact (Ok (Some (line.Fact f))) = ⊥
IsNoFact _ = Unit {0}

-- behind the first event line no fact line stands
pub no_fact_placed : (said : Said) → said.eventful ≡ true → (says : ScriptLine) → IsNoFact (placed said says)
no_fact_placed said eventful (line.Fact f) =
    subst (λ (b : Bool). IsNoFact (cond b (Err reason.Late) (placed_fact said.facts f))) (sym eventful) tt
no_fact_placed said eventful (line.Event e) = by_facts (facts_in said.facts)
  where
    by_facts : (known : Option Facts) → IsNoFact (placed_event known e)
    by_facts None = tt
    by_facts (Some known) = tt

pub no_fact_judged : (said : Said) → said.eventful ≡ true → (text : List ℕ) → IsNoFact (judged said text)
no_fact_judged said eventful text = by_parts (line_fault text) (is_comment text) (script_line text)
  where
    by_parts : (o : Option Reason) (b : Bool) (r : Result ScriptLine Reason)
        → IsNoFact (elim o [ Some why ↦ Err why | None ↦ cond b (Ok None) (placed_line said r) ])
    by_parts (Some why) b r = tt
    by_parts None true r = tt
    by_parts None false (Err why) = tt
    by_parts None false (Ok says) = no_fact_placed said eventful says

-- behind the first event line the facts stay as they are
pub facts_kept : (said : Said) → said.eventful ≡ true → (texts : List (List ℕ)) (number : ℕ)
    → (script_from said number texts).facts ≡ facts_in said.facts
facts_kept said eventful [] number = ap (λ s. s.facts) (script_from-none said number)
facts_kept said eventful (text ∷ texts) number =
    by_answer (judged said text) refl (no_fact_judged said eventful text) (facts_kept said eventful texts (number + 1))
    (λ e. facts_kept (said_after said (line.Event e)) refl texts (number + 1))
  where
    by_answer : (a : Result (Option ScriptLine) Reason) → judged said text ≡ a → IsNoFact a
        → (script_from said (number + 1) texts).facts ≡ facts_in said.facts
        → ((e : Event)
        → (script_from (said_after said (line.Event e)) (number + 1) texts).facts ≡ facts_in said.facts)
        → (script_from said number (text ∷ texts)).facts ≡ facts_in said.facts
    by_answer (Ok None) h fact same event = ap (λ s. s.facts) (script_from-comment said text number texts h) ∙ same
    by_answer (Ok (Some (line.Fact f))) h fact same event = absurd fact
    by_answer (Ok (Some (line.Event e))) h fact same event =
        ap (λ s. s.facts) (script_from-line said text number texts (line.Event e) h) ∙ event e
    by_answer (Err why) h fact same event = ap (λ s. s.facts) (script_from-bad said text number texts why h)

-- a text that another begins with
pub record Begins (a b : List ℕ) : Type 0 where
  pub rest : List ℕ
  pub whole : a ++ rest ≡ b

pub begins_append : (a b c : List ℕ) → Begins a b → Begins a (b ++ c)
begins_append a b c h = record { rest = h.rest ++ c; whole = sym (append_assoc a h.rest c) ∙ ap (λ t. t ++ c) h.whole }

pub begins_ended : (a text : List ℕ) → (o : Option BadLine) → Begins a text → Begins a (ended text o).text
begins_ended a text None h = h
begins_ended a text (Some bad) h = begins_append a text (refusal_line (refused.Line bad)) h

pub played-nothing : (o : Option Facts) → played o [] ≡ []
played-nothing None = refl
played-nothing (Some known) = refl

pub played-append : (o : Option Facts) (es fs : List Event)
    → Begins (text_of (played o es)) (text_of (played o (es ++ fs)))
played-append None es fs = record { rest = []; whole = refl }
played-append (Some known) es fs =
    let w : World = first_world known in
    record {
      rest = text_of (trace_from (world_after w es) fs);
      whole =
          sym (ap text_of (trace_from-append w es fs) ∙ text_of-append (trace_from w es)
          (trace_from (world_after w es) fs));
    }

-- the text so far is a front of the text of the reply
pub text_begins : (said : Said) (events : List Event) → IsTidy said events → (texts : List (List ℕ)) (number : ℕ)
    → let script : Script = events_before events (script_from said number texts) in Begins
    (text_of (played (facts_in said.facts) events)) (ended (text_of (script_trace script)) script.refused).text
text_begins said events (inl eventful) texts number =
    let rest : Script = script_from said number texts in
    begins_ended _ _ rest.refused
    (subst (λ (r : Option Facts).
    Begins (text_of (played (facts_in said.facts) events)) (text_of (played r (events ++ rest.events))))
    (sym (facts_kept said eventful texts number)) (played-append (facts_in said.facts) events rest.events))
text_begins said events (inr none) texts number =
    record {
      rest =
          (ended (text_of (script_trace (events_before events (script_from said number texts))))
          (script_from said number texts).refused).text;
      whole =
          ap (λ t. text_of t ++
          (ended (text_of (script_trace (events_before events (script_from said number texts))))
          (script_from said number texts).refused).text)
          (ap (played (facts_in said.facts)) none ∙ played-nothing (facts_in said.facts));
    }
