-- The script that a floor's lines say, one after another, what `floor` has come to behind some of them, its reply to
-- the others, and its law as a command over lines, proved. Cited by that command.
use Rattle.std.specs.Prelude.{◌≡◌, ℕ, ◌+◌, Bool, true, false, cond, List, [], ◌∷◌, ◌++◌, Option, Some, None, Result, Ok, Err}
use Rattle.std.proofs.Common.{sym, ◌∙◌, ap, refl, arith, subst, append_assoc, inl, inr}
use Rattle.std.proofs.lemmas.List.{append-nil}
use Rattle.line_input.specs.Lines.{line_fault, is_comment, IsPassedOver, IsLine}
use Rattle.line_input.specs.declared.reason.BadLine.{BadLine}
use Rattle.line_input.specs.declared.reason.Reason.{Reason}
use Rattle.line_input.specs.declared.reason.Reason.TheVariants as reason
use Rattle.command_base.specs.LineCommands.{IsLined}
use Rattle.command_base.specs.Outcome.{ClosesSilently}
use Rattle.command_base.specs.Refusals.{Reply, refusal_line, refusal_reply, in_front_of}
use Rattle.command_base.specs.declared.refusal.Refused.TheVariants as refused
use Rattle.command_base.specs.declared.status.Status.TheVariants as status
use Rattle.call_floor.specs.Floor.{Floor, Stand, floor_with}
use Rattle.call_floor.specs.FloorLines.{floor_after, floor_step, trace_from}
use Rattle.call_floor.specs.declared.event.FloorEvent.{FloorEvent}
use Rattle.script_stage.specs.ScriptTrace.{ended}
use Rattle.floor_command.specs.FloorRun.{played, script_trace}
use Rattle.floor_command.specs.FloorScript.{FloorSaid, FloorScript, in_front, is_there, judged, placed, placed_event, placed_fact, placed_line, floor_says, said_after, script_from, stands_in}
use Rattle.floor_command.specs.FloorText.{text_of}
use Rattle.floor_command.specs.declared.says.FloorLine.{FloorLine}
use Rattle.floor_command.specs.declared.says.FloorLine.TheVariants as line
use Rattle.floor_command.specs.declared.stage.FloorStage.{FloorStage}
use Rattle.floor_command.specs.inner.FloorSeen.{IsTidy, FloorSeen, passes_from, passes_behind_lines, script_behind}
use Rattle.floor_command.specs.inner.FloorStage.{IsEarly, StageStandsFor}
use Rattle.floor_command.specs.inner.FloorTextLaws.{text_of-append}
use Rattle.floor_command.specs.inner.Progress.{event_of, events_before}

pub judged-passed : (said : FloorSaid) (text : List ℕ) → IsPassedOver text → judged said text ≡ Ok None
judged-passed said text h = rw (judged, h.0, h.1) refl

pub judged-line : (said : FloorSaid) (text : List ℕ) → IsLine text
    → judged said text ≡ placed_line said (floor_says text)
judged-line said text h = rw (judged, h.0, h.1) refl

pub judged-fault : (said : FloorSaid) (text : List ℕ) (why : Reason) → line_fault text ≡ Some why
    → judged said text ≡ Err why
judged-fault said text why h = rw (judged, h) refl

pub script_from-none : (said : FloorSaid) (number : ℕ)
    → script_from said number [] ≡ record { stands = stands_in said.known; events = []; refused = None }
unfolding script_from
script_from-none said number = refl

pub script_from-line : (said : FloorSaid) (text : List ℕ) (number : ℕ) (rest : List (List ℕ)) (says : FloorLine)
    → judged said text ≡ Ok (Some says)
    → script_from said number (text ∷ rest) ≡ in_front says (script_from (said_after said says) (number + 1) rest)
unfolding script_from
script_from-line said text number rest says h = rw (script_from, h) refl

pub script_from-bad : (said : FloorSaid) (text : List ℕ) (number : ℕ) (rest : List (List ℕ)) (why : Reason)
    → judged said text ≡ Err why
    → script_from said number (text ∷ rest)
    ≡ record { stands = stands_in said.known; events = []; refused = Some (record { line = number; reason = why }) }
unfolding script_from
script_from-bad said text number rest why h = rw (script_from, h) refl

-- a line's events stand behind those before it
pub events_before-in_front : (events : List FloorEvent) (says : FloorLine) (script : FloorScript)
    → events_before events (in_front says script) ≡ events_before (events ++ event_of says) script
events_before-in_front events (line.Fact v f) script = ap (λ es. events_before es script) (sym (append-nil events))
events_before-in_front events (line.Event e) script =
    ap (λ es. record script { events = es }) (sym (append_assoc events (e ∷ []) script.events))

pub script_from-comment : (said : FloorSaid) (text : List ℕ) (number : ℕ) (rest : List (List ℕ))
    → judged said text ≡ Ok None → script_from said number (text ∷ rest) ≡ script_from said (number + 1) rest
unfolding script_from
script_from-comment said text number rest h = rw (script_from, h) refl

-- lines that are passed over say nothing
pub behind_passed : (seen : FloorSeen) (number : ℕ) (text : List ℕ) (texts : List (List ℕ)) → IsPassedOver text
    → script_behind seen number (text ∷ texts) ≡ script_behind seen (number + 1) texts
behind_passed seen number text texts passed =
    ap (events_before seen.events)
    (script_from-comment seen.said text number texts (judged-passed seen.said text passed))

-- at the end of the input it is what the lines said
pub behind_none : (seen : FloorSeen) (number : ℕ)
    → script_behind seen number []
    ≡ record { stands = stands_in seen.said.known; events = seen.events; refused = None }
behind_none seen number =
    ap (events_before seen.events) (script_from-none seen.said number)
    ∙ ap (λ es. record { stands = stands_in seen.said.known; events = es; refused = None }) (append-nil seen.events)

pub passes_passed : (said : FloorSaid) (events : List FloorEvent) (text : List ℕ) (texts : List (List ℕ))
    → judged said text ≡ Ok None
    → passes_behind_lines said events (text ∷ texts) ≡ passes_behind_lines said events texts
unfolding passes_behind_lines
passes_passed said events text texts h = rw (passes_behind_lines, h) refl

-- the text of the trace of the lines so far
abbrev pub text_so_far : FloorSeen → List ℕ
text_so_far seen = text_of (played (stands_in seen.said.known) seen.events)

abbrev pub script_reply : FloorScript → Reply
script_reply script = ended (text_of (script_trace script)) script.refused

-- the reply to lines behind what was said: what stands behind the text so far in the reply to all
abbrev pub FloorFrom : FloorSeen → ℕ → List (List ℕ) → Reply → Type 0
FloorFrom seen number texts r = in_front_of (text_so_far seen) r ≡ script_reply (script_behind seen number texts)

-- The stage stands for what the lines said.
pub record FloorRunStands (before : ℕ) (seen : FloorSeen) (stage : FloorStage) : Type 0 where
  pub stage_stands : StageStandsFor stage seen.said seen.events
  pub early : IsEarly stage before
  pub tidy : IsTidy seen.said seen.events

-- events one behind the other are traced one behind the other
pub trace_from-append : (w : Floor) → (es fs : List FloorEvent)
    → trace_from w (es ++ fs) ≡ trace_from w es ++ trace_from (floor_after w es) fs
trace_from-append w [] fs = refl
trace_from-append w (e ∷ es) fs =
    ap (λ t. (floor_step w e).entries ++ t) (trace_from-append (floor_step w e).floor es fs)
    ∙ sym (append_assoc (floor_step w e).entries (trace_from (floor_step w e).floor es)
    (trace_from (floor_after (floor_step w e).floor es) fs))

-- an answer that isn't a fact line
abbrev pub IsNoFact : Result (Option FloorLine) Reason → Type 0
IsNoFact (Ok (Some (line.Fact v f))) = ⊥
IsNoFact _ = Unit {0}

-- behind the first event line no fact line stands
no_fact_placed : (said : FloorSaid) → said.eventful ≡ true → (says : FloorLine) → IsNoFact (placed said says)
no_fact_placed said eventful (line.Fact v f) =
    subst (λ (b : Bool). IsNoFact (cond b (Err reason.Late) (placed_fact said.known v f))) (sym eventful) tt
no_fact_placed said eventful (line.Event e) = by_facts (stands_in said.known)
  where
    by_place : (b : Bool) → IsNoFact (cond b (Ok (Some (line.Event e))) (Err reason.Missing))
    by_place true = tt
    by_place false = tt

    by_facts : (known : Option (List Stand)) → IsNoFact (placed_event said.known e known)
    by_facts None = tt
    by_facts (Some stands) = by_place (is_there said.known e)

pub no_fact_judged : (said : FloorSaid) → said.eventful ≡ true → (text : List ℕ) → IsNoFact (judged said text)
no_fact_judged said eventful text = by_parts (line_fault text) (is_comment text) (floor_says text)
  where
    by_parts : (o : Option Reason) (b : Bool) (r : Result FloorLine Reason)
        → IsNoFact (elim o [ Some why ↦ Err why | None ↦ cond b (Ok None) (placed_line said r) ])
    by_parts (Some why) b r = tt
    by_parts None true r = tt
    by_parts None false (Err why) = tt
    by_parts None false (Ok says) = no_fact_placed said eventful says

-- behind the first event line the facts stay as they are
pub facts_kept : (said : FloorSaid) → said.eventful ≡ true → (texts : List (List ℕ)) (number : ℕ)
    → (script_from said number texts).stands ≡ stands_in said.known
facts_kept said eventful [] number = ap (λ s. s.stands) (script_from-none said number)
facts_kept said eventful (text ∷ texts) number =
    by_answer (judged said text) refl (no_fact_judged said eventful text) (facts_kept said eventful texts (number + 1))
    (λ e. facts_kept (said_after said (line.Event e)) refl texts (number + 1))
  where
    by_answer : (a : Result (Option FloorLine) Reason) → judged said text ≡ a → IsNoFact a
        → (script_from said (number + 1) texts).stands ≡ stands_in said.known
        → ((e : FloorEvent)
        → (script_from (said_after said (line.Event e)) (number + 1) texts).stands ≡ stands_in said.known)
        → (script_from said number (text ∷ texts)).stands ≡ stands_in said.known
    by_answer (Ok None) h fact same event = ap (λ s. s.stands) (script_from-comment said text number texts h) ∙ same
    by_answer (Ok (Some (line.Fact v f))) h fact same event = absurd fact
    by_answer (Ok (Some (line.Event e))) h fact same event =
        ap (λ s. s.stands) (script_from-line said text number texts (line.Event e) h) ∙ event e
    by_answer (Err why) h fact same event = ap (λ s. s.stands) (script_from-bad said text number texts why h)

-- a text that another begins with
record Begins (a b : List ℕ) : Type 0 where
  rest : List ℕ
  whole : a ++ rest ≡ b

begins_append : (a b c : List ℕ) → Begins a b → Begins a (b ++ c)
begins_append a b c h = record { rest = h.rest ++ c; whole = sym (append_assoc a h.rest c) ∙ ap (λ t. t ++ c) h.whole }

begins_ended : (a text : List ℕ) → (o : Option BadLine) → Begins a text → Begins a (ended text o).text
begins_ended a text None h = h
begins_ended a text (Some bad) h = begins_append a text (refusal_line (refused.Line bad)) h

pub played-nothing : (o : Option (List Stand)) → played o [] ≡ []
played-nothing None = refl
played-nothing (Some stands) = refl

played-append : (o : Option (List Stand)) (es fs : List FloorEvent)
    → Begins (text_of (played o es)) (text_of (played o (es ++ fs)))
played-append None es fs = record { rest = []; whole = refl }
played-append (Some stands) es fs =
    let w : Floor = floor_with stands in
    record {
      rest = text_of (trace_from (floor_after w es) fs);
      whole =
          sym (ap text_of (trace_from-append w es fs) ∙ text_of-append (trace_from w es)
          (trace_from (floor_after w es) fs));
    }

-- the text so far is a front of the text of the reply
text_begins : (said : FloorSaid) (events : List FloorEvent) → IsTidy said events → (texts : List (List ℕ)) (number : ℕ)
    → let script : FloorScript = events_before events (script_from said number texts) in Begins
    (text_of (played (stands_in said.known) events)) (ended (text_of (script_trace script)) script.refused).text
text_begins said events (inl eventful) texts number =
    let rest : FloorScript = script_from said number texts in
    begins_ended _ _ rest.refused
    (subst (λ (r : Option (List Stand)).
    Begins (text_of (played (stands_in said.known) events)) (text_of (played r (events ++ rest.events))))
    (sym (facts_kept said eventful texts number)) (played-append (stands_in said.known) events rest.events))
text_begins said events (inr none) texts number =
    record {
      rest =
          (ended (text_of (script_trace (events_before events (script_from said number texts))))
          (script_from said number texts).refused).text;
      whole =
          ap (λ t. text_of t ++
          (ended (text_of (script_trace (events_before events (script_from said number texts))))
          (script_from said number texts).refused).text)
          (ap (played (stands_in said.known)) none ∙ played-nothing (stands_in said.known));
    }

-- a line that is refused ends the script
pub floor_refused : (seen : FloorSeen) (number : ℕ) (text : List ℕ) (texts : List (List ℕ)) (why : Reason)
    → judged seen.said text ≡ Err why
    → script_reply (script_behind seen number (text ∷ texts))
    ≡ in_front_of (text_so_far seen) (refusal_reply (refused.Line (record { line = number; reason = why })))
floor_refused seen number text texts why judge =
    ap (λ s. script_reply (events_before seen.events s)) (script_from-bad seen.said text number texts why judge)
    ∙ ap (λ es. ended (text_of (played (stands_in seen.said.known) es)) (Some (record { line = number; reason = why })))
    (append-nil seen.events)

-- behind the last line nothing is said
pub floor_done : (seen : FloorSeen) (number : ℕ) → FloorFrom seen number [] (record { text = []; status = status.Done })
floor_done seen number =
    ap (λ t. record { text = t; status = status.Done }) (append-nil (text_so_far seen))
    ∙ ap script_reply (sym (behind_none seen number))

pub floor_lined : (seen : FloorSeen) → IsTidy seen.said seen.events → IsLined (FloorFrom seen) (passes_from seen)
    ClosesSilently
floor_lined seen tidy =
    record {
      done = λ number. (record { text = []; status = status.Done }, floor_done seen number, refl, refl);
      some = λ number texts.
          let begins = text_begins seen.said seen.events tidy texts number in
          let answer = (script_reply (script_behind seen number texts)).status in (
            record { text = begins.rest; status = answer },
            ap (λ t. record { text = t; status = answer }) begins.whole,
          );
      passed = λ number text texts r passed is.
          is ∙ ap script_reply (sym (behind_passed seen number text texts passed));
      counted = λ number text texts passed.
          let same : passes_behind_lines seen.said seen.events (text ∷ texts)
          ≡ passes_behind_lines seen.said seen.events texts =
          passes_passed seen.said seen.events text texts (judged-passed seen.said text passed) in
          omega (arith, same);
      faulty = λ number text texts why fails.
          sym (floor_refused seen number text texts why (judged-fault seen.said text why fails));
    }
