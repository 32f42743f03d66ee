-- The trace and the bound of passes of the lines so far, with one more line.
use Rattle.std.specs.Prelude.{◌≡◌, ℕ, ◌+◌, List, [], ◌∷◌, ◌++◌, Option, Some, None, Result, Ok, Err}
use Rattle.std.proofs.Common.{sym, ◌∙◌, ap, refl, subst, arith, add_assoc, add-zero, zero-add, inl, inr}
use Rattle.std.proofs.lemmas.List.{append-nil}
use Rattle.msd_fit.specs.declared.facts.Facts.{Facts}
use Rattle.trace_model.specs.declared.event.Event.{Event}
use Rattle.trace_text.specs.declared.fact_line.FactLine.{FactLine}
use Rattle.line_input.specs.declared.reason.Reason.{Reason}
use Rattle.trace_text.specs.declared.script.ScriptLine.{ScriptLine}
use Rattle.trace_text.specs.declared.script.ScriptLine.TheVariants as line
use Rattle.trace_text.specs.Facts.{facts_in}
use Rattle.trace_text.specs.Script.{Said, judged, said_after, script_from}
use Rattle.channel_sim.specs.Lines.{bound_from, passes_within, step, trace_from, world_after}
use Rattle.channel_sim.specs.World.{World, first_world}
use Rattle.script_stage.specs.ScriptTrace.{most_passes, played, script_passes}
use Rattle.script_stage.specs.Progress.{event_of, events_before, entries_in, entries_of, passes_by, passes_in, world_left}
use Rattle.script_stage.specs.ScriptSeen.{IsTidy, ScriptSeen, passes_behind_lines, script_behind}
use Rattle.script_stage.specs.inner.TraceLaws.{IsNoFact, no_fact_judged, trace_from-append}
use Rattle.script_stage.specs.inner.ScriptLaws.{behind_none, events_before-in_front, passes_passed, script_from-bad, script_from-comment, script_from-line}

-- the entries of one more line stand behind those before it
pub played-line : (said : Said) (events : List Event) → (says : ScriptLine)
    → played (facts_in said.facts)
    (events ++ event_of says) ≡ played (facts_in said.facts) events ++ entries_of said events says
played-line said events says = by_facts (facts_in said.facts) says
  where
    by_facts : (o : Option Facts) → (says : ScriptLine)
        → played o (events ++ event_of says) ≡ played o events ++ entries_in (world_left o events) says
    by_facts None says = refl
    by_facts (Some known) (line.Fact f) =
        ap (trace_from (first_world known)) (append-nil events) ∙ sym
        (append-nil (trace_from (first_world known) events))
    by_facts (Some known) (line.Event e) =
        trace_from-append (first_world known) events (e ∷ [])
        ∙ ap (λ t. trace_from (first_world known) events ++ t)
        (append-nil (step (world_after (first_world known) events) e).entries)

pub played-nothing : (o : Option Facts) → played o [] ≡ []
played-nothing None = refl
played-nothing (Some known) = refl

-- the bounds of events one behind the other are added
pub bound_from-append : (w : World) → (es fs : List Event)
    → bound_from w (es ++ fs) ≡ bound_from w es + bound_from (world_after w es) fs
bound_from-append w [] fs = sym (zero-add (bound_from w fs))
bound_from-append w (e ∷ es) fs =
    ap (λ n. passes_within w e + n) (bound_from-append (step w e).world es fs)
    ∙ sym (add_assoc (passes_within w e) (bound_from (step w e).world es)
    (bound_from (world_after (step w e).world es) fs))

-- the bound of one more line is added to that of those before it
pub most_passes-line : (said : Said) (events : List Event) → (says : ScriptLine)
    → most_passes (facts_in said.facts) (events ++ event_of says)
    ≡ most_passes (facts_in said.facts) events + passes_by said events says
most_passes-line said events says = by_facts (facts_in said.facts) says
  where
    by_facts : (o : Option Facts) → (says : ScriptLine)
        → most_passes o (events ++ event_of says) ≡ most_passes o events + passes_in (world_left o events) says
    by_facts None says = refl
    by_facts (Some known) (line.Fact f) =
        ap (bound_from (first_world known)) (append-nil events) ∙ sym (add-zero (bound_from (first_world known) events))
    by_facts (Some known) (line.Event e) =
        bound_from-append (first_world known) events (e ∷ [])
        ∙ ap (λ n. bound_from (first_world known) events + n)
        (add-zero (passes_within (world_after (first_world known) events) e))

pub most_passes-nothing : (o : Option Facts) → most_passes o [] ≡ 0
most_passes-nothing None = refl
most_passes-nothing (Some known) = refl

-- a fact line passes no end
pub no_passes : (o : Option World) (f : FactLine) → passes_in o (line.Fact f) ≡ 0
no_passes None f = refl
no_passes (Some w) f = refl

fact_is_first : (said : Said) (events : List Event) (text : List ℕ) (f : FactLine) → IsTidy said events
    → judged said text ≡ Ok (Some (line.Fact f)) → events ≡ []
fact_is_first said events text f (inr none) judge = none
fact_is_first said events text f (inl eventful) judge =
    absurd (subst IsNoFact judge (no_fact_judged said eventful text))

pub tidy_behind : (said : Said) (events : List Event) (text : List ℕ) → IsTidy said events → (says : ScriptLine)
    → judged said text ≡ Ok (Some says) → IsTidy (said_after said says) (events ++ event_of says)
tidy_behind said events text tidy (line.Fact f) judge =
    inr (append-nil events ∙ fact_is_first said events text f tidy judge)
tidy_behind said events text tidy (line.Event e) judge = inl refl

-- a fact line gives no entry
pub no_entries : (o : Option World) (f : FactLine) → entries_in o (line.Fact f) ≡ []
no_entries None f = refl
no_entries (Some w) f = refl

-- the trace of the lines so far, with one more line
pub trace_behind : (said : Said) (events : List Event) (text : List ℕ) → IsTidy said events → (says : ScriptLine)
    → judged said text ≡ Ok (Some says)
    → played (facts_in (said_after said says).facts)
    (events ++ event_of says) ≡ played (facts_in said.facts) events ++ entries_of said events says
trace_behind said events text tidy (line.Event e) judge = played-line said events (line.Event e)
trace_behind said events text tidy (line.Fact f) judge =
    let none : events ≡ [] = fact_is_first said events text f tidy judge in
    let known : Option Facts = facts_in (said.facts ++ f ∷ []) in
    ap (played known) (append-nil events ∙ none) ∙ played-nothing known
    ∙ sym (ap (λ t. t ++ entries_of said events (line.Fact f))
    (ap (played (facts_in said.facts)) none ∙ played-nothing (facts_in said.facts))
    ∙ no_entries (world_left (facts_in said.facts) events) f)

pub passes_behind : (said : Said) (events : List Event) (text : List ℕ) → IsTidy said events → (says : ScriptLine)
    → judged said text ≡ Ok (Some says)
    → most_passes (facts_in (said_after said says).facts) (events ++ event_of says)
    ≡ most_passes (facts_in said.facts) events + passes_by said events says
passes_behind said events text tidy (line.Event e) judge = most_passes-line said events (line.Event e)
passes_behind said events text tidy (line.Fact f) judge =
    let none : events ≡ [] = fact_is_first said events text f tidy judge in
    let known : Option Facts = facts_in (said.facts ++ f ∷ []) in
    ap (most_passes known) (append-nil events ∙ none) ∙ most_passes-nothing known
    ∙ sym (ap (λ n. n + passes_by said events (line.Fact f))
    (ap (most_passes (facts_in said.facts)) none ∙ most_passes-nothing (facts_in said.facts))
    ∙ ap (λ n. 0 + n) (no_passes (world_left (facts_in said.facts) events) f))

-- a line's passes, and those behind it
pub passes_said : (said : Said) (events : List Event) (text : List ℕ) (texts : List (List ℕ)) (says : ScriptLine)
    → judged said text ≡ Ok (Some says)
    → passes_behind_lines said events (text ∷ texts)
    ≡ passes_by said events says + passes_behind_lines (said_after said says) (events ++ event_of says) texts
unfolding passes_behind_lines
passes_said said events text texts says h = rw (passes_behind_lines, h) refl

-- the script behind a line
pub script_said : (seen : ScriptSeen) (number : ℕ) (text : List ℕ) (texts : List (List ℕ)) (says : ScriptLine)
    → judged seen.said text ≡ Ok (Some says)
    → script_behind seen number (text ∷ texts)
    ≡ script_behind (record { said = said_after seen.said says; events = seen.events ++ event_of says }) (number + 1)
    texts
script_said seen number text texts says h =
    ap (events_before seen.events) (script_from-line seen.said text number texts says h)
    ∙ events_before-in_front seen.events says (script_from (said_after seen.said says) (number + 1) texts)

passes_none : (said : Said) (events : List Event)
    → passes_behind_lines said events [] + most_passes (facts_in said.facts) events
    ≡ most_passes (facts_in said.facts) events
unfolding passes_behind_lines
passes_none said events = zero-add (most_passes (facts_in said.facts) events)

passes_refused : (said : Said) (events : List Event) (text : List ℕ) (texts : List (List ℕ)) (why : Reason)
    → judged said text ≡ Err why → passes_behind_lines said events (text ∷ texts) ≡ 0
unfolding passes_behind_lines
passes_refused said events text texts why h = rw (passes_behind_lines, h) refl

-- how often a script passes the ends at most: as its lines do, one after another
pub passes_whole : (said : Said) (events : List Event) (texts : List (List ℕ)) (number : ℕ) → IsTidy said events
    → passes_behind_lines said events texts + most_passes (facts_in said.facts) events
    ≡ script_passes (script_behind (record { said = said; events = events }) number texts)
passes_whole said events [] number tidy =
    passes_none said events
    ∙ ap script_passes (sym (behind_none (record { said = said; events = events }) number))
passes_whole said events (text ∷ texts) number tidy =
    by_answer (judged said text) refl (passes_whole said events texts (number + 1) tidy)
    (λ says h.
    passes_whole (said_after said says) (events ++ event_of says) texts (number + 1)
    (tidy_behind said events text tidy says h))
  where
    seen : ScriptSeen
    seen = record { said = said; events = events }

    by_answer : (a : Result (Option ScriptLine) Reason) → judged said text ≡ a
        → (passes_behind_lines said events texts + most_passes (facts_in said.facts) events
        ≡ script_passes (script_behind seen (number + 1) texts))
        → ((says : ScriptLine) → judged said text ≡ Ok (Some says)
        → passes_behind_lines (said_after said says) (events ++ event_of says) texts
        + most_passes (facts_in (said_after said says).facts) (events ++ event_of says)
        ≡ script_passes (script_behind (record { said = said_after said says; events = events ++ event_of says })
        (number + 1) texts))
        → passes_behind_lines said events (text ∷ texts) + most_passes (facts_in said.facts) events
        ≡ script_passes (script_behind seen number (text ∷ texts))
    by_answer (Ok None) h passed some =
        ap (λ n. n + most_passes (facts_in said.facts) events) (passes_passed said events text texts h)
        ∙ passed
        ∙ ap (λ x. script_passes (events_before events x)) (sym (script_from-comment said text number texts h))
    by_answer (Ok (Some says)) h passed some =
        let here = passes_said said events text texts says h in
        let behind = passes_behind said events text tidy says h in
        let all = some says h in
        let sum : passes_behind_lines said events (text ∷ texts) + most_passes (facts_in said.facts) events
        ≡ passes_behind_lines (said_after said says) (events ++ event_of says) texts
        + most_passes (facts_in (said_after said says).facts) (events ++ event_of says) =
        omega (arith, here, behind) in
        sum ∙ all ∙ ap script_passes (sym (script_said seen number text texts says h))
    by_answer (Err why) h passed some =
        ap (λ n. n + most_passes (facts_in said.facts) events) (passes_refused said events text texts why h)
        ∙ zero-add (most_passes (facts_in said.facts) events)
        ∙ ap (most_passes (facts_in said.facts)) (sym (append-nil events))
        ∙ ap (λ x. script_passes (events_before events x)) (sym (script_from-bad said text number texts why h))
