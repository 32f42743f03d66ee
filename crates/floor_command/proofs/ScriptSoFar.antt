-- The trace and the bound of passes of the lines so far, with one more line.
use Rattle.std.specs.Prelude.{◌≡◌, ℕ, ◌+◌, List, [], ◌∷◌, ◌++◌, Option, Some, None, Result, Ok, Err}
use Rattle.std.proofs.Common.{sym, ◌∙◌, ap, refl, subst, arith, add_assoc, add-zero, zero-add, inl, inr}
use Rattle.std.proofs.lemmas.List.{append-nil}
use Rattle.line_input.specs.declared.reason.Reason.{Reason}
use Rattle.trace_text.specs.declared.fact_line.FactLine.{FactLine}
use Rattle.floor_text.specs.VehicleFacts.{with_fact}
use Rattle.call_floor.specs.Floor.{Floor, Stand, floor_with}
use Rattle.call_floor.specs.FloorLines.{floor_after, floor_step, passes_within, trace_from}
use Rattle.call_floor.specs.declared.event.FloorEvent.{FloorEvent}
use Rattle.floor_command.specs.FloorRun.{bound_from, most_passes, played, script_passes}
use Rattle.floor_command.specs.FloorScript.{FloorSaid, judged, said_after, script_from, stands_in}
use Rattle.floor_command.specs.declared.says.FloorLine.{FloorLine}
use Rattle.floor_command.specs.declared.says.FloorLine.TheVariants as line
use Rattle.floor_command.specs.inner.FloorLaws.{IsNoFact, behind_none, events_before-in_front, no_fact_judged, passes_passed, played-nothing, script_from-bad, script_from-comment, script_from-line, trace_from-append}
use Rattle.floor_command.specs.inner.FloorSeen.{IsTidy, FloorSeen, passes_behind_lines, script_behind}
use Rattle.floor_command.specs.inner.Progress.{event_of, events_before, entries_in, entries_of, floor_left, passes_by, passes_in}

-- the entries of one more line stand behind those before it
pub played-line : (said : FloorSaid) (events : List FloorEvent) → (says : FloorLine)
    → played (stands_in said.known)
    (events ++ event_of says) ≡ played (stands_in said.known) events ++ entries_of said events says
played-line said events says = by_facts (stands_in said.known) says
  where
    by_facts : (o : Option (List Stand)) → (says : FloorLine)
        → played o (events ++ event_of says) ≡ played o events ++ entries_in (floor_left o events) says
    by_facts None says = refl
    by_facts (Some stands) (line.Fact v f) =
        ap (trace_from (floor_with stands)) (append-nil events) ∙ sym
        (append-nil (trace_from (floor_with stands) events))
    by_facts (Some stands) (line.Event e) =
        trace_from-append (floor_with stands) events (e ∷ [])
        ∙ ap (λ t. trace_from (floor_with stands) events ++ t)
        (append-nil (floor_step (floor_after (floor_with stands) events) e).entries)

-- the bounds of events one behind the other are added
pub bound_from-append : (w : Floor) → (es fs : List FloorEvent)
    → bound_from w (es ++ fs) ≡ bound_from w es + bound_from (floor_after w es) fs
bound_from-append w [] fs = sym (zero-add (bound_from w fs))
bound_from-append w (e ∷ es) fs =
    ap (λ n. passes_within w e + n) (bound_from-append (floor_step w e).floor es fs)
    ∙ sym (add_assoc (passes_within w e) (bound_from (floor_step w e).floor es)
    (bound_from (floor_after (floor_step w e).floor es) fs))

-- the bound of one more line is added to that of those before it
pub most_passes-line : (said : FloorSaid) (events : List FloorEvent) → (says : FloorLine)
    → most_passes (stands_in said.known) (events ++ event_of says)
    ≡ most_passes (stands_in said.known) events + passes_by said events says
most_passes-line said events says = by_facts (stands_in said.known) says
  where
    by_facts : (o : Option (List Stand)) → (says : FloorLine)
        → most_passes o (events ++ event_of says) ≡ most_passes o events + passes_in (floor_left o events) says
    by_facts None says = refl
    by_facts (Some stands) (line.Fact v f) =
        ap (bound_from (floor_with stands)) (append-nil events) ∙ sym (add-zero (bound_from (floor_with stands) events))
    by_facts (Some stands) (line.Event e) =
        bound_from-append (floor_with stands) events (e ∷ [])
        ∙ ap (λ n. bound_from (floor_with stands) events + n)
        (add-zero (passes_within (floor_after (floor_with stands) events) e))

pub most_passes-nothing : (o : Option (List Stand)) → most_passes o [] ≡ 0
most_passes-nothing None = refl
most_passes-nothing (Some stands) = refl

-- a fact line passes no end
pub no_passes : (o : Option Floor) (v : ℕ) (f : FactLine) → passes_in o (line.Fact v f) ≡ 0
no_passes None v f = refl
no_passes (Some w) v f = refl

fact_is_first : (said : FloorSaid) (events : List FloorEvent) (text : List ℕ) (v : ℕ) (f : FactLine) → IsTidy said events
    → judged said text ≡ Ok (Some (line.Fact v f)) → events ≡ []
fact_is_first said events text v f (inr none) judge = none
fact_is_first said events text v f (inl eventful) judge =
    absurd (subst IsNoFact judge (no_fact_judged said eventful text))

pub tidy_behind : (said : FloorSaid) (events : List FloorEvent) (text : List ℕ) → IsTidy said events → (says : FloorLine)
    → judged said text ≡ Ok (Some says) → IsTidy (said_after said says) (events ++ event_of says)
tidy_behind said events text tidy (line.Fact v f) judge =
    inr (append-nil events ∙ fact_is_first said events text v f tidy judge)
tidy_behind said events text tidy (line.Event e) judge = inl refl

-- a fact line gives no entry
pub no_entries : (o : Option Floor) (v : ℕ) (f : FactLine) → entries_in o (line.Fact v f) ≡ []
no_entries None v f = refl
no_entries (Some w) v f = refl

-- the trace of the lines so far, with one more line
pub trace_behind : (said : FloorSaid) (events : List FloorEvent) (text : List ℕ) → IsTidy said events → (says : FloorLine)
    → judged said text ≡ Ok (Some says)
    → played (stands_in (said_after said says).known)
    (events ++ event_of says) ≡ played (stands_in said.known) events ++ entries_of said events says
trace_behind said events text tidy (line.Event e) judge = played-line said events (line.Event e)
trace_behind said events text tidy (line.Fact v f) judge =
    let none : events ≡ [] = fact_is_first said events text v f tidy judge in
    let known : Option (List Stand) = stands_in (with_fact v f said.known) in
    ap (played known) (append-nil events ∙ none) ∙ played-nothing known
    ∙ sym (ap (λ t. t ++ entries_of said events (line.Fact v f))
    (ap (played (stands_in said.known)) none ∙ played-nothing (stands_in said.known))
    ∙ no_entries (floor_left (stands_in said.known) events) v f)

pub passes_behind : (said : FloorSaid) (events : List FloorEvent) (text : List ℕ) → IsTidy said events → (says : FloorLine)
    → judged said text ≡ Ok (Some says)
    → most_passes (stands_in (said_after said says).known) (events ++ event_of says)
    ≡ most_passes (stands_in said.known) events + passes_by said events says
passes_behind said events text tidy (line.Event e) judge = most_passes-line said events (line.Event e)
passes_behind said events text tidy (line.Fact v f) judge =
    let none : events ≡ [] = fact_is_first said events text v f tidy judge in
    let known : Option (List Stand) = stands_in (with_fact v f said.known) in
    ap (most_passes known) (append-nil events ∙ none) ∙ most_passes-nothing known
    ∙ sym (ap (λ n. n + passes_by said events (line.Fact v f))
    (ap (most_passes (stands_in said.known)) none ∙ most_passes-nothing (stands_in said.known))
    ∙ ap (λ n. 0 + n) (no_passes (floor_left (stands_in said.known) events) v f))

-- a line's passes, and those behind it
pub passes_said : (said : FloorSaid) (events : List FloorEvent) (text : List ℕ) (texts : List (List ℕ)) (says : FloorLine)
    → judged said text ≡ Ok (Some says)
    → passes_behind_lines said events (text ∷ texts)
    ≡ passes_by said events says + passes_behind_lines (said_after said says) (events ++ event_of says) texts
unfolding passes_behind_lines
passes_said said events text texts says h = rw (passes_behind_lines, h) refl

-- the script behind a line
pub script_said : (seen : FloorSeen) (number : ℕ) (text : List ℕ) (texts : List (List ℕ)) (says : FloorLine)
    → judged seen.said text ≡ Ok (Some says)
    → script_behind seen number (text ∷ texts)
    ≡ script_behind (record { said = said_after seen.said says; events = seen.events ++ event_of says }) (number + 1)
    texts
script_said seen number text texts says h =
    ap (events_before seen.events) (script_from-line seen.said text number texts says h)
    ∙ events_before-in_front seen.events says (script_from (said_after seen.said says) (number + 1) texts)

passes_none : (said : FloorSaid) (events : List FloorEvent)
    → passes_behind_lines said events [] + most_passes (stands_in said.known) events
    ≡ most_passes (stands_in said.known) events
unfolding passes_behind_lines
passes_none said events = zero-add (most_passes (stands_in said.known) events)

passes_refused : (said : FloorSaid) (events : List FloorEvent) (text : List ℕ) (texts : List (List ℕ)) (why : Reason)
    → judged said text ≡ Err why → passes_behind_lines said events (text ∷ texts) ≡ 0
unfolding passes_behind_lines
passes_refused said events text texts why h = rw (passes_behind_lines, h) refl

-- how often a script passes the ends at most: as its lines do, one after another
pub passes_whole : (said : FloorSaid) (events : List FloorEvent) (texts : List (List ℕ)) (number : ℕ) → IsTidy said events
    → passes_behind_lines said events texts + most_passes (stands_in said.known) events
    ≡ script_passes (script_behind (record { said = said; events = events }) number texts)
passes_whole said events [] number tidy =
    passes_none said events
    ∙ ap script_passes (sym (behind_none (record { said = said; events = events }) number))
passes_whole said events (text ∷ texts) number tidy =
    by_answer (judged said text) refl (passes_whole said events texts (number + 1) tidy)
    (λ says h.
    passes_whole (said_after said says) (events ++ event_of says) texts (number + 1)
    (tidy_behind said events text tidy says h))
  where
    seen : FloorSeen
    seen = record { said = said; events = events }

    by_answer : (a : Result (Option FloorLine) Reason) → judged said text ≡ a
        → (passes_behind_lines said events texts + most_passes (stands_in said.known) events
        ≡ script_passes (script_behind seen (number + 1) texts))
        → ((says : FloorLine) → judged said text ≡ Ok (Some says)
        → passes_behind_lines (said_after said says) (events ++ event_of says) texts
        + most_passes (stands_in (said_after said says).known) (events ++ event_of says)
        ≡ script_passes (script_behind (record { said = said_after said says; events = events ++ event_of says })
        (number + 1) texts))
        → passes_behind_lines said events (text ∷ texts) + most_passes (stands_in said.known) events
        ≡ script_passes (script_behind seen number (text ∷ texts))
    by_answer (Ok None) h passed some =
        ap (λ n. n + most_passes (stands_in said.known) events) (passes_passed said events text texts h)
        ∙ passed
        ∙ ap (λ x. script_passes (events_before events x)) (sym (script_from-comment said text number texts h))
    by_answer (Ok (Some says)) h passed some =
        let here = passes_said said events text texts says h in
        let behind = passes_behind said events text tidy says h in
        let all = some says h in
        let sum : passes_behind_lines said events (text ∷ texts) + most_passes (stands_in said.known) events
        ≡ passes_behind_lines (said_after said says) (events ++ event_of says) texts
        + most_passes (stands_in (said_after said says).known) (events ++ event_of says) =
        omega (arith, here, behind) in
        sum ∙ all ∙ ap script_passes (sym (script_said seen number text texts says h))
    by_answer (Err why) h passed some =
        ap (λ n. n + most_passes (stands_in said.known) events) (passes_refused said events text texts why h)
        ∙ zero-add (most_passes (stands_in said.known) events)
        ∙ ap (most_passes (stands_in said.known)) (sym (append-nil events))
        ∙ ap (λ x. script_passes (events_before events x)) (sym (script_from-bad said text number texts why h))
