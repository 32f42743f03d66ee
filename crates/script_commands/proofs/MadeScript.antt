-- What a script that is made says: its facts and its events. No line of it is refused.
use Rattle.std.specs.Prelude.{nat_lt}
use Rattle.std.specs.List.{AllByRecursion, list_all}
use Rattle.std.proofs.Common.{◌≡◌, ℕ, ◌+◌, ◌^◌, ◌<◌, ◌≤◌, zero, suc, true, false, List, [], ◌∷◌, ◌++◌, length, codes, decimal, Some, None, Ok, refl, sym, ap, subst, ◌∙◌, arith}
use Rattle.std.proofs.lemmas.Bool.{false_from_ne_true, ltb-true}
use Rattle.std.proofs.lemmas.Fmt.{digits_decimal, length-decimal-le}
use Rattle.std.proofs.lemmas.List.{append-nil}
use Rattle.msd_fit.specs.declared.cause.Cause.TheVariants as cause
use Rattle.msd_fit.specs.declared.facts.Facts.{Facts}
use Rattle.msd_fit.specs.declared.facts.Facts.TheVariants as facts
use Rattle.msd_values.specs.Alphabet as alphabet
use Rattle.trace_text.specs.EventLines.{number_line}
use Rattle.trace_text.specs.Facts.{facts_in}
use Rattle.line_input.specs.Feed.{IsInner}
use Rattle.line_input.specs.Lines.{is_comment, is_printable, line_fault, lines_of}
use Rattle.line_input.specs.Numbers.{is_digit}
use Rattle.trace_text.specs.Script.{Said, Script, judged, nothing_said, placed_event, placed_line, said_after, script_from, script_line, script_of}
use Rattle.line_input.specs.Words.{words}
use Rattle.trace_model.specs.declared.event.Event.{Event}
use Rattle.trace_model.specs.declared.event.Event.TheVariants as event
use Rattle.trace_text.specs.declared.fact_line.FactLine.{FactLine}
use Rattle.trace_text.specs.declared.fact_line.FactLine.TheVariants as fact
use Rattle.trace_text.specs.declared.script.ScriptLine.TheVariants as line
use Rattle.trace_text.proofs.EntryNumbers.{natural_below-decimal, positive_below-decimal, word-decimal}
use Rattle.trace_text.proofs.EntryWords.{words-front}
use Rattle.line_input.proofs.LinesLemmas.{lines_of-line, lines_of-nil}
use Rattle.line_input.proofs.NumberLemmas.{digits_model, first_true, second_true}
use Rattle.script_commands.specs.declared.make.CallTimes.{CallTimes}
use Rattle.script_commands.specs.Make.{call_lines, call_times, fact_lines, lines_of_calls, made_script, most_made, text_of_lines, x_behind}
use Rattle.script_commands.specs.inner.Trialled.{call_events, events_of_calls, made_own}
use Rattle.script_stage.specs.inner.ScriptLaws.{judged-line, script_from-line, script_from-none}

-- ---- lines of printable characters

abbrev IsPlain : List ℕ → Type 0
IsPlain text = list_all is_printable text ≡ true

abbrev ArePlain : List (List ℕ) → Type 0
ArePlain [] = Unit {0}
ArePlain (text ∷ texts) = IsPlain text × ArePlain texts

plain-append : (a b : List (List ℕ)) → ArePlain a → ArePlain b → ArePlain (a ++ b)
plain-append [] b first second = second
plain-append (text ∷ a) b first second = (first.0, plain-append a b first.1 second)

newline_unprintable : is_printable 10 ≡ false
newline_unprintable = refl

printable_inner : (b : ℕ) → is_printable b ≡ true → IsInner b
printable_inner b printable newline =
    let never : false ≡ true = sym newline_unprintable ∙ sym (ap is_printable newline) ∙ printable in absurd cc

plain_inner : (text : List ℕ) → IsPlain text → AllByRecursion IsInner text
plain_inner [] plain = tt
plain_inner (b ∷ text) plain = (
  printable_inner b (first_true (is_printable b) (list_all is_printable text) plain),
  plain_inner text (second_true (is_printable b) (list_all is_printable text) plain),
)

-- the lines of the text of such lines are these
lines_of-text : (lines : List (List ℕ)) → ArePlain lines → lines_of (text_of_lines lines) ≡ lines
lines_of-text [] plain = lines_of-nil
lines_of-text (line ∷ lines) plain =
    lines_of-line line (text_of_lines lines) (plain_inner line plain.0)
    ∙ ap (λ (ls : List (List ℕ)). line ∷ ls) (lines_of-text lines plain.1)

-- ---- numbers

printable_digit : (c : ℕ) → is_digit c ≡ true → is_printable c ≡ true
printable_digit c digit = grind arith

printable_digits : (text : List ℕ) → list_all is_digit text ≡ true → IsPlain text
printable_digits [] all = refl
printable_digits (c ∷ text) all =
    rw (printable_digit c (first_true (is_digit c) (list_all is_digit text) all))
    (printable_digits text (second_true (is_digit c) (list_all is_digit text) all))

plain-decimal : (n : ℕ) → n < 2 ^ 32 → IsPlain (decimal n)
plain-decimal n fits = printable_digits (decimal n) (digits_decimal digits_model n (omega arith))

length-decimal : (n : ℕ) → n < 2 ^ 32 → length (decimal n) ≤ 10
length-decimal n fits = length-decimal-le 10 n (omega arith) (omega arith) (omega arith)

words-decimal : (n : ℕ) → n < 2 ^ 32 → words (decimal n) ≡ decimal n ∷ []
words-decimal n fits =
    subst (λ (t : List ℕ). words t ≡ decimal n ∷ []) (append-nil (decimal n))
    (words-front (decimal n) [] (word-decimal n (omega arith)))

-- ---- lines of events

-- a line says this event, wherever it stands
record SaysEvent (text : List ℕ) (e : Event) : Type 0 where
  plain : IsPlain text
  short : length text ≤ 512
  some : is_comment text ≡ false
  says : script_line text ≡ Ok (line.Event e)

no_fault : (text : List ℕ) → IsPlain text → length text ≤ 512 → line_fault text ≡ None
no_fault text plain short =
    let test : nat_lt 512 (length text) ≡ false =
    false_from_ne_true (nat_lt 512 (length text))
    (λ e. let below : 512 < length text = ltb-true 512 (length text) e in absurd (omega arith)) in
    rw (test, plain) refl

judged-event : (said : Said) (known : Facts) (text : List ℕ) (e : Event) → facts_in said.facts ≡ Some known
    → SaysEvent text e → judged said text ≡ Ok (Some (line.Event e))
judged-event said known text e is says =
    judged-line said text (no_fault text says.plain says.short, says.some)
    ∙ ap (placed_line said) says.says
    ∙ ap (λ o. placed_event o e) is

-- lines say events, one for one
abbrev SayEvents : List (List ℕ) → List Event → Type 0
SayEvents [] [] = Unit {0}
SayEvents [] (e ∷ es) = ⊥
SayEvents (text ∷ texts) [] = ⊥
SayEvents (text ∷ texts) (e ∷ es) = SaysEvent text e × SayEvents texts es

say-append : (a b : List (List ℕ)) (es fs : List Event) → SayEvents a es → SayEvents b fs
    → SayEvents (a ++ b) (es ++ fs)
say-append [] b [] fs first second = second
say-append [] b (e ∷ es) fs first second = absurd first
say-append (text ∷ a) b [] fs first second = absurd first
say-append (text ∷ a) b (e ∷ es) fs first second = (first.0, say-append a b es fs first.1 second)

plain_events : (texts : List (List ℕ)) (es : List Event) → SayEvents texts es → ArePlain texts
plain_events [] [] say = tt
plain_events [] (e ∷ es) say = absurd say
plain_events (text ∷ texts) [] say = absurd say
plain_events (text ∷ texts) (e ∷ es) say = (say.0.plain, plain_events texts es say.1)

abbrev script_with : Facts → List Event → Script
script_with known events = record { facts = Some known; events = events; refused = None }

-- behind known facts, such lines are a script of these events
events_said : (known : Facts) (texts : List (List ℕ)) (es : List Event) (said : Said) (number : ℕ)
    → facts_in said.facts ≡ Some known → SayEvents texts es
    → script_from said number texts ≡ script_with known es
events_said known [] [] said number is say =
    script_from-none said number ∙ ap (λ o. record { facts = o; events = []; refused = None }) is
events_said known [] (e ∷ es) said number is say = absurd say
events_said known (text ∷ texts) [] said number is say = absurd say
events_said known (text ∷ texts) (e ∷ es) said number is say =
    script_from-line said text number texts (line.Event e) (judged-event said known text e is say.0)
    ∙ ap (λ (s : Script). record s { events = e ∷ s.events })
    (events_said known texts es (said_after said (line.Event e)) (number + 1) is say.1)

-- ---- the lines of a call

flow_up-says : (n : ℕ) → n < 1001 → SaysEvent (codes "flow up " ++ decimal n) (event.Flow true n)
flow_up-says n low = record {
  plain = plain-decimal n (omega arith);
  short = omega (arith, length-decimal n (omega arith));
  some = refl;
  says = rw (words-decimal n (omega arith), natural_below-decimal 1001 n (omega arith) low) refl;
}

flow_down-says : (n : ℕ) → n < 1001 → SaysEvent (codes "flow down " ++ decimal n) (event.Flow false n)
flow_down-says n low = record {
  plain = plain-decimal n (omega arith);
  short = omega (arith, length-decimal n (omega arith));
  some = refl;
  says = rw (words-decimal n (omega arith), natural_below-decimal 1001 n (omega arith) low) refl;
}

number-says : (line : ℕ → Event) (n : ℕ) → 0 < n → n < 2 ^ 32 → number_line line (decimal n ∷ []) ≡ Ok (line n)
number-says line n some fits = rw (positive_below-decimal (2 ^ 32) n (omega arith) some fits, number_line) refl

tick-says : (n : ℕ) → 0 < n → n < 2 ^ 32 → SaysEvent (codes "tick " ++ decimal n) (event.Tick n)
tick-says n some fits = record {
  plain = plain-decimal n fits;
  short = omega (arith, length-decimal n fits);
  some = refl;
  says = rw (words-decimal n fits, number-says event.Tick n some fits) refl;
}

request-says : (n : ℕ) → 0 < n → n < 2 ^ 32 → SaysEvent (codes "request " ++ decimal n) (event.Request n)
request-says n some fits = record {
  plain = plain-decimal n fits;
  short = omega (arith, length-decimal n fits);
  some = refl;
  says = rw (words-decimal n fits, number-says event.Request n some fits) refl;
}

clear-says : (n : ℕ) → 0 < n → n < 2 ^ 32 → SaysEvent (codes "clear " ++ decimal n) (event.Clear n)
clear-says n some fits = record {
  plain = plain-decimal n fits;
  short = omega (arith, length-decimal n fits);
  some = refl;
  says = rw (words-decimal n fits, number-says event.Clear n some fits) refl;
}

hangup-says : (n : ℕ) → 0 < n → n < 2 ^ 32 → SaysEvent (codes "hangup " ++ decimal n) (event.Hangup n)
hangup-says n some fits = record {
  plain = plain-decimal n fits;
  short = omega (arith, length-decimal n fits);
  some = refl;
  says = rw (words-decimal n fits, number-says event.Hangup n some fits) refl;
}

trigger-says : SaysEvent (codes "trigger auto") (event.Trigger cause.Auto)
trigger-says = record { plain = refl; short = omega arith; some = refl; says = refl }

answer-says : SaysEvent (codes "answer") event.Answer
answer-says = record { plain = refl; short = omega arith; some = refl; says = refl }

last_tick-says : SaysEvent (codes "tick 40") (event.Tick 40)
last_tick-says = record { plain = refl; short = omega arith; some = refl; says = refl }

-- the times are within what lines may say
record InRange (times : CallTimes) : Type 0 where
  up : times.up < 1001
  down : times.down < 1001
  request : (0 < times.request) × (times.request < 2 ^ 32)
  clear : (0 < times.clear) × (times.clear < 2 ^ 32)

drawn_in_range : (x : ℕ) → InRange (call_times x)
drawn_in_range x = record {
  up = omega arith;
  down = omega arith;
  request = (omega arith, omega arith);
  clear = (omega arith, omega arith);
}

call-says : (call : ℕ) (times : CallTimes) → 0 < call → call < 2 ^ 32 → InRange times
    → SayEvents (call_lines call times) (call_events call times)
call-says call times some fits within = (
  flow_up-says times.up within.up,
  (
    flow_down-says times.down within.down,
    (
      trigger-says,
      (
        answer-says,
        (
          tick-says times.request within.request.0 within.request.1,
          (
            request-says call some fits,
            (
              tick-says times.clear within.clear.0 within.clear.1,
              (
                clear-says call some fits,
                (last_tick-says, (hangup-says call some fits, tt)),
              ),
            ),
          ),
        ),
      ),
    ),
  ),
)

calls-say : (seed calls : ℕ) → calls ≤ most_made → SayEvents (lines_of_calls seed calls) (events_of_calls seed calls)
unfolding lines_of_calls events_of_calls
calls-say seed zero few = tt
calls-say seed (suc calls) few =
    say-append (lines_of_calls seed calls) (call_lines (calls + 1) (call_times (x_behind seed calls)))
    (events_of_calls seed calls) (call_events (calls + 1) (call_times (x_behind seed calls)))
    (calls-say seed calls (omega arith))
    (call-says (calls + 1) (call_times (x_behind seed calls)) (omega arith) (omega arith)
    (drawn_in_range (x_behind seed calls)))

-- ---- the lines of the facts

abbrev made_facts : List FactLine
made_facts =
    fact.Vin made_own.vin ∷ fact.Kind 1 ∷ fact.Fuel made_own.fuel ∷ fact.Time 1577836800
    ∷ fact.Place made_own.latitude made_own.longitude ∷ fact.Heading 45 ∷ fact.Trusted true ∷ []

facts-plain : ArePlain fact_lines
facts-plain = (refl, (refl, (refl, (refl, (refl, (refl, (refl, tt)))))))

facts-said : (texts : List (List ℕ))
    → script_from nothing_said 1 (fact_lines ++ texts)
    ≡ script_from (record { facts = made_facts; eventful = false }) 8 texts
unfolding script_from alphabet.is_vin_character
facts-said texts = refl

facts-known : facts_in made_facts ≡ Some (facts.Own made_own)
facts-known = refl

-- ---- the script

-- what the script says that is made
pub made_says : (seed : ℕ)
    → script_of (made_script seed)
    ≡ record { facts = Some (facts.Own made_own); events = events_of_calls seed most_made; refused = None }
unfolding made_script
made_says seed =
    let calls : List (List ℕ) = lines_of_calls seed most_made in
    let events : List Event = events_of_calls seed most_made in
    let say : SayEvents calls events = calls-say seed most_made (omega arith) in
    ap (script_from nothing_said 1)
    (lines_of-text (fact_lines ++ calls)
    (plain-append fact_lines calls facts-plain (plain_events calls events say)))
    ∙ facts-said calls
    ∙ events_said (facts.Own made_own) calls events (record { facts = made_facts; eventful = false }) 8 facts-known say
