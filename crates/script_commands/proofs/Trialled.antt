-- The counts of the events so far, and of one more.
use Rattle.std.specs.Prelude.{◌≡◌, ℕ, ◌+◌, ◌*◌, ◌^◌, ◌<◌, ◌≤◌, zero, suc, List, [], ◌∷◌, ◌++◌, length, codes, decimal}
use Rattle.std.proofs.Common.{sym, ◌∙◌, ap, refl, subst, arith, get_or, take, length-append, add-zero, inl, inr}
use Rattle.std.proofs.lemmas.Bool.{cases_lt}
use Rattle.std.proofs.lemmas.List.{append-nil, length-take, take_all}
use Rattle.msd_fit.specs.declared.facts.Facts.{Facts}
use Rattle.msd_fit.specs.declared.facts.Facts.TheVariants as facts
use Rattle.trace_text.specs.Script.{Script, script_of}
use Rattle.trace_model.specs.Tallies.{TallyGrew, tally_of}
use Rattle.trace_model.specs.declared.entry.Entry.{Entry}
use Rattle.trace_model.specs.declared.event.Event.{Event}
use Rattle.trace_model.specs.declared.tally.Tally.{Tally}
use Rattle.channel_sim.specs.declared.play.Play.{Play}
use Rattle.channel_sim.specs.Lines.{bound, passes_within, step, trace, world_after}
use Rattle.channel_sim.specs.World as model
use Rattle.channel_sim.specs.World.{first_world}
use Rattle.channel_sim.specs.PlayStands.{PlayStandsFor, calls_drawn, ticks_reached}
use Rattle.script_commands.specs.declared.make.CallTimes.{CallTimes}
use Rattle.script_commands.specs.Make.{call_times, made_script, most_made, text_of_lines, x_behind}
use Rattle.script_stage.specs.ScriptTrace.{script_passes, script_trace}
use Rattle.script_commands.specs.Trial.{made_tally, trial_text}
use Rattle.script_commands.specs.inner.Trialled.{Counted, call_events, events_of_calls, made_own, most_events}
use Rattle.script_commands.proofs.MadeScript.{made_says}
use Rattle.script_commands.proofs.MadeText.{AreLines}
use Rattle.script_stage.proofs.ScriptSoFar.{bound_from-append}
use Rattle.script_stage.proofs.StagePlays.{world_after-push}
use Rattle.script_stage.specs.inner.TraceLaws.{trace_from-append}

-- before any event
pub counted_none : (start : ℕ) (known : Facts) (world : Play) (tally : Tally)
    → PlayStandsFor world (first_world known) → calls_drawn world ≡ 0 → ticks_reached world ≡ 0
    → tally ≡ tally_of [] → Counted start known [] world tally start
counted_none start known world tally stands calls ticks none = record {
  stands = stands;
  told = none;
  calls = omega arith;
  ticks = omega arith;
  bounded = omega arith;
}

-- what an event that was played says, where it is counted
abbrev pub PlaysCounted : (known : Facts) → List Event → Event → (old new : Play) → (tally tally' : Tally)
    → (passes passes' : ℕ) → Type 0
PlaysCounted known events e old new tally tally' passes passes' =
    TallyGrew tally tally' (step (world_after (first_world known) events) e).entries
    × PlayStandsFor new (step (world_after (first_world known) events) e).world
    × (calls_drawn new ≤ calls_drawn old + 1)
    × (ticks_reached new ≤ ticks_reached old + 4294967295)
    × (passes' ≤ passes + passes_within (world_after (first_world known) events) e)

-- one event more
pub counted_event : (start : ℕ) (known : Facts) (events : List Event) (e : Event) (old new : Play)
    (tally tally' : Tally) (passes passes' : ℕ) → Counted start known events old tally passes
    → PlaysCounted known events e old new tally tally' passes passes'
    → Counted start known (events ++ e ∷ []) new tally' passes'
counted_event start known events e old new tally tally' passes passes' before plays =
    let w : model.World = world_after (first_world known) events in
    let longer : length (events ++ e ∷ []) ≡ length events + 1 = length-append events (e ∷ []) in
    let bounds : bound known (events ++ e ∷ []) ≡ bound known events + passes_within w e =
    bound_from-append (first_world known) events (e ∷ [])
    ∙ ap (λ n. bound known events + n) (add-zero (passes_within w e)) in
    record {
      stands =
          subst (λ (v : model.World). PlayStandsFor new v) (sym (world_after-push (first_world known) events e))
          plays.1;
      told =
          plays.0 (trace known events) before.told
          ∙ ap tally_of (
          ap (λ (t : List Entry). trace known events ++ t) (sym (append-nil (step w e).entries))
          ∙ sym (trace_from-append (first_world known) events (e ∷ [])));
      calls = omega (arith, longer, before.calls, plays.2);
      ticks = omega (arith, longer, before.ticks, plays.3);
      bounded = omega (arith, bounds, before.bounded, plays.4);
    }

-- some of the events pass no more ends than all of them
pub bound_front : (known : Facts) (es fs : List Event) → bound known es ≤ bound known (es ++ fs)
bound_front known es fs = omega (arith, bound_from-append (first_world known) es fs)

-- an event that wasn't played to its end passes no more ends than one that was
pub halted_few : (start : ℕ) (known : Facts) (before : List Event) (e : Event) (passes passes' : ℕ)
    → passes ≤ start + bound known before
    → passes' ≤ passes + passes_within (world_after (first_world known) before) e
    → passes' ≤ start + bound known (before ++ e ∷ [])
halted_few start known before e passes passes' few more =
    let bounds : bound known (before ++ e ∷ []) ≡ bound known before + passes_within (world_after (first_world known) before) e =
    bound_from-append (first_world known) before (e ∷ [])
    ∙ ap (λ n. bound known before + n) (add-zero (passes_within (world_after (first_world known) before) e)) in
    omega (arith, bounds, few, more)

-- ---- the world has room for one event more

few_more : (events more : List Event) (i : ℕ) → length events ≤ most_events → length more ≡ 10
    → length (events ++ take i more) ≤ 20010
few_more events more i few ten =
    omega (arith, length-append events (take i more), length-take i more, few, ten)

pub still_few : (start : ℕ) (known : Facts) (events more : List Event) (i : ℕ) (world : Play) (tally : Tally)
    (passes : ℕ) → length events ≤ most_events → length more ≡ 10
    → Counted start known (events ++ take i more) world tally passes → calls_drawn world < 4294967295
still_few start known events more i world tally passes few ten counted =
    omega (arith, few_more events more i few ten, counted.calls)

pub still_soon : (start : ℕ) (known : Facts) (events more : List Event) (i : ℕ) (world : Play) (tally : Tally)
    (passes : ℕ) → length events ≤ most_events → length more ≡ 10
    → Counted start known (events ++ take i more) world tally passes
    → ticks_reached world + 4294967295 < 2 ^ 64
still_soon start known events more i world tally passes few ten counted =
    omega (arith, few_more events more i few ten, counted.ticks)

-- ---- the events of calls

pub events_of_calls-none : (seed : ℕ) → events_of_calls seed 0 ≡ []
unfolding events_of_calls
events_of_calls-none seed = refl

events_of_calls-suc : (seed calls : ℕ)
    → events_of_calls seed (suc calls)
    ≡ events_of_calls seed calls ++ call_events (calls + 1) (call_times (x_behind seed calls))
unfolding events_of_calls
events_of_calls-suc seed calls = refl

ten_events : (events : List Event) (call : ℕ) (times : CallTimes) → events ≡ call_events call times
    → length events ≡ 10
ten_events events call times are = ap length are

-- all events of a call
pub counted_whole : (start : ℕ) (known : Facts) (events all : List Event) (i call number : ℕ) (times : CallTimes)
    (world : Play) (tally : Tally) (passes : ℕ) → all ≡ call_events call times → call ≡ number → 10 ≤ i
    → Counted start known (events ++ take i all) world tally passes
    → Counted start known (events ++ call_events number times) world tally passes
counted_whole start known events all i call number times world tally passes are is long counted =
    let whole : take i all ≡ all = take_all i all (omega (arith, ten_events all call times are)) in
    subst (λ (es : List Event). Counted start known (events ++ es) world tally passes)
    (whole ∙ are ∙ ap (λ (n : ℕ). call_events n times) is) counted

-- ten a call
pub length-events_of_calls : (seed calls : ℕ) → length (events_of_calls seed calls) ≡ 10 * calls
length-events_of_calls seed zero = ap length (events_of_calls-none seed)
length-events_of_calls seed (suc calls) =
    let ten : List Event = call_events (calls + 1) (call_times (x_behind seed calls)) in
    let fewer : length (events_of_calls seed calls) ≡ 10 * calls = length-events_of_calls seed calls in
    ap length (events_of_calls-suc seed calls) ∙ length-append (events_of_calls seed calls) ten ∙ omega (arith, fewer)

-- one call more, by the times that were drawn for it
pub counted_call : (start : ℕ) (known : Facts) (seed calls : ℕ) (times : CallTimes) (x : ℕ) (world : Play)
    (tally : Tally) (passes : ℕ) → x ≡ x_behind seed calls → times ≡ call_times x
    → Counted start known (events_of_calls seed calls ++ call_events (calls + 1) times) world tally passes
    → Counted start known (events_of_calls seed (calls + 1)) world tally passes
counted_call start known seed calls times x world tally passes is drawn counted =
    subst (λ (es : List Event). Counted start known es world tally passes)
    (ap (λ (t : CallTimes). events_of_calls seed calls ++ call_events (calls + 1) t) (drawn ∙ ap call_times is)
    ∙ sym (events_of_calls-suc seed calls) ∙ ap (events_of_calls seed) (omega arith))
    counted

-- some of the calls pass no more ends than all of them
pub bound_calls : (known : Facts) (seed n m : ℕ) → n ≤ m
    → bound known (events_of_calls seed n) ≤ bound known (events_of_calls seed m)
bound_calls known seed n zero few =
    let none : n ≡ 0 = omega (arith, few) in
    let same : bound known (events_of_calls seed n) ≡ bound known (events_of_calls seed 0) =
    ap (λ k. bound known (events_of_calls seed k)) none in
    omega (arith, same)
bound_calls known seed n (suc m) few = elim (cases_lt n (suc m)) [
  | inl less ↦
      (let before : bound known (events_of_calls seed n) ≤ bound known (events_of_calls seed m) =
      bound_calls known seed n m (omega (arith, less)) in
      let more : bound known (events_of_calls seed (suc m))
      ≡ bound known (events_of_calls seed m ++ call_events (m + 1) (call_times (x_behind seed m))) =
      ap (bound known) (events_of_calls-suc seed m) in
      let front : bound known (events_of_calls seed m)
      ≤ bound known (events_of_calls seed m ++ call_events (m + 1) (call_times (x_behind seed m))) =
      bound_front known (events_of_calls seed m) (call_events (m + 1) (call_times (x_behind seed m))) in
      omega (arith, before, more, front))
  | inr past ↦
      (let same : bound known (events_of_calls seed n) ≡ bound known (events_of_calls seed (suc m)) =
      ap (λ k. bound known (events_of_calls seed k)) (omega (arith, few, past)) in
      omega (arith, same))
]

-- a call that wasn't counted to its end passes no more ends than all of them
pub halted_calls : (start seed calls : ℕ) (times : CallTimes) (x passes : ℕ) → x ≡ x_behind seed calls
    → times ≡ call_times x → calls + 1 ≤ most_made
    → passes ≤ start + bound (facts.Own made_own) (events_of_calls seed calls ++ call_events (calls + 1) times)
    → passes ≤ start + script_passes (script_of (made_script seed))
halted_calls start seed calls times x passes is drawn few bounded =
    let here : events_of_calls seed calls ++ call_events (calls + 1) times ≡ events_of_calls seed (calls + 1) =
    ap (λ (t : CallTimes). events_of_calls seed calls ++ call_events (calls + 1) t) (drawn ∙ ap call_times is)
    ∙ sym (events_of_calls-suc seed calls) ∙ ap (events_of_calls seed) (omega arith) in
    let same : bound (facts.Own made_own) (events_of_calls seed calls ++ call_events (calls + 1) times)
    ≡ bound (facts.Own made_own) (events_of_calls seed (calls + 1)) = ap (bound (facts.Own made_own)) here in
    let all : script_passes (script_of (made_script seed)) ≡ bound (facts.Own made_own) (events_of_calls seed most_made) =
    ap script_passes (made_says seed) in
    omega (arith, bounded, same, all, bound_calls (facts.Own made_own) seed (calls + 1) most_made few)

-- ---- behind the last call

abbrev made_known : Facts
made_known = facts.Own made_own

pub counted_tally : (start seed calls : ℕ) (world : Play) (tally : Tally) (passes : ℕ) → calls ≡ most_made
    → Counted start (facts.Own made_own) (events_of_calls seed calls) world tally passes → tally ≡ made_tally seed
unfolding made_tally
counted_tally start seed calls world tally passes all counted =
    counted.told
    ∙ ap (λ (n : ℕ). tally_of (trace made_known (events_of_calls seed n))) all
    ∙ sym (ap (λ (s : Script). tally_of (script_trace s)) (made_says seed))

pub counted_passes : (start seed calls : ℕ) (world : Play) (tally : Tally) (passes : ℕ) → calls ≡ most_made
    → Counted start (facts.Own made_own) (events_of_calls seed calls) world tally passes
    → passes ≤ start + script_passes (script_of (made_script seed))
counted_passes start seed calls world tally passes all counted =
    subst (λ (n : ℕ). passes ≤ start + n)
    (ap (λ (n : ℕ). bound made_known (events_of_calls seed n)) all
    ∙ sym (ap script_passes (made_says seed)))
    counted.bounded

-- ---- the counts as they are written

-- the lines of these counts
abbrev pub lines_of_counts : List ℕ → List (List ℕ)
lines_of_counts counts =
    (codes "items " ++ decimal (get_or counts 0 0))
    ∷ (codes "calls " ++ decimal (get_or counts 1 0))
    ∷ (codes "shown " ++ decimal (get_or counts 2 0))
    ∷ (codes "acked " ++ decimal (get_or counts 3 0))
    ∷ (codes "ticks " ++ decimal (get_or counts 4 0))
    ∷ []

pub lines_told : (text counts : List ℕ) (tally : Tally)
    → counts ≡ tally.entries ∷ tally.calls ∷ tally.shown ∷ tally.acked ∷ tally.ticks ∷ []
    → AreLines text (lines_of_counts counts) → text ≡ trial_text tally
unfolding trial_text
lines_told text counts tally are lines =
    lines.says ∙ ap (λ (cs : List ℕ). text_of_lines (lines_of_counts cs)) are
