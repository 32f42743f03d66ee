use Rattle.std.proofs.Common.{ℕ, ap, arith, sym, subst, ◌∙◌, ◌≡◌, ◌+◌, ◌≤◌, ◌++◌, [], ◌∷◌, List, get_or, take, drop, append_assoc}
use Rattle.std.proofs.lemmas.List.{append-nil, take-append-drop, take_more}
use Rattle.trace_model.specs.declared.event.Event.{Event}
use Rattle.msd_fit.specs.declared.facts.Facts.{Facts}
use Rattle.channel_sim.specs.Lines.{bound, world_after}
use Rattle.channel_sim.specs.World.{first_world}
use Rattle.script_commands.specs.inner.Trialled.{Counted, call_events}
use Rattle.script_commands.proofs.Trialled.{bound_front, counted_event, counted_whole, halted_few, still_few, still_soon}
use Rattle.script_commands.proofs.trial.count_call.Goals as goal

pub loop-event-init : goal.loop-event-init
loop-event-init g c = λ start known events before.
    subst (λ (es : List Event). Counted start known es c.args.world.now c.args.tally.now c.args.moments.now)
    (sym (append-nil events)) before

pub play-requires-clause-few : goal.play-requires-clause-few
play-requires-clause-few g c =
    let e = c.requires.early in
    still_few _ _ e.2 c.events_of-events.result c.loop-event.event-index _ _ _ e.4 c.type_inv.event-items
    (c.loop-event.invariant e.0 e.1 e.2 e.3)

pub play-requires-clause-soon : goal.play-requires-clause-soon
play-requires-clause-soon g c =
    let e = c.requires.early in
    still_soon _ _ e.2 c.events_of-events.result c.loop-event.event-index _ _ _ e.4 c.type_inv.event-items
    (c.loop-event.invariant e.0 e.1 e.2 e.3)

pub loop-event-preserved : goal.loop-event-preserved
loop-event-preserved g c = λ start known events before.
    let all : List Event = c.events_of-events.result in
    let front : List Event = take c.loop-event.event-index all in
    let now = c.loop-event.invariant start known events before in
    let e : Event = get_or all c.loop-event.event-index c.event-item.result in
    let next : take (c.loop-event.event-index + 1) all ≡ front ++ e ∷ [] =
    take_more all c.loop-event.event-index c.event-item.result (omega arith) in
    subst (λ (es : List Event). Counted start known es c.play.new.world c.play.new.to c.play.new.moments)
    (append_assoc events front (e ∷ []) ∙ ap (λ (es : List Event). events ++ es) (sym next))
    (counted_event start known (events ++ front) e _ _ _ _ _ _ now
    (c.in_ok-play.ensures.played _ now.stands))

-- the events that were played, and the one at which playing ended
pub returns-in_err-play-clause-few : goal.returns-in_err-play-clause-few
returns-in_err-play-clause-few g c = λ start known events before.
    let all : List Event = c.events_of-events.result in
    let i = c.loop-event.event-index in
    let front : List Event = take i all in
    let now = c.loop-event.invariant start known events before in
    let e : Event = get_or all i c.event-item.result in
    let more = c.play.ensures.passes (world_after (first_world known) (events ++ front)) now.stands in
    let here = halted_few start known (events ++ front) e c.loop-event.moments c.play.new.moments now.bounded more in
    let next : take (i + 1) all ≡ front ++ e ∷ [] = take_more all i c.event-item.result (omega arith) in
    let number : c.unwrap.result ≡ c.args.number = rw c.unwrap.ensures at c.new.ensures.value in
    let are : all ≡ call_events c.args.number c.args.times.now =
    c.events_of-events.ensures ∙ ap (λ (n : ℕ). call_events n c.args.times.now) number in
    let part : (events ++ front) ++ e ∷ [] ≡ events ++ take (i + 1) all =
    append_assoc events front (e ∷ []) ∙ ap (λ (es : List Event). events ++ es) (sym next) in
    let whole : (events ++ take (i + 1) all) ++ drop (i + 1) all ≡ events ++ call_events c.args.number c.args.times.now =
    append_assoc events (take (i + 1) all) (drop (i + 1) all)
    ∙ ap (λ (es : List Event). events ++ es) (take-append-drop (i + 1) all ∙ are) in
    subst (λ (es : List Event). c.play.new.moments ≤ start + bound known es) whole
    (omega (
      arith,
      subst (λ (es : List Event). c.play.new.moments ≤ start + bound known es) part here,
      bound_front known (events ++ take (i + 1) all) (drop (i + 1) all),
    ))

pub returns : goal.returns
returns g c =
    let number : c.unwrap.result ≡ c.args.number = rw c.unwrap.ensures at c.new.ensures.value in
    let counted = λ (start : ℕ) (known : Facts) (events : List Event)
    (before : Counted start known events c.args.world.now c.args.tally.now c.args.moments.now).
    counted_whole start known events c.events_of-events.result c.loop-event.event-index c.unwrap.result
    c.args.number c.args.times.now c.loop-event.world c.loop-event.tally c.loop-event.moments
    c.events_of-events.ensures number (omega arith) (c.loop-event.invariant start known events before) in
    record { counts = counted; few = λ start known events before. (counted start known events before).bounded }
