use Rattle.std.proofs.Common.{◌≡◌, ◌+◌, ◌++◌, ◌≤◌, suc, length, get_or, map, take, refl, ap, sym, ◌∙◌, subst, append-nil, append_assoc}
use Rattle.channel_sim.specs.World.{call_of, due_in}
use Rattle.channel_sim.specs.Handing.{alone, due_of, sent_way}
use Rattle.channel_sim.specs.Lag.{CallLags}
use Rattle.channel_sim.specs.Tidy.{AreFrom, CallInTime, ticks_of}
use Rattle.channel_sim.proofs.CallsLemmas.{found_at, none_of}
use Rattle.channel_sim.proofs.ChangeLemmas.{no_call_of}
use Rattle.channel_sim.proofs.DueLemmas.{all_listed, call_at, due_listed, found_has, listed_kept, listed_more, one_found, way_kept, way_rises}
use Rattle.channel_sim.proofs.StepLemmas.{take_all}
use Rattle.channel_sim.proofs.calls.due.add_listed_due.Goals as goal
use Rattle.channel_sim.proofs.calls.due.add_listed_due.Goals.{in-Some+in_ok-add_due, in_default}

pub loop-number-init : goal.loop-number-init
loop-number-init c = λ d floor now clock ks h above in_time. sym (append-nil (map due_of c.args.due.now.items))

pub loop-number-preserved : goal.loop-number-preserved
loop-number-preserved c =
    λ d floor now clock ks h above in_time.
    let up = c.args.up in
    let numbers = c.args.numbers.now in
    let i = c.loop-number.number-index in
    let n = get_or numbers i 0 in
    let xs = c.args.calls.now.items in
    let at = c.args.tick + suc d in
    let old = map due_of c.args.due.now.items in
    let place = found_at floor clock n xs xs ks _ refl c.find.ensures.place h above in
    let grown : map due_of c.match-find.due.items ≡ map due_of c.loop-number.due.items ++ due_in (sent_way up) (suc d) at (alone (call_of n ks)) =
    elim c.match-find.branch [
      | in-Some+in_ok-add_due w ↦ (
          let found = call_at floor clock n xs ks w.in-Some.i w.index.result.now h (place ∙ w.in-Some.is) in
          let k = found.0 in
          let lags : CallLags floor (clock k.number) w.index.result.now k = subst (λ x. CallLags floor (clock k.number) x k) (sym w.index.ensures) found.2 in
          let way = w.sends.ensures ∙ way_kept up floor (clock k.number) w.index.result.now k lags in
          let rise = subst (λ ss. AreFrom 0 (ticks_of ss)) (sym way) (way_rises up now k (found_has (CallInTime now) n ks k found.1 in_time)) in
          ap (λ v. map due_of v.items) w.due-is
          ∙ w.in_ok-add_due.ensures (suc d) rise
          ∙ ap (λ z. map due_of c.loop-number.due.items ++ z) (one_found up d at n w.sends.result.now ks k found.1 way)
          )
      | in_default w ↦ (
          let none = no_call_of n ks (place ∙ none_of c.find.result w.in_default.not-Some) in
          ap (λ v. map due_of v.items) w.due-is
          ∙ sym (ap (λ o. map due_of c.loop-number.due.items ++ due_in (sent_way up) (suc d) at (alone o)) none ∙ append-nil (map due_of c.loop-number.due.items))
          )
    ] in
    grown
    ∙ ap (λ z. z ++ due_in (sent_way up) (suc d) at (alone (call_of n ks))) (c.loop-number.invariant d floor now clock ks h above in_time)
    ∙ append_assoc old (due_listed (sent_way up) d at (take i numbers) ks) (due_in (sent_way up) (suc d) at (alone (call_of n ks)))
    ∙ ap (λ z. old ++ z) (listed_more (sent_way up) d at i numbers ks c.loop-number-test.true)

pub returns : goal.returns
returns c =
    λ d floor now clock ks h above in_time rise listed.
    let up = c.args.up in
    let numbers = c.args.numbers.now in
    let i = c.loop-number.number-index in
    let old = map due_of c.args.due.now.items in
    let past : length numbers ≤ i = c.loop-number-test.false in
    c.loop-number.invariant d floor now clock ks h above in_time
    ∙ ap (λ ns. old ++ due_listed (sent_way up) d (c.args.tick + suc d) ns ks) (take_all i numbers past)
    ∙ ap (λ z. old ++ z) (all_listed (sent_way up) d c.args.tick 0 ks numbers above rise (listed_kept up floor clock c.args.tick numbers c.args.calls.now.items ks h listed))
