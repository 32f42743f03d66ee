use Rattle.std.proofs.Common.{◌≡◌, if◌then◌else◌, ◌+◌, ◌-◌, [], suc, ap, refl, sym, ◌∙◌, subst, arith}
use Rattle.std.specs.List.{AllByRecursion}
use Rattle.channel_sim.specs.World.{due_frames, due_in}
use Rattle.channel_sim.specs.declared.calls.call.Call.{Call}
use Rattle.channel_sim.specs.Handing.{alone, sent_way}
use Rattle.channel_sim.specs.Lag.{CallLags, CallsLag}
use Rattle.channel_sim.specs.Tidy.{AreFrom, CallInTime, ticks_of}
use Rattle.channel_sim.proofs.CallsLemmas.{found_at}
use Rattle.channel_sim.proofs.ChangeLemmas.{no_call_of}
use Rattle.channel_sim.proofs.DueLemmas.{all_at, call_at, each_delay, found_has, none_early, one_found, one_has_all, way_kept, way_rises}
use Rattle.channel_sim.proofs.calls.due.only_due.Goals as goal
use Rattle.channel_sim.proofs.calls.due.only_due.Goals.{then-flow-eq0-via-then-flow-eq0, then-flow-eq0-via-else-flow-eq0+then-now-delay}

pub returns-in-Some-find : goal.returns-in-Some-find
returns-in-Some-find c =
    λ floor clock ks h above in_time.
    let up = c.args.up in
    let n = c.in-Some.number in
    let sent = c.args.now - c.from-delay.result in
    let way = sent_way up in
    let xs = c.all-calls.result.now.items in
    let lag = subst (λ ys. CallsLag floor clock ys ks) (sym c.all-calls.ensures) h in
    let one = subst (AllByRecursion (λ (k : Call). AllByRecursion (λ s. s.tick ≡ sent → k.number ≡ n) (if up then k.up else k.down))) (sym c.all-calls.ensures) c.in-Some.ensures in
    let place = found_at floor clock n xs xs ks _ refl c.in-Some-find.ensures.place lag above in
    let found = call_at floor clock n xs ks c.in-Some-find.i c.index.result.now lag place in
    let k = found.0 in
    let lags : CallLags floor (clock k.number) c.index.result.now k = subst (λ x. CallLags floor (clock k.number) x k) (sym c.index.ensures) found.2 in
    let ss = c.sends.result.now in
    let same = c.sends.ensures ∙ way_kept up floor (clock k.number) c.index.result.now k lags in
    let rise = subst (λ ss. AreFrom 0 (ticks_of ss)) (sym same) (way_rises up c.args.now k (found_has (CallInTime c.args.now) n ks k found.1 in_time)) in
    each_delay (λ d. due_frames n (suc d) (sent + suc d) ss) (due_in way c.args.flow c.args.now ks) c.only_frame.result (λ d. c.only_frame.ensures (suc d) rise)
    (λ due each. sym (all_at way c.args.flow c.args.now ks due sent c.if-flow-eq0.false
    (omega (arith, c.if-now-delay.false, c.from-delay.ensures))
    (λ d. sym (each d) ∙ one_found up d (sent + suc d) n ss ks k found.1 same ∙ one_has_all up floor clock d sent n xs ks lag above one)))

pub returns-then-flow-eq0 : goal.returns-then-flow-eq0
returns-then-flow-eq0 c =
    λ floor clock ks h above in_time.
    elim c.then-flow-eq0.branch [
      | then-flow-eq0-via-then-flow-eq0 w ↦ ap (λ d. due_in (sent_way c.args.up) d c.args.now ks) w.if-flow-eq0.true
      | then-flow-eq0-via-else-flow-eq0+then-now-delay w ↦ none_early (sent_way c.args.up) c.args.flow c.args.now ks (omega (arith, w.if-now-delay.true, c.from-delay.ensures))
    ]

pub returns-in-None : goal.returns-in-None
returns-in-None c =
    λ floor clock ks h above in_time.
    let up = c.args.up in
    let n = c.in-Some.number in
    let sent = c.args.now - c.from-delay.result in
    let way = sent_way up in
    let xs = c.all-calls.result.now.items in
    let lag = subst (λ ys. CallsLag floor clock ys ks) (sym c.all-calls.ensures) h in
    let one = subst (AllByRecursion (λ (k : Call). AllByRecursion (λ s. s.tick ≡ sent → k.number ≡ n) (if up then k.up else k.down))) (sym c.all-calls.ensures) c.in-Some.ensures in
    let none = no_call_of n ks (found_at floor clock n xs xs ks _ refl c.in-None.ensures.place lag above) in
    sym (all_at way c.args.flow c.args.now ks [] sent c.if-flow-eq0.false
    (omega (arith, c.if-now-delay.false, c.from-delay.ensures))
    (λ d. sym (ap (λ o. due_in way (suc d) (sent + suc d) (alone o)) none) ∙ one_has_all up floor clock d sent n xs ks lag above one))
