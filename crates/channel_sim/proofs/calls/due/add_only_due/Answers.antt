use Rattle.std.proofs.Common.{◌+◌, ◌++◌, suc, map, refl, ap, sym, ◌∙◌, subst, append-nil}
use Rattle.channel_sim.specs.World.{due_in}
use Rattle.channel_sim.specs.Handing.{alone, due_of, sent_way}
use Rattle.channel_sim.specs.Lag.{CallLags}
use Rattle.channel_sim.specs.Tidy.{AreFrom, CallInTime, ticks_of}
use Rattle.channel_sim.proofs.CallsLemmas.{found_at, on_ok}
use Rattle.channel_sim.proofs.ChangeLemmas.{no_call_of}
use Rattle.channel_sim.proofs.DueLemmas.{call_at, found_has, one_found, one_has_all, way_kept, way_rises}
use Rattle.channel_sim.proofs.calls.due.add_only_due.Goals as goal

pub returns-in-Some : goal.returns-in-Some
returns-in-Some c =
    λ d floor now clock ks h above in_time one.
    let up = c.args.up in
    let n = c.args.number in
    let xs = c.args.calls.now.items in
    let at = c.args.tick + suc d in
    let place = found_at floor clock n xs xs ks _ refl c.find.ensures.place h above in
    let found = call_at floor clock n xs ks c.in-Some.i c.index.result.now h (place ∙ c.in-Some.is) in
    let k = found.0 in
    let lags : CallLags floor (clock k.number) c.index.result.now k = subst (λ x. CallLags floor (clock k.number) x k) (sym c.index.ensures) found.2 in
    let way = c.sends.ensures ∙ way_kept up floor (clock k.number) c.index.result.now k lags in
    let rise = subst (λ ss. AreFrom 0 (ticks_of ss)) (sym way) (way_rises up now k (found_has (CallInTime now) n ks k found.1 in_time)) in
    on_ok c.add_due.result
    (λ e. e ∙ ap (λ z. map due_of c.args.due.now.items ++ z)
    (one_found up d at n c.sends.result.now ks k found.1 way ∙ one_has_all up floor clock d c.args.tick n xs ks h above one))
    (c.add_due.ensures (suc d) rise)

pub returns-in-None : goal.returns-in-None
returns-in-None c =
    λ d floor now clock ks h above in_time one.
    let up = c.args.up in
    let n = c.args.number in
    let xs = c.args.calls.now.items in
    let old = map due_of c.args.due.now.items in
    let none = no_call_of n ks (found_at floor clock n xs xs ks _ refl c.find.ensures.place h above ∙ c.in-None.is) in
    sym (ap (λ z. old ++ z) (sym (one_has_all up floor clock d c.args.tick n xs ks h above one) ∙ ap (λ o. due_in (sent_way up) (suc d) (c.args.tick + suc d) (alone o)) none) ∙ append-nil old)
