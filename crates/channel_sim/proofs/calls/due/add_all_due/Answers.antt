use Rattle.std.proofs.Common.{◌+◌, ◌++◌, ◌≤◌, suc, length, map, take, ap, sym, ◌∙◌, subst, append-nil, append_assoc, add-one, arith}
use Rattle.std.proofs.lemmas.Iterator.Consumers.{YieldsList-end, YieldsList-from_deque, YieldsList-turn}
use Rattle.std.proofs.lemmas.List.{length_push}
use Rattle.channel_sim.specs.World.{due_in, due_frames}
use Rattle.channel_sim.specs.Handing.{due_of, sent_way}
use Rattle.channel_sim.specs.Lag.{CallLags}
use Rattle.channel_sim.specs.Tidy.{AreFrom, ticks_of}
use Rattle.channel_sim.proofs.ChangeLemmas.{lag_at, same_lengths}
use Rattle.channel_sim.proofs.DueLemmas.{due_call, way_kept, way_rises}
use Rattle.channel_sim.proofs.StepLemmas.{take_all}
use Rattle.channel_sim.proofs.WaitLemmas.{call_in_time_at}
use Rattle.channel_sim.proofs.calls.due.add_all_due.Goals as goal

pub loop-call-init : goal.loop-call-init
loop-call-init c = λ d floor now clock ks h in_time. sym (append-nil (map due_of c.args.due.now.items))

pub loop-call-preserved : goal.loop-call-preserved
loop-call-preserved c =
    λ d floor now clock ks h in_time.
    let turn = YieldsList-turn (YieldsList-from_deque c.args.calls.now.items cc) c.loop-call.yielded _ c.loop-call.yielded_by _ _ c.in-Some.call c.in-Some.is c.next.ensures.steps in
    let i = length c.loop-call.yielded in
    let call = c.in-Some.call.now in
    let at = lag_at floor clock c.args.calls.now.items ks i call h turn.0 in
    let k = at.0 in
    let lags : CallLags floor (clock k.number) call k = subst (λ x. CallLags floor (clock k.number) x k) (sym turn.1) at.1 in
    let way = c.sends.ensures ∙ way_kept c.args.up floor (clock k.number) call k lags in
    let rise = way_rises c.args.up now k (call_in_time_at now i ks _ k at.2 in_time) in
    let now_due = c.args.tick + suc d in
    c.in_ok-add_due.ensures (suc d) (subst (λ ss. AreFrom 0 (ticks_of ss)) (sym way) rise)
    ∙ ap (λ z. z ++ due_frames call.number (suc d) now_due c.sends.result.now) (c.loop-call.invariant d floor now clock ks h in_time)
    ∙ ap (λ ss. (map due_of c.args.due.now.items ++ due_in (sent_way c.args.up) (suc d) now_due (take i ks)) ++ due_frames call.number (suc d) now_due ss) way
    ∙ ap (λ n. (map due_of c.args.due.now.items ++ due_in (sent_way c.args.up) (suc d) now_due (take i ks)) ++ due_frames n (suc d) now_due (sent_way c.args.up k)) (sym lags.number)
    ∙ append_assoc (map due_of c.args.due.now.items) (due_in (sent_way c.args.up) (suc d) now_due (take i ks)) (due_frames k.number (suc d) now_due (sent_way c.args.up k))
    ∙ ap (λ z. map due_of c.args.due.now.items ++ z) (sym (due_call c.args.up d now_due i ks k at.3) ∙ ap (λ n. due_in (sent_way c.args.up) (suc d) now_due (take n ks)) (sym (length_push c.loop-call.yielded c.in-Some.call ∙ add-one i)))

pub returns : goal.returns
returns c =
    λ d floor now clock ks h in_time.
    let end = YieldsList-end (YieldsList-from_deque c.args.calls.now.items cc) c.loop-call.yielded _ c.loop-call.yielded_by _ _ c.in-None.is c.next.ensures.steps in
    let i = length c.loop-call.yielded in
    let all : length ks ≤ i = omega (arith, end.1, same_lengths floor clock c.args.calls.now.items ks h) in
    c.loop-call.invariant d floor now clock ks h in_time
    ∙ ap (λ xs. map due_of c.args.due.now.items ++ due_in (sent_way c.args.up) (suc d) (c.args.tick + suc d) xs) (take_all i ks all)
