use Rattle.std.proofs.Common.{◌≡◌, ◌++◌, OnOk, map, ap, sym, ◌∙◌, subst, append-nil, Some, refl}
use Rattle.std.specs.List.{AllByRecursion}
use Rattle.channel_sim.specs.World.{due_in}
use Rattle.channel_sim.specs.Handing.{alone, due_of, flow_way, sent_way}
use Rattle.channel_sim.specs.Lag.{CallLags, CallsLag}
use Rattle.channel_sim.specs.Tidy.{CallInTime}
use Rattle.channel_sim.proofs.CallsLemmas.{found_at}
use Rattle.channel_sim.proofs.ChangeLemmas.{no_call_of}
use Rattle.channel_sim.proofs.DueLemmas.{call_at, flow_kept, found_has, none_in_none}
use Rattle.channel_sim.proofs.channel.Channel.call_due.Goals as goal

pub returns-in-Some : goal.returns-in-Some
returns-in-Some c =
    λ ahead floor clock w s.
    let kept = c.args.self.now in
    let up = c.args.up in
    let calls = subst (λ xs. CallsLag floor clock xs w.calls) (sym c.all-calls.ensures) s.calls in
    let in_time = subst (λ t. AllByRecursion (CallInTime t) w.calls) s.tick s.tidy.frames in
    let xs = c.all-calls.result.now.items in
    let place = found_at floor clock c.args.number xs xs w.calls _ refl c.in-Some.ensures.place calls s.tidy.numbers in
    let at = call_at floor clock c.args.number xs w.calls c.in-Some.i c.index.result.now calls place in
    let k = at.0 in
    let due = c.call_due.ensures floor (clock k.number) k (subst (λ x. CallLags floor (clock k.number) x k) (sym c.index.ensures) at.2) (found_has (CallInTime kept.tick) c.args.number w.calls k at.1 in_time) in
    let old = map due_of c.args.due.now.items in
    let new = map due_of c.call_due.new.due.items in
    subst (λ o. OnOk c.call_due.result (new ≡ old ++ due_in (sent_way up) (flow_way up w) w.tick (alone o))) (sym at.1)
    (subst (λ t. OnOk c.call_due.result (new ≡ old ++ due_in (sent_way up) (flow_way up w) t (alone (Some k)))) (sym s.tick)
    (subst (λ f. OnOk c.call_due.result (new ≡ old ++ due_in (sent_way up) f kept.tick (alone (Some k))))
    (c.flow.ensures ∙ flow_kept up ahead floor clock kept w s) due))

pub returns-in-None : goal.returns-in-None
returns-in-None c =
    λ ahead floor clock w s.
    let up = c.args.up in
    let calls = subst (λ xs. CallsLag floor clock xs w.calls) (sym c.all-calls.ensures) s.calls in
    let xs = c.all-calls.result.now.items in
    let place = found_at floor clock c.args.number xs xs w.calls _ refl c.in-None.ensures.place calls s.tidy.numbers in
    let old = map due_of c.args.due.now.items in
    sym (ap (λ o. old ++ due_in (sent_way up) (flow_way up w) w.tick (alone o)) (no_call_of c.args.number w.calls place)
    ∙ ap (λ z. old ++ z) (none_in_none (sent_way up) (flow_way up w) w.tick) ∙ append-nil old)
