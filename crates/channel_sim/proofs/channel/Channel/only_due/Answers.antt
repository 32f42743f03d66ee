use Rattle.std.proofs.Common.{IfOk, sym, ◌∙◌, subst}
use Rattle.std.specs.List.{AllByRecursion}
use Rattle.channel_sim.specs.World.{due_in}
use Rattle.channel_sim.specs.Handing.{flow_way, sent_way}
use Rattle.channel_sim.specs.inner.Handovers.{IsHandover}
use Rattle.channel_sim.specs.Tidy.{CallInTime}
use Rattle.channel_sim.proofs.DueLemmas.{flow_kept}
use Rattle.channel_sim.proofs.channel.Channel.only_due.Goals as goal

pub returns : goal.returns
returns c =
    λ ahead floor w s.
    let kept = c.args.self.now in
    let in_time = subst (λ t. AllByRecursion (CallInTime t) w.calls) s.tick s.tidy.frames in
    let due = c.only_due.ensures floor (λ d. ahead) w.calls s.calls s.tidy.numbers in_time in
    subst (λ t. IfOk c.only_due.result (λ handover. IsHandover handover (due_in (sent_way c.args.up) (flow_way c.args.up w) t w.calls))) (sym s.tick)
    (subst (λ f. IfOk c.only_due.result (λ handover. IsHandover handover (due_in (sent_way c.args.up) f kept.tick w.calls)))
    (c.flow.ensures ∙ flow_kept c.args.up ahead floor (λ d. ahead) kept w s) due)
