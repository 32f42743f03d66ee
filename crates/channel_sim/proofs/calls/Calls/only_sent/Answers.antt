use Rattle.std.proofs.Common.{◌≡◌, if◌then◌else◌, List, IfSome, ap, sym, ◌∙◌, subst}
use Rattle.std.specs.List.{AllByRecursion}
use Rattle.channel_sim.specs.declared.calls.call.Call.{Call}
use Rattle.channel_sim.proofs.SendingLemmas.{sent_alone}
use Rattle.channel_sim.proofs.calls.Calls.only_sent.Goals as goal
use Rattle.channel_sim.proofs.calls.Calls.only_sent.Goals.{then-up, else-up}

pub returns : goal.returns
returns c =
    let inside = c.self.inside in
    let way : c.if-up.sendings.now ≡ (if c.args.up then inside.up else inside.down) =
    elim c.if-up.branch [
      | then-up w ↦ ap (λ s. s.now) w.sendings-is ∙ sym (ap (λ b. if b then inside.up else inside.down) w.if-up.true)
      | else-up w ↦ ap (λ s. s.now) w.sendings-is ∙ sym (ap (λ b. if b then inside.up else inside.down) w.if-up.false)
    ] in
    subst (λ (xs : List Call). IfSome c.only_call.result (λ call. AllByRecursion (λ k. AllByRecursion (λ s. s.tick ≡ c.args.tick → k.number ≡ call) (if c.args.up then k.up else k.down)) xs)) c.self.view_is
    (sent_alone c.only_call.result c.args.up inside.up inside.down c.if-up.sendings.now c.args.tick inside.list.items way c.only_call.ensures c.self.invariant.noted)
