use Rattle.std.proofs.Common.{◌≡◌, true, if◌then◌else◌, List, IfOk, ap, sym, ◌∙◌, subst}
use Rattle.std.specs.List.{AllByRecursion}
use Rattle.channel_sim.specs.declared.calls.call.Call.{Call}
use Rattle.channel_sim.specs.inner.Turns.{IsAmong}
use Rattle.channel_sim.proofs.SendingLemmas.{sent_listed}
use Rattle.channel_sim.proofs.calls.Calls.list_sent.Goals as goal
use Rattle.channel_sim.proofs.calls.Calls.list_sent.Goals.{then-up, else-up}

pub returns-clause-all : goal.returns-clause-all
returns-clause-all c =
    let inside = c.self.inside in
    let way : c.if-up.sendings.now ≡ (if c.args.up then inside.up else inside.down) =
    elim c.if-up.branch [
      | then-up w ↦ ap (λ s. s.now) w.sendings-is ∙ sym (ap (λ b. if b then inside.up else inside.down) w.if-up.true)
      | else-up w ↦ ap (λ s. s.now) w.sendings-is ∙ sym (ap (λ b. if b then inside.up else inside.down) w.if-up.false)
    ] in
    subst (λ (xs : List Call). IfOk c.list_calls.result (λ known. known ≡ true → AllByRecursion (λ k. AllByRecursion (λ s. s.tick ≡ c.args.tick → IsAmong k.number c.list_calls.new.numbers.items) (if c.args.up then k.up else k.down)) xs)) c.self.view_is
    (sent_listed c.list_calls.result c.args.up inside.up inside.down c.if-up.sendings.now c.args.tick c.list_calls.new.numbers.items inside.list.items way c.list_calls.ensures.all c.self.invariant.noted)
