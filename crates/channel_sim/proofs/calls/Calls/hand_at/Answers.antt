use Rattle.std.proofs.Common.{◌≡◌, ℕ, ◌≤◌, ◌<◌, ◌+◌, ◌-◌, if◌then◌else◌, ap, sym, ◌∙◌, subst, arith}
use Rattle.std.specs.List.{AllByRecursion}
use Rattle.channel_sim.specs.declared.calls.call.Call.{Call}
use Rattle.channel_sim.specs.inner.Sendings.{IsNoted}
use Rattle.channel_sim.specs.Quiet.{FramesRest}
use Rattle.channel_sim.proofs.SendingLemmas.{all_rest}
use Rattle.channel_sim.proofs.calls.Calls.hand_at.Goals as goal
use Rattle.channel_sim.proofs.calls.Calls.hand_at.Goals.{then-up, else-up}

pub returns-in-Some-clause-quiet : goal.returns-in-Some-clause-quiet
returns-in-Some-clause-quiet c =
    λ n low.
    let inside = c.self.inside in
    let from = c.saturating_sub-sent.result in
    let way : c.if-up.sendings.now ≡ (if c.args.up then inside.up else inside.down) =
    elim c.if-up.branch [
      | then-up w ↦ ap (λ s. s.now) w.sendings-is ∙ sym (ap (λ b. if b then inside.up else inside.down) w.if-up.true)
      | else-up w ↦ ap (λ s. s.now) w.sendings-is ∙ sym (ap (λ b. if b then inside.up else inside.down) w.if-up.false)
    ] in
    let late : (d t : ℕ) → IsNoted d t (if c.args.up then inside.up else inside.down) → from ≤ t → c.args.now + n < t + c.args.flow =
    λ d t noted le.
    let found : c.in-Some.tick ≤ t = c.in-Some.ensures d t (subst (IsNoted d t) (sym way) noted) le in
    omega (arith, low, c.min.ensures, c.saturating_add.ensures, c.from-delay.ensures) in
    subst (AllByRecursion (λ (k : Call). FramesRest n c.args.flow c.args.now (if c.args.up then k.up else k.down))) c.self.view_is
    (all_rest c.args.up inside.up inside.down n c.args.flow c.args.now from inside.list.items (c.saturating_sub-sent.ensures ∙ ap (λ f. c.args.now - (f - 1)) c.from-delay.ensures) late c.self.invariant.noted)

pub returns-in-None-clause-quiet : goal.returns-in-None-clause-quiet
returns-in-None-clause-quiet c =
    λ n low.
    let inside = c.self.inside in
    let from = c.saturating_sub-sent.result in
    let way : c.if-up.sendings.now ≡ (if c.args.up then inside.up else inside.down) =
    elim c.if-up.branch [
      | then-up w ↦ ap (λ s. s.now) w.sendings-is ∙ sym (ap (λ b. if b then inside.up else inside.down) w.if-up.true)
      | else-up w ↦ ap (λ s. s.now) w.sendings-is ∙ sym (ap (λ b. if b then inside.up else inside.down) w.if-up.false)
    ] in
    let late : (d t : ℕ) → IsNoted d t (if c.args.up then inside.up else inside.down) → from ≤ t → c.args.now + n < t + c.args.flow =
    λ d t noted le. absurd (c.in-None.ensures d t (subst (IsNoted d t) (sym way) noted) le) in
    subst (AllByRecursion (λ (k : Call). FramesRest n c.args.flow c.args.now (if c.args.up then k.up else k.down))) c.self.view_is
    (all_rest c.args.up inside.up inside.down n c.args.flow c.args.now from inside.list.items (c.saturating_sub-sent.ensures ∙ ap (λ f. c.args.now - (f - 1)) c.from-delay.ensures) late c.self.invariant.noted)
