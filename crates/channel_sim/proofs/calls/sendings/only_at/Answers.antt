use Rattle.std.proofs.Common.{◌≡◌, ◌∷◌, ◌<◌, None, Some, length, get_or, ap, sym, ◌∙◌, subst}
use Rattle.std.proofs.lemmas.Option.{get_or_from_slice_get, slice_get-get_or}
use Rattle.channel_sim.specs.inner.Sendings.{HasSending}
use Rattle.channel_sim.specs.Tidy.{AreFrom}
use Rattle.channel_sim.proofs.SendingLemmas.{lower, only_first, ticks}
use Rattle.channel_sim.proofs.calls.sendings.only_at.Goals as goal
use Rattle.channel_sim.proofs.calls.sendings.only_at.Goals.{in_default-via-in-Some+else-next-tick, in_default-via-in_default}

pub returns-in_default : goal.returns-in_default
returns-in_default c =
    λ rise d has.
    let first = c.in_ok-first.first.now in
    let others = c.in_ok-first.others.now in
    let split : c.args.sendings.now ≡ first ∷ others = c.in_ok-first.ensures.cases.0 in
    let rises : AreFrom c.args.tick (ticks (first ∷ others)) = subst (λ xs. AreFrom c.args.tick (ticks xs)) split rise in
    let apart : 0 < length others → (get_or others 0 first).tick ≡ c.args.tick → ⊥ =
    λ some same.
    elim c.in_default.branch [
      | in_default-via-in-Some+else-next-tick w ↦ w.if-next-tick.false (sym (ap (λ s. s.tick) (get_or_from_slice_get others 0 w.in-Some.next.now first (sym w.in-Some.ensures.value))) ∙ same)
      | in_default-via-in_default w ↦ (let wrong : None ≡ Some (get_or others 0 first) = w.in_default.ensures.value ∙ slice_get-get_or others 0 first some in cc)
    ] in
    only_first c.args.tick d first first others (lower c.args.tick first.tick (ticks others) rises.0 rises.1) apart (subst (HasSending d c.args.tick) split has)
