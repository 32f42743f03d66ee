use Rattle.std.proofs.Common.{◌≤◌, ◌<◌, length, sym, subst, arith}
use Rattle.channel_sim.specs.inner.Sends.{IsFirstFrom}
use Rattle.channel_sim.specs.inner.Sendings.{IsNoted}
use Rattle.channel_sim.proofs.SendingLemmas.{ticks, first_in, found_noted}
use Rattle.channel_sim.proofs.calls.sendings.Sendings.first_from.Goals as goal

pub returns-then-place-len : goal.returns-then-place-len
returns-then-place-len c =
    λ d n noted late.
    let list = c.self.inside.list.items in
    let place = c.first_place-place.result in
    let first : IsFirstFrom c.args.tick place (ticks list) = first_in c.args.tick place list _ c.deref.ensures.value c.first_place-place.ensures.first c.self.invariant in
    let found = found_noted c.self.inside.since d n c.args.tick place list c.index.result.now c.if-tick-self.false c.self.invariant first.before late (subst (IsNoted d n) (sym c.self.view_is) noted) in
    subst (λ x. x.tick ≤ n) (sym c.index.ensures) found.1

pub returns-else-place-len : goal.returns-else-place-len
returns-else-place-len c =
    λ d n noted late.
    let list = c.self.inside.list.items in
    let place = c.first_place-place.result in
    let first : IsFirstFrom c.args.tick place (ticks list) = first_in c.args.tick place list _ c.deref.ensures.value c.first_place-place.ensures.first c.self.invariant in
    let found = found_noted c.self.inside.since d n c.args.tick place list (record { tick = 0; call = 0 }) c.if-tick-self.false c.self.invariant first.before late (subst (IsNoted d n) (sym c.self.view_is) noted) in
    let inside : place < length list = found.0 in
    absurd (omega (arith, c.if-place-len.false, c.len.ensures))
