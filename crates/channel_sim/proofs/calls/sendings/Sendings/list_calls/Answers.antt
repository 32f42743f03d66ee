use Rattle.std.proofs.Common.{sym, subst}
use Rattle.channel_sim.specs.inner.Sends.{IsFirstFrom}
use Rattle.channel_sim.specs.inner.Sendings.{IsNoted}
use Rattle.channel_sim.specs.inner.Turns.{IsAmong}
use Rattle.channel_sim.proofs.SendingLemmas.{ticks, first_in, told_from}
use Rattle.channel_sim.proofs.calls.sendings.Sendings.list_calls.Goals as goal

pub returns-clause-all : goal.returns-clause-all
returns-clause-all c =
    λ known d noted.
    let list = c.self.inside.list.items in
    let place = c.first_place-first.result in
    let first : IsFirstFrom c.args.tick place (ticks list) = first_in c.args.tick place list _ c.deref.ensures.value c.first_place-first.ensures.first c.self.invariant in
    c.sort_once.ensures.among d
    (told_from (λ n. IsAmong n c.list_at.new.numbers.items) c.self.inside.since d c.args.tick place list c.deref-2.result.now c.deref-2.ensures.value c.if-tick-self.false c.self.invariant first c.in_ok-near.ensures.all (subst (IsNoted d c.args.tick) (sym c.self.view_is) noted))
