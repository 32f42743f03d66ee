use Rattle.std.proofs.Common.{◌≡◌, sym, subst, arith}
use Rattle.channel_sim.specs.inner.Sendings.{IsNoted, IsPlaceBehind}
use Rattle.channel_sim.specs.Tidy.{AreFrom}
use Rattle.channel_sim.proofs.SendingLemmas.{ticks, last_noted, more_noted, itself_noted, added_rise, behind_in}
use Rattle.channel_sim.proofs.calls.sendings.Sendings.add.Goals as goal
use Rattle.channel_sim.proofs.calls.sendings.Sendings.add.Goals.{in-Some+else-last-tick, else-last-tick-via-then-last-tick+else-last-call, else-last-tick-via-else-last-tick, in_default}

pub returns-then-last-call-clause-noted : goal.returns-then-last-call-clause-noted
returns-then-last-call-clause-noted c =
    let item = c.in-Some.ensures.item in
    subst (IsNoted c.args.call c.args.tick) c.self.view_is
    (last_noted c.args.call c.args.tick c.self.inside.since c.in-Some.last.now c.self.inside.list.items _ c.deref.ensures.value item.3.0 (item.3.1 c.in-Some.last.now) c.if-last-call.true c.if-last-tick.true)

pub invariant_of-self-2 : goal.invariant_of-self-2
invariant_of-self-2 c =
    let same : c.match-last.self-inside ≡ c.self.inside = elim c.match-last.branch [
      | in-Some+else-last-tick w ↦ elim w.else-last-tick.branch [ else-last-tick-via-then-last-tick+else-last-call v ↦ cc | else-last-tick-via-else-last-tick v ↦ cc ]
      | in_default w ↦ cc
    ] in
    let list = c.match-last.self-inside.list.items in
    let place = c.place_behind-place.result in
    let rise : AreFrom 0 (ticks list) = subst (λ s. AreFrom 0 (ticks s.list.items)) (sym same) c.self.invariant in
    let behind : IsPlaceBehind c.args.tick place (ticks list) = behind_in c.args.tick place list _ c.deref-2.ensures.value c.place_behind-place.ensures.behind rise in
    subst (λ xs. AreFrom 0 (ticks xs)) (sym c.in_ok-put_at.ensures.ok)
    (added_rise 0 place (record { tick = c.args.tick; call = c.args.call }) list (omega arith) rise behind)

pub returns-clause-kept : goal.returns-clause-kept
returns-clause-kept c =
    λ d n noted.
    let same : c.match-last.self-inside ≡ c.self.inside = elim c.match-last.branch [
      | in-Some+else-last-tick w ↦ elim w.else-last-tick.branch [ else-last-tick-via-then-last-tick+else-last-call v ↦ cc | else-last-tick-via-else-last-tick v ↦ cc ]
      | in_default w ↦ cc
    ] in
    let inside = c.match-last.self-inside in
    more_noted d n inside.since c.place_behind-place.result (record { tick = c.args.tick; call = c.args.call }) inside.list.items c.put_at.new.sendings.items c.in_ok-put_at.ensures.ok
    (subst (λ s. IsNoted d n (record { since = s.since; list = s.list.items })) (sym same) (subst (IsNoted d n) (sym c.self.view_is) noted))

pub returns-clause-noted : goal.returns-clause-noted
returns-clause-noted c =
    let inside = c.match-last.self-inside in
    itself_noted inside.since c.place_behind-place.result (record { tick = c.args.tick; call = c.args.call }) inside.list.items c.put_at.new.sendings.items c.in_ok-put_at.ensures.ok
