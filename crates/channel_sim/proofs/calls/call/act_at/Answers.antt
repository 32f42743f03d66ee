use Rattle.channel_sim.proofs.BoundLemmas.{seat_has, session_gives}
use Rattle.std.proofs.Common.{true, false, Some, None, ◌≡◌, ◌≤◌, ◌+◌, ◌-◌, ◌<◌, suc, ap, sym, ◌∙◌, subst, arith, length}
use Rattle.std.proofs.lemmas.Bool.{iff_false}
use Rattle.link_frames.specs.Row.{Row}
use Rattle.psap_machine.specs.Point.{Point}
use Rattle.psap_machine.specs.PointRows as point
use Rattle.psap_machine.specs.SessionStands.{SessionStandsFor}
use Rattle.channel_sim.specs.declared.calls.call.Call.{Call}
use Rattle.channel_sim.specs.inner.Acts.{CallDid}
use Rattle.channel_sim.specs.inner.Seats.{IsQuietFor}
use Rattle.channel_sim.specs.Lag.{SessionLags, SeatLags}
use Rattle.channel_sim.proofs.EndJump.{point_acts}
use Rattle.channel_sim.proofs.LagLemmas.{acted_over, acted_on, due_now}
use Rattle.channel_sim.proofs.RestLemmas.{acting_from}
use Rattle.channel_sim.proofs.SeatLemmas.{is_over, not_over}
use Rattle.channel_sim.proofs.WakeLemmas.{quiet_did, acted_as}
use Rattle.channel_sim.proofs.calls.call.act_at.Goals as goal

pub returns-then-lag-quiet-clause-did : goal.returns-then-lag-quiet-clause-did
returns-then-lag-quiet-clause-did g c =
    λ floor before k h next.
    let x = c.args.call.now in
    let same = ap (λ (y : Call). y.passed) c.call.view_is in
    let low : c.args.tick - x.passed < c.quiet.result = omega (arith, same, c.saturating_sub-lag.ensures, c.if-lag-quiet.true) in
    let known : IsQuietFor c.quiet.result x.session = subst (λ (y : Call). IsQuietFor c.quiet.result y.session) c.call.view_is c.quiet.ensures in
    subst (λ ns. CallDid floor c.args.tick false ns x k point.unit_row) (sym c.no_items.ensures)
    (quiet_did floor before c.args.tick c.quiet.result x k h next known low)

pub returns-then-over-clause-did : goal.returns-then-over-clause-did
returns-then-over-clause-did g c =
    λ floor before k h next.
    let x = c.args.call.now in
    let due = c.in-Some-due_at.due in
    let session = c.in-Some.session in
    let new = c.pass_into.new.self in
    let within : x.passed ≤ before = h.passed in
    let seat = ap (λ (y : Call). y.session) (sym c.call.view_is) ∙ c.in-Some.is in
    let low = acting_from floor before c.args.tick due x k session h next seat (λ s stands. c.in-Some-due_at.ensures.due s stands) in
    let same = ap (λ (y : Call). y.passed) c.call.view_is in
    let least : due ≤ (before - x.passed) + 1 = omega (arith, same, c.in-Some-due_at.ensures.some.1, c.saturating_sub-lag.ensures) in
    let rows = λ (s : Point) (lags : SessionLags (before - x.passed) session s).
    let e : due ≡ suc (before - x.passed) = due_now (before - x.passed) due session s lags (c.in-Some-due_at.ensures.due lags.was lags.stands) least in
    let same : point.units due lags.was ≡ point.unit_row s = ap (λ n. point.units n lags.was) e ∙ point_acts (before - x.passed) lags.was lags.quiet ∙ ap point.unit_row (sym lags.aged) in
    same in
    let gives = λ (s : Point) (lags : SessionLags (before - x.passed) session s).
    c.pass_into.ensures.ticks.gives lags.was lags.stands ∙ ap (λ (r : Row Point). r.items) (rows s lags) in
    let stands = λ (s : Point) (lags : SessionLags (before - x.passed) session s).
    subst (λ (r : Row Point). SessionStandsFor new r.new) (rows s lags) (c.pass_into.ensures.ticks.stands lags.was lags.stands) in
    acted_as floor c.args.tick true c.pass_into.new.items.items x _ None _ k point.unit_row c.call.view_is c.free-call.ensures
    (acted_over floor before c.args.tick x k point.unit_row session c.pass_into.new.items.items h low
    (ap (λ (y : Call). y.session) (sym c.call.view_is) ∙ c.in-Some.is)
    (λ s lags. (gives s lags, is_over (point.unit_row s).new ((c.over.ensures (point.unit_row s).new (stands s lags)).0 c.if-over.true))))

pub returns-else-over-clause-did : goal.returns-else-over-clause-did
returns-else-over-clause-did g c =
    λ floor before k h next.
    let x = c.args.call.now in
    let due = c.in-Some-due_at.due in
    let session = c.in-Some.session in
    let new = c.pass_into.new.self in
    let within : x.passed ≤ before = h.passed in
    let seat = ap (λ (y : Call). y.session) (sym c.call.view_is) ∙ c.in-Some.is in
    let low = acting_from floor before c.args.tick due x k session h next seat (λ s stands. c.in-Some-due_at.ensures.due s stands) in
    let same = ap (λ (y : Call). y.passed) c.call.view_is in
    let least : due ≤ (before - x.passed) + 1 = omega (arith, same, c.in-Some-due_at.ensures.some.1, c.saturating_sub-lag.ensures) in
    let rows = λ (s : Point) (lags : SessionLags (before - x.passed) session s).
    let e : due ≡ suc (before - x.passed) = due_now (before - x.passed) due session s lags (c.in-Some-due_at.ensures.due lags.was lags.stands) least in
    let same : point.units due lags.was ≡ point.unit_row s = ap (λ n. point.units n lags.was) e ∙ point_acts (before - x.passed) lags.was lags.quiet ∙ ap point.unit_row (sym lags.aged) in
    same in
    let gives = λ (s : Point) (lags : SessionLags (before - x.passed) session s).
    c.pass_into.ensures.ticks.gives lags.was lags.stands ∙ ap (λ (r : Row Point). r.items) (rows s lags) in
    let stands = λ (s : Point) (lags : SessionLags (before - x.passed) session s).
    subst (λ (r : Row Point). SessionStandsFor new r.new) (rows s lags) (c.pass_into.ensures.ticks.stands lags.was lags.stands) in
    subst (λ (y : Call). CallDid floor c.args.tick true c.pass_into.new.items.items (record y { session = Some c.pass_into.new.self; passed = c.args.tick }) k point.unit_row) (sym c.call.view_is)
    (acted_on floor before c.args.tick x k point.unit_row session new c.pass_into.new.items.items h low
    (ap (λ (y : Call). y.session) (sym c.call.view_is) ∙ c.in-Some.is)
    (λ s lags. (gives s lags, not_over (point.unit_row s).new (iff_false (c.over.ensures (point.unit_row s).new (stands s lags)) c.if-over.false), stands s lags)))

pub returns-then-over-clause-passes : goal.returns-then-over-clause-passes
returns-then-over-clause-passes g c =
    λ floor before k h.
    let x = c.args.call.now in
    let session = c.in-Some.session in
    let items = c.pass_into.new.items.items in
    let some : 1 ≤ length items =
    seat_has (1 ≤ length items) (before - x.passed) session k.session (subst (λ o. SeatLags (before - x.passed) o k.session) (ap (λ (y : Call). y.session) (sym c.call.view_is) ∙ c.in-Some.is) h.session)
    (λ s lags. subst (λ ns. 1 ≤ length ns) (sym (c.pass_into.ensures.ticks.gives lags.was lags.stands))
    (session_gives c.in-Some-due_at.due lags.was lags.stands.kept (c.in-Some-due_at.ensures.due lags.was lags.stands))) in
    omega (arith, c.pass_into.ensures.moments)

pub returns-else-over-clause-passes : goal.returns-else-over-clause-passes
returns-else-over-clause-passes g c =
    λ floor before k h.
    let x = c.args.call.now in
    let session = c.in-Some.session in
    let items = c.pass_into.new.items.items in
    let some : 1 ≤ length items =
    seat_has (1 ≤ length items) (before - x.passed) session k.session (subst (λ o. SeatLags (before - x.passed) o k.session) (ap (λ (y : Call). y.session) (sym c.call.view_is) ∙ c.in-Some.is) h.session)
    (λ s lags. subst (λ ns. 1 ≤ length ns) (sym (c.pass_into.ensures.ticks.gives lags.was lags.stands))
    (session_gives c.in-Some-due_at.due lags.was lags.stands.kept (c.in-Some-due_at.ensures.due lags.was lags.stands))) in
    omega (arith, c.pass_into.ensures.moments)
