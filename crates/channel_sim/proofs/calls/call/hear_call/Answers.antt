use Rattle.std.proofs.Common.{◌≡◌, ◌-◌, inl, true, Some, None, ap, sym, ◌∙◌, subst, arith}
use Rattle.std.proofs.lemmas.Bool.{iff_false}
use Rattle.link_frames.specs.declared.note.Why.TheVariants as why
use Rattle.psap_machine.specs.Point.{Point, Over}
use Rattle.psap_machine.specs.PointRows as point
use Rattle.channel_sim.specs.declared.calls.call.Call.{Call}
use Rattle.channel_sim.specs.inner.Acts.{CallDid}
use Rattle.channel_sim.proofs.RestLemmas.{from_settled, gone_now, lags_on, wakes_now}
use Rattle.channel_sim.proofs.SeatLemmas.{heard_over, heard_on, ended, no_seat}
use Rattle.channel_sim.proofs.WakeLemmas.{heard_as}
use Rattle.channel_sim.proofs.calls.call.hear_call.Goals as goal

pub returns-then-over-clause-did : goal.returns-then-over-clause-did
returns-then-over-clause-did c =
    λ floor k h low caught.
    let x = c.args.call.now in
    let tick = c.args.tick in
    let e = point.heard c.args.event.now in
    let row = λ (s : Point). point.point_row s e in
    let seat = ap (λ (y : Call). y.session) (sym c.call.view_is) ∙ c.in-Some.is in
    heard_as floor tick true c.hear_into.new.items.items x _ None _ k row c.call.view_is c.free-call.ensures
    (heard_over floor tick x k row c.in-Some.session c.hear_into.new.self c.hear_into.new.items.items c.over.result h seat
    (λ s lags. gone_now tick x c.in-Some.session s e c.hear_into.new.items.items seat caught lags
    (λ q one. c.hear_into.ensures.gives q one)
    (λ q one. (c.over.ensures (row q).new (c.hear_into.ensures.stands q one)).0 c.if-over.true)))

pub returns-else-not-is_settled-clause-did : goal.returns-else-not-is_settled-clause-did
returns-else-not-is_settled-clause-did c =
    λ floor k h low caught.
    let x = c.args.call.now in
    let tick = c.args.tick in
    let e = point.heard c.args.event.now in
    let row = λ (s : Point). point.point_row s e in
    let new = c.hear_into.new.self in
    let items = c.hear_into.new.items.items in
    let seat = ap (λ (y : Call). y.session) (sym c.call.view_is) ∙ c.in-Some.is in
    let now = c.is_settled.ensures.state.0 c.if-not-is_settled.false in
    subst (λ (y : Call). CallDid floor tick true items (record y { session = Some new }) k row) (sym c.call.view_is)
    (heard_on floor tick x.passed x k row c.in-Some.session new items h seat h.passed (from_settled floor x new now h.from)
    (λ s lags. lags_on tick x c.in-Some.session new s e items seat caught lags
    (λ q one. c.hear_into.ensures.gives q one) (λ q one. c.hear_into.ensures.stands q one)
    (λ q one. iff_false (c.over.ensures (row q).new (c.hear_into.ensures.stands q one)) c.if-over.false) now))

pub returns-then-not-is_settled-clause-did : goal.returns-then-not-is_settled-clause-did
returns-then-not-is_settled-clause-did c =
    λ floor k h low caught.
    let x = c.args.call.now in
    let tick = c.args.tick in
    let e = point.heard c.args.event.now in
    let row = λ (s : Point). point.point_row s e in
    let new = c.hear_into.new.self in
    let items = c.hear_into.new.items.items in
    let seat = ap (λ (y : Call). y.session) (sym c.call.view_is) ∙ c.in-Some.is in
    subst (λ (y : Call). CallDid floor tick true items (record y { session = Some new; passed = tick }) k row) (sym c.call.view_is)
    (heard_on floor tick tick x k row c.in-Some.session new items h seat (omega arith) (inl low)
    (λ s lags. wakes_now tick x c.in-Some.session new s e items seat caught lags
    (λ q one. c.hear_into.ensures.gives q one) (λ q one. c.hear_into.ensures.stands q one)
    (λ q one. iff_false (c.over.ensures (row q).new (c.hear_into.ensures.stands q one)) c.if-over.false)
    (iff_false c.is_settled.ensures.state c.if-not-is_settled.true)))

pub returns-then-over-clause-ended : goal.returns-then-over-clause-ended
returns-then-over-clause-ended c =
    λ floor clock k h is.
    let x = c.args.call.now in
    let row = λ (s : Point). point.point_row s (point.Ended why.Release) in
    let heard : point.heard c.args.event.now ≡ point.Ended why.Release = ap point.heard is in
    heard_as floor clock true c.hear_into.new.items.items x _ None _ k row c.call.view_is c.free-call.ensures
    (heard_over floor clock x k row c.in-Some.session c.hear_into.new.self c.hear_into.new.items.items c.over.result h
    (ap (λ (y : Call). y.session) (sym c.call.view_is) ∙ c.in-Some.is)
    (λ s lags.
    let e = ended (clock - x.passed) c.in-Some.session s lags in (
      c.hear_into.ensures.gives lags.was lags.stands ∙ ap (λ z. (point.point_row lags.was z).items) heard ∙ sym e.0,
      e.2,
    )))

pub returns-else-not-is_settled-clause-ended : goal.returns-else-not-is_settled-clause-ended
returns-else-not-is_settled-clause-ended c =
    λ floor clock k h is.
    let x = c.args.call.now in
    let heard : point.heard c.args.event.now ≡ point.Ended why.Release = ap point.heard is in
    no_seat floor clock x k c.in-Some.session h (ap (λ (y : Call). y.session) (sym c.call.view_is) ∙ c.in-Some.is)
    (λ s lags.
    let e = ended (clock - x.passed) c.in-Some.session s lags in
    let over : (point.point_row lags.was (point.heard c.args.event.now)).new.phase ≡ Over =
    ap (λ z. (point.point_row lags.was z).new.phase) heard ∙ e.1 in
    iff_false (c.over.ensures (point.point_row lags.was (point.heard c.args.event.now)).new
    (c.hear_into.ensures.stands lags.was lags.stands)) c.if-over.false over)

pub returns-then-not-is_settled-clause-ended : goal.returns-then-not-is_settled-clause-ended
returns-then-not-is_settled-clause-ended c =
    λ floor clock k h is.
    let x = c.args.call.now in
    let heard : point.heard c.args.event.now ≡ point.Ended why.Release = ap point.heard is in
    no_seat floor clock x k c.in-Some.session h (ap (λ (y : Call). y.session) (sym c.call.view_is) ∙ c.in-Some.is)
    (λ s lags.
    let e = ended (clock - x.passed) c.in-Some.session s lags in
    let over : (point.point_row lags.was (point.heard c.args.event.now)).new.phase ≡ Over =
    ap (λ z. (point.point_row lags.was z).new.phase) heard ∙ e.1 in
    iff_false (c.over.ensures (point.point_row lags.was (point.heard c.args.event.now)).new
    (c.hear_into.ensures.stands lags.was lags.stands)) c.if-over.false over)
