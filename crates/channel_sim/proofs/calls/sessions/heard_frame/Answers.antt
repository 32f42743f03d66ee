use Rattle.std.proofs.Common.{◌≡◌, List, true, false, refl, ap, sym, ◌∙◌, slice_get}
use Rattle.std.specs.Option.{is_some, option_map}
use Rattle.trace_model.specs.History.{Sent}
use Rattle.channel_sim.specs.World as model
use Rattle.channel_sim.proofs.CallsLemmas.{found_at, is_there, no_session}
use Rattle.channel_sim.proofs.ChangeLemmas.{sent_at}
use Rattle.channel_sim.proofs.calls.sessions.heard_frame.Goals as goal

pub returns-in_err-find : goal.returns-in_err-find
returns-in_err-find c =
    λ floor clock ks h above.
    let xs = c.args.calls.now.items in
    let place = found_at floor clock c.args.number xs xs ks c.find.result refl c.find.ensures.place h above ∙ c.in_err-find.was in
    let off : is_some (model.session_of c.args.number ks) ≡ false = ap is_some (no_session c.args.number ks place) in
    rw c.from_residual.ensures (rw off refl)

pub returns-then-is_some : goal.returns-then-is_some
returns-then-is_some c =
    λ floor clock ks h above.
    let xs = c.args.calls.now.items in
    let i = c.in_ok-find.field-0 in
    let d = c.index-call.result.now in
    let place = found_at floor clock c.args.number xs xs ks _ refl c.in_ok-find.ensures.place h above in
    let sent = sent_at floor clock c.args.number xs ks i d h place in
    let on : is_some (model.session_of c.args.number ks) ≡ true =
    sym (is_there floor clock c.args.number xs ks i d h place) ∙ ap (λ x. is_some x.session) (sym c.index-call.ensures)
    ∙ sym c.is_some.ensures ∙ c.if-is_some.true in
    rw on
    (c.frame.ensures ∙ ap (λ (ss : List Sent). option_map (λ s. s.frame) (slice_get ss c.args.place)) (ap (λ k. k.up) c.index-call.ensures ∙ sym sent.0))

pub returns-else-is_some : goal.returns-else-is_some
returns-else-is_some c =
    λ floor clock ks h above.
    let xs = c.args.calls.now.items in
    let i = c.in_ok-find.field-0 in
    let d = c.index-call.result.now in
    let place = found_at floor clock c.args.number xs xs ks _ refl c.in_ok-find.ensures.place h above in
    let off : is_some (model.session_of c.args.number ks) ≡ false =
    sym (is_there floor clock c.args.number xs ks i d h place) ∙ ap (λ x. is_some x.session) (sym c.index-call.ensures)
    ∙ sym c.is_some.ensures ∙ c.if-is_some.false in
    rw off refl
