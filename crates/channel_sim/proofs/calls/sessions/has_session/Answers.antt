use Rattle.std.proofs.Common.{refl, ap, sym, ◌∙◌}
use Rattle.std.specs.Option.{is_some}
use Rattle.channel_sim.proofs.CallsLemmas.{found_at, is_there, no_session}
use Rattle.channel_sim.proofs.calls.sessions.has_session.Goals as goal

pub returns-in-Some : goal.returns-in-Some
returns-in-Some c =
    λ floor clock ks h above.
    let place = found_at floor clock c.args.number c.args.calls.now.items c.args.calls.now.items ks _ refl c.in-Some.ensures.place h above in
    c.is_some.ensures ∙ ap (λ x. is_some x.session) c.index.ensures ∙ is_there floor clock c.args.number c.args.calls.now.items ks c.in-Some.i c.index.result.now h place

pub returns-in-None : goal.returns-in-None
returns-in-None c =
    λ floor clock ks h above.
    let place = found_at floor clock c.args.number c.args.calls.now.items c.args.calls.now.items ks _ refl c.in-None.ensures.place h above in
    ap is_some (sym (no_session c.args.number ks place))
