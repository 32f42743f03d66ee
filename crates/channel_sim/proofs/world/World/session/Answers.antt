use Rattle.std.proofs.Common.{None, get_or, ap, sym, ◌∙◌, subst}
use Rattle.std.specs.Option.{option_copied}
use Rattle.channel_sim.specs.World.{session_of}
use Rattle.channel_sim.specs.Lag.{level}
use Rattle.channel_sim.specs.WorldStands.{FoundStandsFor}
use Rattle.channel_sim.proofs.CallsLemmas.{found_at, no_session}
use Rattle.channel_sim.proofs.Standing.{now_stands, found_in}
use Rattle.channel_sim.proofs.world.World.session.Goals as goal

pub returns-in_err-i : goal.returns-in_err-i
returns-in_err-i c =
    λ w h.
    let kept = c.args.self.now.channel in
    let s = now_stands kept.tick kept w h in
    let place = found_at (level kept.tick kept.tick) (λ d. kept.tick) c.args.call c.all-calls.result.now.items kept.calls w.calls _ c.all-calls.ensures c.in_err-i.ensures.place s.calls s.tidy.numbers in
    subst (λ r. FoundStandsFor (option_copied r) (session_of c.args.call w.calls)) (sym c.from_residual.ensures)
    (subst (FoundStandsFor None) (sym (no_session c.args.call w.calls place)) tt)

pub returns : goal.returns
returns c =
    λ w h.
    let kept = c.args.self.now.channel in
    let s = now_stands kept.tick kept w h in
    let place = found_at (level kept.tick kept.tick) (λ d. kept.tick) c.args.call c.all-calls.result.now.items kept.calls w.calls _ c.all-calls.ensures c.in_ok-i.ensures.place s.calls s.tidy.numbers in
    subst (λ o. FoundStandsFor o (session_of c.args.call w.calls)) (sym (c.session.ensures ∙ ap (λ k. k.session) c.index.ensures ∙ ap (λ xs. (get_or xs c.in_ok-i.i c.index.result.now).session) c.all-calls.ensures))
    (found_in kept.tick c.args.call kept.calls w.calls c.in_ok-i.i c.index.result.now h.calls place)
