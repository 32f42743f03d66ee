use Rattle.std.proofs.Common.{◌-◌, ◌++◌, ◌∷◌, [], map, ap, sym, ◌∙◌, subst, arith, append-nil}
use Rattle.channel_sim.specs.World.{due_in}
use Rattle.channel_sim.specs.Handing.{due_of, sent_way}
use Rattle.channel_sim.specs.Tidy.{AreFrom, ticks_of}
use Rattle.channel_sim.proofs.DueLemmas.{call_none, one_at, way_kept, way_rises}
use Rattle.channel_sim.proofs.CallsLemmas.{on_ok}
use Rattle.channel_sim.proofs.calls.due.call_due.Goals as goal
use Rattle.channel_sim.proofs.calls.due.call_due.Goals.{then-flow-eq0-via-then-flow-eq0, then-flow-eq0-via-else-flow-eq0+then-now-delay}

pub returns-then-flow-eq0 : goal.returns-then-flow-eq0
returns-then-flow-eq0 c =
    λ floor clock k h in_time.
    let old = map due_of c.args.due.now.items in
    sym (ap (λ z. old ++ z)
    (elim c.then-flow-eq0.branch [
      | then-flow-eq0-via-then-flow-eq0 w ↦ ap (λ d. due_in (sent_way c.args.up) d c.args.now (k ∷ [])) w.if-flow-eq0.true
      | then-flow-eq0-via-else-flow-eq0+then-now-delay w ↦ call_none (sent_way c.args.up) c.args.flow c.args.now k (omega (arith, w.if-now-delay.true, c.from-delay.ensures))
    ]) ∙ append-nil old)

pub returns : goal.returns
returns c =
    λ floor clock k h in_time.
    let way = c.sends.ensures ∙ way_kept c.args.up floor clock c.args.call.now k h in
    let rise = subst (λ ss. AreFrom 0 (ticks_of ss)) (sym way) (way_rises c.args.up c.args.now k in_time) in
    on_ok c.add_due.result
    (λ e. e ∙ ap (λ z. map due_of c.args.due.now.items ++ z)
    (one_at c.args.up c.args.flow c.args.now c.args.call.now.number (c.args.now - c.from-delay.result) c.sends.result.now k c.if-flow-eq0.false (omega (arith, c.if-now-delay.false, c.from-delay.ensures)) (sym h.number) way))
    (c.add_due.ensures c.args.flow rise)
