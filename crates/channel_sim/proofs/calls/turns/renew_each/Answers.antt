use Rattle.std.proofs.Common.{refl, sym, ◌∙◌, subst, arith}
use Rattle.channel_sim.specs.inner.Turns.{WaitsUntil}
use Rattle.channel_sim.proofs.TurnLemmas.{Holds, all_passed, at_place, no_place, renewed, renewed_more}
use Rattle.channel_sim.proofs.calls.turns.renew_each.Goals.{in-Some, in_default}
use Rattle.channel_sim.proofs.calls.turns.renew_each.Goals as goal

pub loop-turn-preserved : goal.loop-turn-preserved
loop-turn-preserved c =
    let calls = c.args.calls.now.items in
    let more = renewed_more calls c.args.turns.now c.loop-turn.turn-items c.loop-turn.turn-index in
    let place = sym (c.find.ensures.place c.requires) in
    elim c.match-find.branch [
      | in-Some w ↦
          more _ _ _ (omega arith) w.turn-is refl c.loop-turn.invariant.0 c.loop-turn.invariant.1
          (at_place (WaitsUntil w.acts_from-turn.result) 0 _ calls w.in-Some.i w.index.result.now c.requires (place ∙ w.in-Some.is)
          (subst (WaitsUntil w.acts_from-turn.result) w.index.ensures w.acts_from-turn.ensures))
      | in_default w ↦
          more _ _ _ (omega arith) w.turn-is refl c.loop-turn.invariant.0 c.loop-turn.invariant.1
          (no_place (WaitsUntil _) _ calls (place ∙ w.in_default.is))
    ]

pub returns-clause-watched : goal.returns-clause-watched
returns-clause-watched c =
    λ listed.
    renewed c.args.calls.now.items c.args.turns.now c.loop-turn.turn-items c.loop-turn.invariant.0
    (all_passed (Holds c.args.calls.now.items) c.loop-turn.turn-items c.loop-turn.turn-index (omega arith) c.loop-turn.invariant.1) listed
