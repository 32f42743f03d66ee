use Rattle.std.proofs.Common.{sym, subst, arith}
use Rattle.std.specs.List.{AllByRecursion}
use Rattle.channel_sim.specs.Quiet.{FramesRest}
use Rattle.channel_sim.proofs.WaitLemmas.{all_until, down_rests, up_rests, vehicle_waits}
use Rattle.channel_sim.proofs.channel.Channel.next_moment.Goals as goal

pub returns-clause-acts : goal.returns-clause-acts
returns-clause-acts c =
    λ floor n w s low.
    let kept = c.args.self.now in (
      vehicle_waits floor n c.acts_at-due.result c.due.result kept w s (λ u one. c.due.ensures u one) c.acts_at-due.ensures.due (omega (arith, c.act_at.ensures.most)),
      all_until floor kept.tick n c.act_at.result kept.calls w.calls s.calls c.act_at.ensures.waits low,
    )

pub returns-clause-up : goal.returns-clause-up
returns-clause-up c =
    λ floor n w s low.
    let kept = c.args.self.now in
    subst (λ t. AllByRecursion (λ k. FramesRest n w.up_flow t k.up) w.calls) (sym s.tick)
    (subst (λ f. AllByRecursion (λ k. FramesRest n f kept.tick k.up) w.calls) (sym s.up_flow)
    (up_rests floor (λ d. kept.tick) (FramesRest n kept.up_flow kept.tick) kept.calls w.calls s.calls (c.hand_at.ensures.quiet n low)))

pub returns-clause-down : goal.returns-clause-down
returns-clause-down c =
    λ floor n w s low.
    let kept = c.args.self.now in
    subst (λ t. AllByRecursion (λ k. FramesRest n w.down_flow t k.down) w.calls) (sym s.tick)
    (subst (λ f. AllByRecursion (λ k. FramesRest n f kept.tick k.down) w.calls) (sym s.down_flow)
    (down_rests floor (λ d. kept.tick) (FramesRest n kept.down_flow kept.tick) kept.calls w.calls s.calls (c.hand_at-2.ensures.quiet n low)))
