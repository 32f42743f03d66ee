use Rattle.channel_sim.proofs.world.World.session_turn.Goals as goal

pub returns-clause-passes : goal.returns-clause-passes
returns-clause-passes g c = λ ahead floor before after w s now due passed others small.
    c.session_passes.ensures.passes ahead floor before after w s now due passed others small
