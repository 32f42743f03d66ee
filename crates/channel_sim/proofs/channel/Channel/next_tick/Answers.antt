use Rattle.channel_sim.proofs.WaitLemmas.{quiet_until}
use Rattle.channel_sim.proofs.channel.Channel.next_tick.Goals as goal

pub returns-clause-quiet : goal.returns-clause-quiet
returns-clause-quiet c =
    λ floor n w s low.
    let next = c.next_moment.result in
    quiet_until n c.args.self.now.tick c.first_of.result next.acts next.up next.down w c.first_of.ensures.acts c.first_of.ensures.up c.first_of.ensures.down
    (c.next_moment.ensures.acts floor n w s) (c.next_moment.ensures.up floor n w s) (c.next_moment.ensures.down floor n w s) low
