use Rattle.std.proofs.Common.{◌<◌, ◌≤◌, length, sym, ap, ◌∙◌, Some, arith}
use Rattle.channel_sim.proofs.SendsLemmas.{tick_at, no_tick_at}
use Rattle.channel_sim.proofs.sends.Sends.tick.Goals as goal

pub returns-then-k-len : goal.returns-then-k-len
returns-then-k-len c =
    let inside : c.args.k < length c.self.inside.frames.items = omega (arith, c.len.ensures, c.if-k-len.true) in
    rw (← c.self.view_is) (ap (λ f. Some f.tick) c.index.ensures ∙ sym (tick_at c.self.inside.frames.items c.args.k c.index.result.now inside))

pub returns-else-k-len : goal.returns-else-k-len
returns-else-k-len c =
    let past : length c.self.inside.frames.items ≤ c.args.k = omega (arith, c.len.ensures, c.if-k-len.false) in
    rw (← c.self.view_is) (sym (no_tick_at c.self.inside.frames.items c.args.k past))
