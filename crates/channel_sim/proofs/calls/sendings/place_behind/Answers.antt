use Rattle.std.proofs.Common.{◌-◌, ◌<◌, ◌≤◌, get_or, length, subst, arith}
use Rattle.channel_sim.specs.declared.calls.sendings.Sending.{Sending}
use Rattle.channel_sim.proofs.TickLemmas.{behind_all, up_to_last}
use Rattle.channel_sim.proofs.calls.sendings.place_behind.Goals as goal

pub returns-in_default-clause-behind : goal.returns-in_default-clause-behind
returns-in_default-clause-behind c =
    λ rise.
    let fs = c.args.sendings.now in
    let last = c.in-Some.last.now in
    let place = length fs - 1 in
    let item = c.in-Some.ensures.item in
    let some : 0 < length fs = item.3.0 in
    let low : (get_or fs place last).tick ≤ c.args.tick = subst (λ (x : Sending). x.tick ≤ c.args.tick) (item.3.1 last) c.if-last-tick.false in
    behind_all (λ (s : Sending). s.tick) c.args.tick fs (up_to_last (λ (s : Sending). s.tick) 0 c.args.tick fs place last rise (omega arith) low)
