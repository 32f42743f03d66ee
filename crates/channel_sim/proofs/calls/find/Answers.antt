use Rattle.std.proofs.Common.{◌≡◌, ◌<◌, ◌-◌, get_or, length, refl, subst, sym, arith}
use Rattle.std.specs.VecDeque.{deque_len}
use Rattle.channel_sim.proofs.PlaceLemmas.{found_place}
use Rattle.channel_sim.proofs.calls.find.Goals as goal

pub returns-in-Some-clause-place : goal.returns-in-Some-clause-place
returns-in-Some-clause-place c =
    λ above.
    let calls = c.args.calls.now in
    let xs = calls.items in
    let x = c.in-Some.newest.now in
    let at = c.len.result - 1 in
    let some : 0 < deque_len calls = c.in-Some.ensures.variant.0 refl in
    let long = calls.ok.0 in
    let inside : at < length xs = omega (arith, some, long, c.len.ensures) in
    let value : x ≡ get_or xs at x = subst (λ n. x ≡ get_or xs (n - 1) x) (sym c.len.ensures) c.in-Some.ensures.lookup in
    sym (found_place 0 c.args.number xs at x above inside (subst (λ k. k.number ≡ c.args.number) value c.if-newest-number.true))
