use Rattle.std.proofs.Common.{◌<◌, length, map, take, sym, subst, arith, add-one}
use Rattle.std.specs.List.{AllByRecursion}
use Rattle.std.proofs.lemmas.Bool.{ltb-true, ltb-false}
use Rattle.channel_sim.specs.declared.calls.sendings.Sending.{Sending}
use Rattle.channel_sim.proofs.TickLemmas.{low_part, high_part, past_part}
use Rattle.channel_sim.proofs.calls.sendings.is_earlier.Goals as goal

pub returns-then-place-sendings-clause-behind : goal.returns-then-place-sendings-clause-behind
returns-then-place-sendings-clause-behind c = λ no rise. past_part (λ (s : Sending). s.tick) c.args.tick c.args.sendings.now c.args.place c.if-place-sendings.true

pub returns-clause-front : goal.returns-clause-front
returns-clause-front c =
    λ earlier rise.
    let place = c.args.place in
    let inside : place < length c.args.sendings.now = omega (arith, c.if-place-sendings.false) in
    subst (λ m. AllByRecursion (λ t. t < c.args.tick) (take m (map (λ (s : Sending). s.tick) c.args.sendings.now))) (sym (add-one place))
    (low_part (λ (s : Sending). s.tick) 0 c.args.tick c.args.sendings.now place (record { tick = 0; call = 0 }) rise inside (ltb-true _ _ earlier))

pub returns-clause-behind : goal.returns-clause-behind
returns-clause-behind c =
    λ later rise.
    let inside : c.args.place < length c.args.sendings.now = omega (arith, c.if-place-sendings.false) in
    high_part (λ (s : Sending). s.tick) 0 c.args.tick c.args.sendings.now c.args.place (record { tick = 0; call = 0 }) rise inside (ltb-false _ _ later)
