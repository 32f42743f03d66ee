use Rattle.std.proofs.Common.{◌≡◌, ◌<◌, ◌-◌, Some, get_or, length, slice_get, refl, subst, arith}
use Rattle.std.proofs.lemmas.Option.{slice_get_read}
use Rattle.std.specs.VecDeque.{deque_len}
use Rattle.channel_sim.proofs.BesideLemmas.{above_last, last_above, some_last}
use Rattle.channel_sim.proofs.calls.last_number.Goals as goal

-- the call that was found is the last one
is_last : (c : goal.In-Some) → slice_get c.args.calls.now.items (length c.args.calls.now.items - 1) ≡ Some c.in-Some.call.now
is_last c =
    let calls = c.args.calls.now in
    let xs = calls.items in
    let x = c.in-Some.call.now in
    let some : 0 < deque_len calls = c.in-Some.ensures.variant.0 refl in
    let long = calls.ok.0 in
    slice_get_read xs (length xs) (length xs - 1) x refl (omega (arith, some, long)) (subst (λ n. x ≡ get_or xs (n - 1) x) long c.in-Some.ensures.lookup)

pub returns-in-Some-clause-above : goal.returns-in-Some-clause-above
returns-in-Some-clause-above c =
    let xs = c.args.calls.now.items in
    let x = c.in-Some.call.now in
    λ n above low. above_last 0 (length xs - 1) xs x n (some_last xs x (is_last c)) (is_last c) above low

pub returns-in-Some-clause-last : goal.returns-in-Some-clause-last
returns-in-Some-clause-last c =
    let xs = c.args.calls.now.items in
    let x = c.in-Some.call.now in
    λ n above. last_above 0 (length xs - 1) xs x n (some_last xs x (is_last c)) (is_last c) above
