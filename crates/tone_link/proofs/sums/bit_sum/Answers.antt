use Rattle.std.proofs.Common.{◌≡◌, ◌+◌, ◌*◌, ◌-◌, FitsSigned, w32, rules, arith, ap, ◌∙◌, take, drop}
use Rattle.std.proofs.lemmas.Int.{to_z-of_z}
use Rattle.tone_link.specs.Tones.{pattern, sum_by_signs}
use Rattle.tone_link.proofs.sums.bit_sum.Goals as goal

pub returns : goal.returns
returns c =
    let fits : FitsSigned w32 c.sum_lanes.result = search rules in
    let width : 8 * c.args.i + 8 - 8 * c.args.i ≡ 8 = omega arith in
    to_z-of_z w32 c.sum_lanes.result fits ∙ c.sum_lanes.ensures
    ∙ ap (λ n. sum_by_signs pattern (take n (drop (8 * c.args.i) c.args.samples.now))) width
