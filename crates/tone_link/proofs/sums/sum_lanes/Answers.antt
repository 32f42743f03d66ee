use Rattle.std.proofs.Common.{◌≡◌, ℤ, pos, ◌+ℤ◌, List, FitsSigned, w16, rules, arith, ap, ◌∙◌}
use Rattle.std.specs.List.{AllByRecursion, range_with_len}
use Rattle.std.proofs.lemmas.Int.{ints}
use Rattle.std.proofs.lemmas.Simd.{pick_l_whole}
use lib.Lanes.{pick_l}
use Rattle.tone_link.specs.Tones.{pattern, sum_by_signs}
use Rattle.tone_link.proofs.Lanes.{IsWithin, sums_fit, sum_is}
use Rattle.tone_link.proofs.sums.sum_lanes.Goals as goal

abbrev eight : List ℤ → List ℤ
eight samples = pick_l (pos 0) samples (range_with_len 0 8)

pub overflow_add-result : goal.overflow_add-result
overflow_add-result c =
    let none : IsWithin 0 (pos 0) = record { above = omega (arith, ints); below = omega (arith, ints) } in
    let fits : AllByRecursion (FitsSigned w16) (eight c.args.samples.now) = search rules in
    sums_fit 0 (pos 0) (eight c.args.samples.now) pattern none (omega arith) fits

pub returns : goal.returns
returns c =
    let none : IsWithin 0 (pos 0) = record { above = omega (arith, ints); below = omega (arith, ints) } in
    let fits : AllByRecursion (FitsSigned w16) (eight c.args.samples.now) = search rules in
    let whole = pick_l_whole (pos 0) c.args.samples.now 8 c.requires in
    let start : pos 0 +ℤ sum_by_signs pattern (eight c.args.samples.now) ≡ sum_by_signs pattern (eight c.args.samples.now) = omega (arith, ints) in
    sum_is 0 (pos 0) (eight c.args.samples.now) pattern none (omega arith) fits ∙ start ∙ ap (sum_by_signs pattern) whole
