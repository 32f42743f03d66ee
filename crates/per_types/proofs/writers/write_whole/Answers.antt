use Rattle.std.proofs.Common.{◌≡◌, ◌∙◌, refl, arith, w64}
use Rattle.std.specs.Prelude.{◌-ℤ◌, unsigned_abs}
use Rattle.std.proofs.lemmas.Int.{to_z-of_z}
use Rattle.per_bits.specs.Bits.{digits}
use Rattle.per_bits.proofs.Digits.{length_digits}
use Rattle.per_types.specs.Spelling.{WholeElements}
use Rattle.per_types.proofs.Widths.{width_most, width_enough}
use Rattle.per_types.proofs.Written.{written, whole_spelled, whole_fits, span_below, ordered_by}
use Rattle.per_types.proofs.writers.write_whole.Goals as goal

pub put-requires-clause-narrow : goal.put-requires-clause-narrow
put-requires-clause-narrow c =
    let span = span_below c.args.low c.args.high (ordered_by c.args.low c.args.value c.args.high c.requires.above c.requires.below) c.ranges.low c.ranges.high in
    rw c.requires.width (width_most (unsigned_abs (c.args.high -ℤ c.args.low)) span)

pub put-requires-clause-fits : goal.put-requires-clause-fits
put-requires-clause-fits c =
    let value = to_z-of_z w64 c.args.value c.ranges.value in
    let low = to_z-of_z w64 c.args.low c.ranges.low in
    let high = to_z-of_z w64 c.args.high c.ranges.high in
    let gap : c.abs_diff.result ≡ unsigned_abs (c.args.value -ℤ c.args.low) = c.abs_diff.ensures ∙ rw (value, low) refl in
    let within = whole_fits c.args.low c.args.high c.args.value c.requires.above c.requires.below in
    let enough = width_enough (unsigned_abs (c.args.high -ℤ c.args.low)) in
    rw c.requires.width (omega (arith, gap, within, enough))

pub returns : goal.returns
returns c =
    let value = to_z-of_z w64 c.args.value c.ranges.value in
    let low = to_z-of_z w64 c.args.low c.ranges.low in
    let gap : c.abs_diff.result ≡ unsigned_abs (c.args.value -ℤ c.args.low) = c.abs_diff.ensures ∙ rw (value, low) refl in
    written (WholeElements c.args.low c.args.high c.args.value) c.args.to.now c.put.new.self (digits c.args.width c.abs_diff.result) c.args.width c.put.result
    (whole_spelled c.args.low c.args.high c.args.value c.args.width c.abs_diff.result c.requires.width c.requires.above c.requires.below gap (put-requires-clause-fits (c.before)))
    (length_digits c.args.width c.abs_diff.result) c.put.ensures.ok c.put.ensures.full
