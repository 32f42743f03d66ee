use Rattle.std.proofs.Common.{◌+◌, ◌<◌, ◌≤◌, ap, arith}
use Rattle.per_bits.specs.Bits.{digits}
use Rattle.per_bits.proofs.Digits.{length_digits}
use Rattle.per_types.specs.Spelling.{RootElements, AddedElements}
use Rattle.per_types.proofs.Written.{written, root_spelled, added_spelled, root_fits, fits_more}
use Rattle.per_types.proofs.writers.write_enum.Goals as goal

pub overflow_add-width : goal.overflow_add-width
overflow_add-width c =
    let known : c.in-Root.i < c.args.roots = rw c.in-Root.is at c.requires.index in
    omega (arith, (root_fits c.args.roots c.in-Root.i c.args.width (omega arith) c.requires.width known).1)

pub put-requires-clause-narrow : goal.put-requires-clause-narrow
put-requires-clause-narrow c =
    let known : c.in-Root.i < c.args.roots = rw c.in-Root.is at c.requires.index in
    omega (arith, (root_fits c.args.roots c.in-Root.i c.args.width (omega arith) c.requires.width known).1)

pub put-requires-clause-fits : goal.put-requires-clause-fits
put-requires-clause-fits c =
    let known : c.in-Root.i < c.args.roots = rw c.in-Root.is at c.requires.index in
    let fits = root_fits c.args.roots c.in-Root.i c.args.width (omega arith) c.requires.width known in
    rw c.from.ensures (fits_more c.in-Root.i c.args.width fits.0)

pub returns-in-Root : goal.returns-in-Root
returns-in-Root c =
    let known : c.in-Root.i < c.args.roots = rw c.in-Root.is at c.requires.index in
    let fits = root_fits c.args.roots c.in-Root.i c.args.width (omega arith) c.requires.width known in
    rw c.in-Root.is
    (written (RootElements c.args.roots c.in-Root.i) c.args.to.now c.put.new.self (digits (c.args.width + 1) c.from.result) (c.args.width + 1) c.put.result
    (root_spelled c.args.roots c.in-Root.i c.args.width c.from.result c.requires.width known fits.0 c.from.ensures) (length_digits (c.args.width + 1) c.from.result) c.put.ensures.ok c.put.ensures.full)

pub returns-in-Added : goal.returns-in-Added
returns-in-Added c =
    let few : c.in-Added.i ≤ 63 = rw c.in-Added.is at c.requires.index in
    rw c.in-Added.is
    (written (AddedElements c.in-Added.i) c.args.to.now c.put-in-Added.new.self (digits 8 (128 + c.from-in-Added.result)) 8 c.put-in-Added.result
    (added_spelled c.in-Added.i (128 + c.from-in-Added.result) few (ap (λ n. 128 + n) c.from-in-Added.ensures)) (length_digits 8 (128 + c.from-in-Added.result)) c.put-in-Added.ensures.ok c.put-in-Added.ensures.full)
