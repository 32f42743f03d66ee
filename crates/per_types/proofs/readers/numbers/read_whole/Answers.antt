use Rattle.std.proofs.Common.{◌≡◌, ◌<◌, ◌≤◌, refl, ◌∙◌, arith, w64}
use Rattle.std.specs.Prelude.{◌-ℤ◌, unsigned_abs}
use Rattle.std.proofs.lemmas.Int.{ints, to_z-of_z}
use Rattle.std.proofs.lemmas.Result.{err_from_is_err_and}
use Rattle.per_types.proofs.Widths.{width_most}
use Rattle.per_types.proofs.Written.{span_below}
use Rattle.per_types.proofs.Elementwise.{whole_short, whole_above, whole_sum, span_is}
use Rattle.std.proofs.Common.{Ok, Err}
use Rattle.per_types.proofs.Decided.{gives_reads, only_whole}
use Rattle.per_types.specs.Spelling.{WholeElements}
use Rattle.per_types.specs.Reading.{whole_at}
use Rattle.per_types.proofs.readers.numbers.read_whole.Goals as goal

pub look-requires : goal.look-requires
look-requires c = rw c.requires.width (width_most (unsigned_abs (c.args.high -ℤ c.args.low)) (span_below c.args.low c.args.high c.requires.ordered c.ranges.low c.ranges.high))

pub returns-in_err-n-clause-exact : goal.returns-in_err-n-clause-exact
returns-in_err-n-clause-exact c =
    let p = err_from_is_err_and c.from_residual.result c.from_residual.ensures.1 in
    rw (p.1, p.2) (whole_short c.args.low c.args.high c.args.width c.requires.width c.args.c.now _ c.in_err-n.ensures.short)

pub returns-then-n-abs_diff-clause-exact : goal.returns-then-n-abs_diff-clause-exact
returns-then-n-abs_diff-clause-exact c =
    let low = to_z-of_z w64 c.args.low c.ranges.low in
    let high = to_z-of_z w64 c.args.high c.ranges.high in
    let gap : c.abs_diff.result ≡ unsigned_abs (c.args.high -ℤ c.args.low) = c.abs_diff.ensures ∙ rw (low, high) refl in
    let above : unsigned_abs (c.args.high -ℤ c.args.low) < c.in_ok-n.n = omega (arith, gap) in
    rw c.refusal.ensures (whole_above c.args.low c.args.high c.args.width c.requires.width c.args.c.now c.in_ok-n.n (record { enough = c.in_ok-n.ensures.ok.0; reads = c.in_ok-n.ensures.ok.1 }) c.requires.ordered above)

pub returns-clause-exact : goal.returns-clause-exact
returns-clause-exact c =
    let low = to_z-of_z w64 c.args.low c.ranges.low in
    let high = to_z-of_z w64 c.args.high c.ranges.high in
    let gap : c.abs_diff.result ≡ unsigned_abs (c.args.high -ℤ c.args.low) = c.abs_diff.ensures ∙ rw (low, high) refl in
    let within : c.in_ok-n.n ≤ unsigned_abs (c.args.high -ℤ c.args.low) = omega (arith, gap) in
    let span = span_is c.args.low c.args.high c.requires.ordered in
    rw c.skip.ensures (whole_sum c.args.low c.args.high c.args.width c.args.c.now c.in_ok-n.n _ c.requires.width (record { enough = c.in_ok-n.ensures.ok.0; reads = c.in_ok-n.ensures.ok.1 }) c.requires.ordered within (omega (arith, ints, within, span)))

pub returns-in_err-n-clause-reads : goal.returns-in_err-n-clause-reads
returns-in_err-n-clause-reads c =
    gives_reads (WholeElements c.args.low c.args.high) (whole_at c.args.low c.args.high) (only_whole c.args.low c.args.high c.requires.ordered) (λ v. v) c.args.c.now c.from_residual.result _ (returns-in_err-n-clause-exact c)

pub returns-then-n-abs_diff-clause-reads : goal.returns-then-n-abs_diff-clause-reads
returns-then-n-abs_diff-clause-reads c =
    gives_reads (WholeElements c.args.low c.args.high) (whole_at c.args.low c.args.high) (only_whole c.args.low c.args.high c.requires.ordered) (λ v. v) c.args.c.now (Err _) _ (returns-then-n-abs_diff-clause-exact c)

pub returns-clause-reads : goal.returns-clause-reads
returns-clause-reads c =
    gives_reads (WholeElements c.args.low c.args.high) (whole_at c.args.low c.args.high) (only_whole c.args.low c.args.high c.requires.ordered) (λ v. v) c.args.c.now (Ok _) _ (returns-clause-exact c)
