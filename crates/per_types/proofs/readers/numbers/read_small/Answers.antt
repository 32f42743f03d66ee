use Rattle.std.proofs.lemmas.Result.{err_from_is_err_and}
use Rattle.per_types.proofs.Elementwise.{small_short, small_large, small_ok}
use Rattle.std.proofs.Common.{Ok, Err}
use Rattle.per_types.proofs.Decided.{gives_reads, only_small}
use Rattle.per_types.specs.Spelling.{SmallElements}
use Rattle.per_types.specs.Reading.{small_at}
use Rattle.per_types.proofs.readers.numbers.read_small.Goals as goal

pub returns-in_err-n-clause-exact : goal.returns-in_err-n-clause-exact
returns-in_err-n-clause-exact c =
    let p = err_from_is_err_and c.from_residual.result c.from_residual.ensures.1 in
    rw (p.1, p.2) (small_short c.args.c.now _ c.in_err-n.ensures.short)

pub returns-then-n-ge64-clause-exact : goal.returns-then-n-ge64-clause-exact
returns-then-n-ge64-clause-exact c =
    rw c.refusal.ensures (small_large c.args.c.now c.in_ok-n.n (record { enough = c.in_ok-n.ensures.ok.0; reads = c.in_ok-n.ensures.ok.1 }) c.if-n-ge64.true)

pub returns-clause-exact : goal.returns-clause-exact
returns-clause-exact c =
    rw c.skip.ensures (small_ok c.args.c.now c.in_ok-n.n (record { enough = c.in_ok-n.ensures.ok.0; reads = c.in_ok-n.ensures.ok.1 }) c.if-n-ge64.false)

pub returns-in_err-n-clause-reads : goal.returns-in_err-n-clause-reads
returns-in_err-n-clause-reads c =
    gives_reads SmallElements small_at only_small (λ v. v) c.args.c.now c.from_residual.result _ (returns-in_err-n-clause-exact c)

pub returns-then-n-ge64-clause-reads : goal.returns-then-n-ge64-clause-reads
returns-then-n-ge64-clause-reads c =
    gives_reads SmallElements small_at only_small (λ v. v) c.args.c.now (Err _) _ (returns-then-n-ge64-clause-exact c)

pub returns-clause-reads : goal.returns-clause-reads
returns-clause-reads c =
    gives_reads SmallElements small_at only_small (λ v. v) c.args.c.now (Ok _) _ (returns-clause-exact c)
