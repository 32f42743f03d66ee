use Rattle.std.proofs.lemmas.Result.{err_from_is_err_and}
use Rattle.per_types.proofs.Elementwise.{truth_short, truth_ok}
use Rattle.std.proofs.Common.{Ok}
use Rattle.per_types.proofs.Decided.{gives_reads, only_truth}
use Rattle.per_types.specs.Spelling.{TruthElements}
use Rattle.per_types.specs.Reading.{truth_at}
use Rattle.per_types.proofs.readers.numbers.read_bool.Goals as goal

pub returns-in_err-n-clause-exact : goal.returns-in_err-n-clause-exact
returns-in_err-n-clause-exact c =
    let p = err_from_is_err_and c.from_residual.result c.from_residual.ensures.1 in
    rw (p.1, p.2) (truth_short c.args.c.now _ c.in_err-n.ensures.short)

pub returns-clause-exact : goal.returns-clause-exact
returns-clause-exact c = rw c.skip.ensures (truth_ok c.args.c.now c.in_ok-n.n (record { enough = c.in_ok-n.ensures.ok.0; reads = c.in_ok-n.ensures.ok.1 }))

pub returns-in_err-n-clause-reads : goal.returns-in_err-n-clause-reads
returns-in_err-n-clause-reads c =
    gives_reads TruthElements truth_at only_truth (λ v. v) c.args.c.now c.from_residual.result _ (returns-in_err-n-clause-exact c)

pub returns-clause-reads : goal.returns-clause-reads
returns-clause-reads c =
    gives_reads TruthElements truth_at only_truth (λ v. v) c.args.c.now (Ok _) _ (returns-clause-exact c)
