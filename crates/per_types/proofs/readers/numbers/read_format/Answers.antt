use Rattle.std.proofs.lemmas.Result.{err_from_is_err_and}
use Rattle.std.proofs.Common.{sym, ◌∙◌}
use Rattle.per_types.proofs.Elementwise.{format_short, format_unknown, format_ok}
use Rattle.std.proofs.Common.{Ok, Err, get_or, arith}
use Rattle.std.proofs.lemmas.List.{get_or_default}
use Rattle.per_types.proofs.Decided.{gives_reads, only_format}
use Rattle.per_types.specs.Spelling.{FormatElements}
use Rattle.per_types.specs.Reading.{format_at}
use Rattle.per_types.proofs.readers.numbers.read_format.Goals as goal

pub returns-in_err-n-clause-exact : goal.returns-in_err-n-clause-exact
returns-in_err-n-clause-exact c =
    let p = err_from_is_err_and c.from_residual.result c.from_residual.ensures.1 in
    rw (p.1, p.2) (format_short c.args.known.now c.args.c.now _ c.in_err-n.ensures.short)

pub returns-then-not-contains-clause-exact : goal.returns-then-not-contains-clause-exact
returns-then-not-contains-clause-exact c =
    rw c.refusal.ensures (format_unknown c.args.known.now c.args.c.now c.in_ok-n.n (record { enough = c.in_ok-n.ensures.ok.0; reads = c.in_ok-n.ensures.ok.1 }) (sym c.contains.ensures.value ∙ c.if-not-contains.true))

pub returns-clause-exact : goal.returns-clause-exact
returns-clause-exact c =
    rw c.skip.ensures (format_ok c.args.known.now c.args.c.now c.in_ok-n.n (record { enough = c.in_ok-n.ensures.ok.0; reads = c.in_ok-n.ensures.ok.1 }) (sym c.contains.ensures.value ∙ c.if-not-contains.false))

pub returns-in_err-n-clause-reads : goal.returns-in_err-n-clause-reads
returns-in_err-n-clause-reads c =
    gives_reads (FormatElements c.args.known.now) (format_at c.args.known.now) (only_format c.args.known.now (get_or c.args.known.now 0 0) (omega (arith, c.type_inv.known 0)) (0, c.requires, get_or_default c.args.known.now 0 (get_or c.args.known.now 0 0) 0 c.requires)) (λ v. v) c.args.c.now c.from_residual.result _ (returns-in_err-n-clause-exact c)

pub returns-then-not-contains-clause-reads : goal.returns-then-not-contains-clause-reads
returns-then-not-contains-clause-reads c =
    gives_reads (FormatElements c.args.known.now) (format_at c.args.known.now) (only_format c.args.known.now (get_or c.args.known.now 0 0) (omega (arith, c.type_inv.known 0)) (0, c.requires, get_or_default c.args.known.now 0 (get_or c.args.known.now 0 0) 0 c.requires)) (λ v. v) c.args.c.now (Err _) _ (returns-then-not-contains-clause-exact c)

pub returns-clause-reads : goal.returns-clause-reads
returns-clause-reads c =
    gives_reads (FormatElements c.args.known.now) (format_at c.args.known.now) (only_format c.args.known.now (get_or c.args.known.now 0 0) (omega (arith, c.type_inv.known 0)) (0, c.requires, get_or_default c.args.known.now 0 (get_or c.args.known.now 0 0) 0 c.requires)) (λ v. v) c.args.c.now (Ok _) _ (returns-clause-exact c)
