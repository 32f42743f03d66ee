use Rattle.std.proofs.Common.{ap, ◌∙◌, Bool}
use Rattle.std.proofs.lemmas.Result.{err_from_is_err_and}
use Rattle.per_types.proofs.Plans.{value}
use Rattle.per_types.proofs.Stringwise.{enum_refused, enum_unadded, enum_added, enum_root}
use Rattle.std.proofs.Common.{Ok}
use Rattle.per_types.proofs.Decided.{gives_reads, only_enum}
use Rattle.per_types.specs.Writing.{EnumElements}
use Rattle.per_types.specs.Reading.{enum_at}
use Rattle.per_types.proofs.readers.enums.read_enum.Goals as goal

pub returns-in_err-read_bool-clause-exact : goal.returns-in_err-read_bool-clause-exact
returns-in_err-read_bool-clause-exact c =
    let p = err_from_is_err_and c.from_residual.result c.from_residual.ensures.1 in
    rw (p.1, p.2) (enum_refused c.args.roots c.args.c.now _ _ c.in_err-read_bool.ensures.exact)

pub returns-in_err-i-clause-exact : goal.returns-in_err-i-clause-exact
returns-in_err-i-clause-exact c =
    let p = err_from_is_err_and c.from_residual-in_err-i.result c.from_residual-in_err-i.ensures.1 in
    rw (p.1, p.2)
    (enum_unadded c.args.roots c.args.c.now c.read_bool.new.c _ _
    (c.in_ok-read_bool.ensures.exact ∙ ap (λ (b : Bool). value b c.read_bool.new.c) c.if-branch.true) c.in_err-i.ensures.exact)

pub returns-in_ok-i-clause-exact : goal.returns-in_ok-i-clause-exact
returns-in_ok-i-clause-exact c =
    enum_added c.args.roots c.args.c.now c.read_bool.new.c c.read_small.new.c c.in_ok-i.i
    (c.in_ok-read_bool.ensures.exact ∙ ap (λ (b : Bool). value b c.read_bool.new.c) c.if-branch.true) c.in_ok-i.ensures.exact

pub returns-else-branch-clause-exact : goal.returns-else-branch-clause-exact
returns-else-branch-clause-exact c =
    enum_root c.args.roots c.args.c.now c.read_bool.new.c c.root.result c.root.new.c
    (c.in_ok-read_bool.ensures.exact ∙ ap (λ (b : Bool). value b c.read_bool.new.c) c.if-branch.false) c.root.ensures

pub returns-in_err-read_bool-clause-reads : goal.returns-in_err-read_bool-clause-reads
returns-in_err-read_bool-clause-reads c =
    gives_reads (EnumElements c.args.roots) (enum_at c.args.roots) (only_enum c.args.roots c.requires.some) (λ i. i) c.args.c.now c.from_residual.result _ (returns-in_err-read_bool-clause-exact c)

pub returns-in_err-i-clause-reads : goal.returns-in_err-i-clause-reads
returns-in_err-i-clause-reads c =
    gives_reads (EnumElements c.args.roots) (enum_at c.args.roots) (only_enum c.args.roots c.requires.some) (λ i. i) c.args.c.now c.from_residual-in_err-i.result _ (returns-in_err-i-clause-exact c)

pub returns-in_ok-i-clause-reads : goal.returns-in_ok-i-clause-reads
returns-in_ok-i-clause-reads c =
    gives_reads (EnumElements c.args.roots) (enum_at c.args.roots) (only_enum c.args.roots c.requires.some) (λ i. i) c.args.c.now (Ok _) _ (returns-in_ok-i-clause-exact c)

pub returns-else-branch-clause-reads : goal.returns-else-branch-clause-reads
returns-else-branch-clause-reads c =
    gives_reads (EnumElements c.args.roots) (enum_at c.args.roots) (only_enum c.args.roots c.requires.some) (λ i. i) c.args.c.now c.root.result _ (returns-else-branch-clause-exact c)
