use Rattle.std.proofs.lemmas.Result.{err_from_is_err_and}
use Rattle.std.proofs.Common.{◌-◌, arith}
use Rattle.per_types.proofs.Widths.{width_most}
use Rattle.per_types.proofs.Stringwise.{root_short, root_above, root_ok}
use Rattle.per_types.proofs.readers.enums.root.Goals as goal

pub look-requires : goal.look-requires
look-requires c = rw c.requires (width_most (c.args.roots - 1) (omega arith))

pub returns-in_err-n : goal.returns-in_err-n
returns-in_err-n c =
    let p = err_from_is_err_and c.from_residual.result c.from_residual.ensures.1 in
    rw (p.1, p.2) (root_short c.args.roots c.args.width c.requires c.args.c.now _ c.in_err-n.ensures.short)

pub returns-then-n-from : goal.returns-then-n-from
returns-then-n-from c = rw c.refusal.ensures (root_above c.args.roots c.args.width c.requires c.args.c.now c.in_ok-n.n (record { enough = c.in_ok-n.ensures.ok.0; reads = c.in_ok-n.ensures.ok.1 }) (omega arith))

pub returns : goal.returns
returns c = rw c.skip.ensures (root_ok c.args.roots c.args.width c.requires c.args.c.now c.in_ok-n.n (record { enough = c.in_ok-n.ensures.ok.0; reads = c.in_ok-n.ensures.ok.1 }) (omega arith))
