use Rattle.std.proofs.lemmas.Result.{err_from_is_err_and}
use Rattle.per_types.proofs.Elementwise.{presence_short, presence_ok}
use Rattle.std.proofs.Common.{Ok}
use Rattle.per_bits.specs.Bits.{digits}
use Rattle.per_types.proofs.Decided.{gives_reads, only_presence}
use Rattle.per_types.specs.Spelling.{PresenceElements}
use Rattle.per_types.specs.Reading.{presence_at}
use Rattle.per_types.proofs.readers.numbers.read_presence.Goals as goal

pub returns-in_err-bits-clause-exact : goal.returns-in_err-bits-clause-exact
returns-in_err-bits-clause-exact c =
    let p = err_from_is_err_and c.from_residual.result c.from_residual.ensures.1 in
    rw (p.1, p.2) (presence_short c.args.n c.args.c.now _ c.in_err-bits.ensures.short)

pub returns-clause-exact : goal.returns-clause-exact
returns-clause-exact c = rw c.skip.ensures (presence_ok c.args.n c.args.c.now c.in_ok-bits.bits (record { enough = c.in_ok-bits.ensures.ok.0; reads = c.in_ok-bits.ensures.ok.1 }))

pub returns-in_err-bits-clause-reads : goal.returns-in_err-bits-clause-reads
returns-in_err-bits-clause-reads c =
    gives_reads (PresenceElements c.args.n) (presence_at c.args.n) (only_presence c.args.n) (digits c.args.n) c.args.c.now c.from_residual.result _ (returns-in_err-bits-clause-exact c)

pub returns-clause-reads : goal.returns-clause-reads
returns-clause-reads c =
    gives_reads (PresenceElements c.args.n) (presence_at c.args.n) (only_presence c.args.n) (digits c.args.n) c.args.c.now (Ok _) _ (returns-clause-exact c)
