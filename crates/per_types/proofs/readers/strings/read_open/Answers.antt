use Rattle.std.proofs.lemmas.Result.{err_from_is_err_and}
use Rattle.per_types.proofs.Stringwise.{open_refused, open_gives}
use Rattle.per_bits.specs.Bits.{Part, octets_of}
use Rattle.per_types.proofs.Decided.{part_reads, only_open}
use Rattle.per_types.specs.Spelling.{OpenElements}
use Rattle.per_types.specs.Reading.{open_at, content_at}
use Rattle.per_types.proofs.PartLaws.{content_is, open_part}
use Rattle.per_types.proofs.readers.strings.read_open.Goals as goal

pub returns-in_err-count-clause-exact : goal.returns-in_err-count-clause-exact
returns-in_err-count-clause-exact c =
    let p = err_from_is_err_and c.from_residual.result c.from_residual.ensures.1 in
    rw (p.1, p.2) (open_refused c.args.c.now _ _ c.in_err-count.ensures.exact)

pub returns-clause-exact : goal.returns-clause-exact
returns-clause-exact c =
    open_gives c.args.c.now c.open_length.new.c c.in_ok-count.count c.octets.result c.octets.new.c c.in_ok-count.ensures.exact (record { ok = c.octets.ensures.ok; short = c.octets.ensures.short })

pub returns-in_err-count-clause-reads : goal.returns-in_err-count-clause-reads
returns-in_err-count-clause-reads c =
    part_reads OpenElements open_at (λ (p : Part). octets_of p.bits) content_at only_open content_is (λ o. o) c.args.c.now c.from_residual.result _ (returns-in_err-count-clause-exact c)

pub returns-in_err-count-clause-part : goal.returns-in_err-count-clause-part
returns-in_err-count-clause-part c = open_part c.args.c.now c.from_residual.result _ (returns-in_err-count-clause-exact c)

pub returns-clause-reads : goal.returns-clause-reads
returns-clause-reads c =
    part_reads OpenElements open_at (λ (p : Part). octets_of p.bits) content_at only_open content_is (λ o. o) c.args.c.now c.octets.result _ (returns-clause-exact c)

pub returns-clause-part : goal.returns-clause-part
returns-clause-part c = open_part c.args.c.now c.octets.result _ (returns-clause-exact c)
