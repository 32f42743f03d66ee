use Rattle.std.proofs.Common.{arith}
use Rattle.std.proofs.lemmas.Result.{err_from_is_err_and}
use Rattle.per_types.proofs.Stringwise.{oid_refused, oid_unfinished, oid_breaks, oid_is, oid_taken}
use Rattle.std.proofs.Common.{Ok, Err}
use Rattle.per_bits.specs.Bits.{Part, octets_of}
use Rattle.per_types.proofs.Decided.{part_reads, only_object}
use Rattle.per_types.specs.Spelling.{OidElements}
use Rattle.per_types.specs.Reading.{oid_at, object_at}
use Rattle.per_types.proofs.PartLaws.{object_is, object_part}
use Rattle.per_types.proofs.readers.strings.read_oid.Goals as goal

pub returns-in_err-count-clause-exact : goal.returns-in_err-count-clause-exact
returns-in_err-count-clause-exact c =
    let p = err_from_is_err_and c.from_residual.result c.from_residual.ensures.1 in
    rw (p.1, p.2) (oid_refused c.args.c.now _ _ c.in_err-count.ensures.exact)

pub returns-in_err-octs-clause-exact : goal.returns-in_err-octs-clause-exact
returns-in_err-octs-clause-exact c =
    let p = err_from_is_err_and c.from_residual-in_err-octs.result c.from_residual-in_err-octs.ensures.1 in
    rw (p.1, p.2)
    (oid_unfinished c.args.c.now c.oid_length.new.c c.fork-ahead.result c.in_ok-count.count _ c.in_ok-count.ensures.exact c.fork-ahead.ensures.value c.in_err-octs.ensures.short.0)

pub overflow_mul-result : goal.overflow_mul-result
overflow_mul-result c = omega (arith, c.in-Some.ensures.within)

pub overflow_add-result : goal.overflow_add-result
overflow_add-result c =
    let place = c.place.ensures.in_place in
    omega (arith, c.in-Some.ensures.within, place.within, place.few, c.place.ensures.value)

pub returns-in-Some-clause-exact : goal.returns-in-Some-clause-exact
returns-in-Some-clause-exact c =
    oid_breaks c.args.c.now c.oid_length.new.c c.fork-ahead.result c.in_ok-octs.octs c.in_ok-count.count c.in_ok-count.ensures.exact
    (record { same = c.fork-ahead.ensures.value; enough = c.in_ok-octs.ensures.ok.0; octets = c.in_ok-octs.ensures.ok.1 })
    c.place.result c.in-Some.i c.in-Some.octet c.from.result c.place.ensures.value c.from.ensures c.in-Some.ensures.fault

pub known-requires : goal.known-requires
known-requires c =
    (oid_is c.args.c.now c.oid_length.new.c c.fork-ahead.result c.in_ok-octs.octs c.in_ok-count.count c.in_ok-count.ensures.exact
    (record { same = c.fork-ahead.ensures.value; enough = c.in_ok-octs.ensures.ok.0; octets = c.in_ok-octs.ensures.ok.1 })
    c.in_ok-count.ensures.some.0 c.in_default.ensures.fault)

pub returns-clause-exact : goal.returns-clause-exact
returns-clause-exact c =
    let behind_it = rw c.from-2.ensures at c.skip.ensures in
    oid_taken c.args.c.now c.oid_length.new.c c.fork-ahead.result c.in_ok-octs.octs c.in_ok-count.count c.in_ok-count.ensures.exact
    (record { same = c.fork-ahead.ensures.value; enough = c.in_ok-octs.ensures.ok.0; octets = c.in_ok-octs.ensures.ok.1 })
    c.known.result c.skip.new.c c.known.ensures behind_it c.in_default.ensures.fault

pub returns-in_err-count-clause-reads : goal.returns-in_err-count-clause-reads
returns-in_err-count-clause-reads c =
    part_reads OidElements oid_at (λ (p : Part). octets_of p.bits) object_at only_object object_is (λ o. o) c.args.c.now c.from_residual.result _ (returns-in_err-count-clause-exact c)

pub returns-in_err-count-clause-part : goal.returns-in_err-count-clause-part
returns-in_err-count-clause-part c = object_part c.args.c.now c.from_residual.result _ (returns-in_err-count-clause-exact c)

pub returns-in_err-octs-clause-reads : goal.returns-in_err-octs-clause-reads
returns-in_err-octs-clause-reads c =
    part_reads OidElements oid_at (λ (p : Part). octets_of p.bits) object_at only_object object_is (λ o. o) c.args.c.now c.from_residual-in_err-octs.result _ (returns-in_err-octs-clause-exact c)

pub returns-in_err-octs-clause-part : goal.returns-in_err-octs-clause-part
returns-in_err-octs-clause-part c = object_part c.args.c.now c.from_residual-in_err-octs.result _ (returns-in_err-octs-clause-exact c)

pub returns-in-Some-clause-reads : goal.returns-in-Some-clause-reads
returns-in-Some-clause-reads c =
    part_reads OidElements oid_at (λ (p : Part). octets_of p.bits) object_at only_object object_is (λ o. o) c.args.c.now (Err _) _ (returns-in-Some-clause-exact c)

pub returns-in-Some-clause-part : goal.returns-in-Some-clause-part
returns-in-Some-clause-part c = object_part c.args.c.now (Err _) _ (returns-in-Some-clause-exact c)

pub returns-clause-reads : goal.returns-clause-reads
returns-clause-reads c =
    part_reads OidElements oid_at (λ (p : Part). octets_of p.bits) object_at only_object object_is (λ o. o) c.args.c.now (Ok _) _ (returns-clause-exact c)

pub returns-clause-part : goal.returns-clause-part
returns-clause-part c = object_part c.args.c.now (Ok _) _ (returns-clause-exact c)
