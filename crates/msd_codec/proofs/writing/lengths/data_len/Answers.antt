use Rattle.std.proofs.Common.{arith}
use Rattle.msd_codec.proofs.Lengths.{counted, data_length}
use Rattle.msd_codec.proofs.writing.lengths.data_len.Goals as goal

pub returns-clause-count : goal.returns-clause-count
returns-clause-count c =
    let oid = c.count.ensures in
    let content = c.count-2.ensures in
    counted
    (data_length c.args.extra.now c.octs.result c.count.result c.count-2.result c.octs.ensures.value
    (record { whole = oid.size; few = oid.few; number = oid.value })
    c.octs.ensures.oid
    (record { whole = content.size; few = content.few; number = content.value }))
    (omega arith)
