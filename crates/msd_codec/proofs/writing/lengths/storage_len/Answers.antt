use Rattle.std.proofs.Common.{arith}
use Rattle.msd_codec.specs.Module.{propulsion_storage, storages}
use Rattle.msd_codec.proofs.Lengths.{counted, marked_length, flag_length, rest_more_length}
use Rattle.msd_codec.proofs.OtherMark.{marks_long, other_length}
use Rattle.msd_codec.proofs.writing.lengths.storage_len.Goals as goal

pub returns-clause-count : goal.returns-clause-count
unfolding propulsion_storage storages
returns-clause-count c =
    counted
    (marked_length
    (flag_length c.flag_len-3.ensures.count
    (flag_length c.flag_len-4.ensures.count
    (flag_length c.flag_len.ensures.count
    (flag_length c.flag_len-2.ensures.count
    (flag_length c.flag_len-5.ensures.count
    (flag_length c.flag_len-6.ensures.count
    (other_length _ c.requires c.flag_len-7.ensures.count (rest_more_length c.more_len.ensures.count)))))))))
    (omega (arith, c.mark_count.ensures.count, marks_long c.args.format c.args.fuel))
