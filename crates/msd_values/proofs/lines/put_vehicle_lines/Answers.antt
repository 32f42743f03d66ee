use Rattle.msd_values.specs.inner.Groups.{vehicle_lines}
use Rattle.msd_values.proofs.Chains.{joined}
use Rattle.msd_values.proofs.lines.put_vehicle_lines.Goals as goal

pub returns-clause-items : goal.returns-clause-items
unfolding vehicle_lines
returns-clause-items c =
    joined
    (joined
    (joined
    (joined
    (joined
    (joined
    (joined c.put_format.ensures.items c.put_number.ensures.items)
    c.put_truth.ensures.items)
    c.put_truth-2.ensures.items)
    c.put_truth-3.ensures.items)
    c.put_kind.ensures.items)
    c.put_vin.ensures.items)
    c.put_marks.ensures.items
