use Rattle.msd_values.specs.inner.Groups.{place_lines}
use Rattle.std.proofs.Common.{rules, FitsSigned, w32}
use Rattle.std.proofs.lemmas.Int.{to_z-of_z}
use Rattle.msd_values.proofs.Chains.{joined}
use Rattle.msd_values.proofs.lines.put_place_lines.Goals as goal

pub returns-clause-items : goal.returns-clause-items
unfolding place_lines
returns-clause-items c =
    let north : FitsSigned w32 c.args.msd.now.latitude = search rules in
    let east : FitsSigned w32 c.args.msd.now.longitude = search rules in
    joined
    (joined
    (joined
    (joined
    (joined
    (joined c.put_time.ensures.items (simp to_z-of_z at c.put_angle.ensures.items))
    (simp to_z-of_z at c.put_angle-2.ensures.items))
    c.put_heading.ensures.items)
    c.put_before.ensures.items)
    c.put_before-2.ensures.items)
    c.put_passengers.ensures.items
