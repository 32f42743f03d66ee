use Rattle.std.proofs.Common.{◌++◌}
use Rattle.std.specs.Prelude.{codes}
use Rattle.std.proofs.lemmas.Result.{err_from_is_err_and, on_ok_weaker, on_err_weaker}
use Rattle.msd_values.specs.Additions.{additions_text}
use Rattle.msd_values.specs.Description.{line}
use Rattle.msd_values.specs.inner.Groups.{vehicle_lines, place_lines, remarks_line}
use Rattle.msd_values.proofs.GroupFacts.{description_groups}
use Rattle.msd_values.specs.Texts.{or_none, extra_text}
use Rattle.msd_values.proofs.PassedFacts.{Passed-put, Passed-then, Passed-from, Passed-fails, Passed-whole, Passed-partly, GrewPartly-second, GrewPartly-fourth}
use Rattle.call_io.proofs.BytesLemmas.{GrewPartly-longer}
use Rattle.msd_values.proofs.description.describe.Goals as goal

pub returns-in_err-write_additions-clause-partly : goal.returns-in_err-write_additions-clause-partly
returns-in_err-write_additions-clause-partly g c =
    let p = err_from_is_err_and c.from_residual.result c.from_residual.ensures.1 in
    let m = c.args.msd.now in
    let more = line (codes "fuel_more") (or_none additions_text m.fuel_more) in
    let first = Passed-from c.new-page.ensures (Passed-put (g.O.Sink.held c.args.out.now) c.put_vehicle_lines.ensures.items) in
    rw (p.1, description_groups) (GrewPartly-second (g.O.Sink.held c.args.out.now) (g.O.Sink.held c.write_additions.new.out)
    (vehicle_lines m) more (place_lines m) (line (codes "set_more") (or_none additions_text m.set_more)) (line (codes "extra") (or_none extra_text m.extra))
    (line (codes "message_more") (or_none additions_text m.message_more)) (remarks_line m)
    (Passed-fails more first c.in_err-write_additions.ensures.passes))

pub returns-in_err-write_additions-2-clause-partly : goal.returns-in_err-write_additions-2-clause-partly
returns-in_err-write_additions-2-clause-partly g c =
    let p = err_from_is_err_and c.from_residual-in_err-write_additions-2.result c.from_residual-in_err-write_additions-2.ensures.1 in
    let m = c.args.msd.now in
    let more = line (codes "set_more") (or_none additions_text m.set_more) in
    let first = Passed-from c.new-page.ensures (Passed-put (g.O.Sink.held c.args.out.now) c.put_vehicle_lines.ensures.items) in
    let second = Passed-then first c.in_ok-write_additions.ensures.passes in
    let third = Passed-then second (Passed-put (g.O.Sink.held c.write_additions.new.out) c.put_place_lines.ensures.items) in
    rw (p.1, description_groups) (GrewPartly-fourth (g.O.Sink.held c.args.out.now) (g.O.Sink.held c.write_additions-2.new.out)
    (vehicle_lines m) (line (codes "fuel_more") (or_none additions_text m.fuel_more)) (place_lines m) more (line (codes "extra") (or_none extra_text m.extra))
    (line (codes "message_more") (or_none additions_text m.message_more)) (remarks_line m)
    (Passed-fails more third c.in_err-write_additions-2.ensures.passes))

pub returns-in_err-write_additions-3-clause-partly : goal.returns-in_err-write_additions-3-clause-partly
returns-in_err-write_additions-3-clause-partly g c =
    let p = err_from_is_err_and c.from_residual-in_err-write_additions-3.result c.from_residual-in_err-write_additions-3.ensures.1 in
    let m = c.args.msd.now in
    let more = line (codes "message_more") (or_none additions_text m.message_more) in
    let first = Passed-from c.new-page.ensures (Passed-put (g.O.Sink.held c.args.out.now) c.put_vehicle_lines.ensures.items) in
    let second = Passed-then first c.in_ok-write_additions.ensures.passes in
    let third = Passed-then second (Passed-put (g.O.Sink.held c.write_additions.new.out) c.put_place_lines.ensures.items) in
    let fourth = Passed-then third c.in_ok-write_additions-2.ensures.passes in
    let fifth = Passed-then fourth (Passed-put (g.O.Sink.held c.write_additions-2.new.out) c.put_extra.ensures.items) in
    rw (p.1, description_groups) (GrewPartly-longer (g.O.Sink.held c.args.out.now) (g.O.Sink.held c.write_additions-3.new.out)
    (vehicle_lines m ++ line (codes "fuel_more") (or_none additions_text m.fuel_more) ++ place_lines m ++ line (codes "set_more") (or_none additions_text m.set_more) ++ line (codes "extra") (or_none extra_text m.extra) ++ more)
    (remarks_line m)
    (Passed-fails more fifth c.in_err-write_additions-3.ensures.passes))

pub returns-clause-ok : goal.returns-clause-ok
returns-clause-ok g c =
    let first = Passed-from c.new-page.ensures (Passed-put (g.O.Sink.held c.args.out.now) c.put_vehicle_lines.ensures.items) in
    let second = Passed-then first c.in_ok-write_additions.ensures.passes in
    let third = Passed-then second (Passed-put (g.O.Sink.held c.write_additions.new.out) c.put_place_lines.ensures.items) in
    let fourth = Passed-then third c.in_ok-write_additions-2.ensures.passes in
    let fifth = Passed-then fourth (Passed-put (g.O.Sink.held c.write_additions-2.new.out) c.put_extra.ensures.items) in
    let sixth = Passed-then fifth c.in_ok-write_additions-3.ensures.passes in
    let seventh = Passed-then sixth (Passed-put (g.O.Sink.held c.write_additions-3.new.out) c.put_remarks_line.ensures.items) in
    rw description_groups (on_ok_weaker c.write_all.result (λ grew. Passed-whole seventh grew) (rw c.as_slice.ensures.value at c.write_all.ensures.ok))

pub returns-clause-partly : goal.returns-clause-partly
returns-clause-partly g c =
    let first = Passed-from c.new-page.ensures (Passed-put (g.O.Sink.held c.args.out.now) c.put_vehicle_lines.ensures.items) in
    let second = Passed-then first c.in_ok-write_additions.ensures.passes in
    let third = Passed-then second (Passed-put (g.O.Sink.held c.write_additions.new.out) c.put_place_lines.ensures.items) in
    let fourth = Passed-then third c.in_ok-write_additions-2.ensures.passes in
    let fifth = Passed-then fourth (Passed-put (g.O.Sink.held c.write_additions-2.new.out) c.put_extra.ensures.items) in
    let sixth = Passed-then fifth c.in_ok-write_additions-3.ensures.passes in
    let seventh = Passed-then sixth (Passed-put (g.O.Sink.held c.write_additions-3.new.out) c.put_remarks_line.ensures.items) in
    rw description_groups (on_err_weaker c.write_all.result (λ partly. Passed-partly seventh partly) (rw c.as_slice.ensures.value at c.write_all.ensures.partly))
