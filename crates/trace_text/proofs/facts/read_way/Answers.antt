use Rattle.std.proofs.Common.{◌≡◌, ◌∙◌, refl, arith}
use Rattle.std.proofs.lemmas.Int.{ints}
use mir.Val.{of_z, to_z}
use mir.Syntax.{w16, w32}
use Rattle.msd_values.specs.Position.{IsDelta}
use Rattle.trace_text.proofs.FactLemmas.{is_given}
use Rattle.trace_text.proofs.facts.read_way.Goals as goal

pub returns : goal.returns
returns c =
    let north : IsDelta c.in_ok-latitude.latitude = (c.in_ok-latitude.ensures.low, omega (arith, ints, c.in_ok-latitude.ensures.high)) in
    let east : IsDelta c.in_ok-longitude.longitude = (c.in_ok-longitude.ensures.low, omega (arith, ints, c.in_ok-longitude.ensures.high)) in
    let narrow_north : to_z w16 (of_z w16 (to_z w32 (of_z w32 c.in_ok-latitude.latitude))) ≡ c.in_ok-latitude.latitude = omega (arith, ints, north.0, north.1) in
    let narrow_east : to_z w16 (of_z w16 (to_z w32 (of_z w32 c.in_ok-longitude.longitude))) ≡ c.in_ok-longitude.longitude = omega (arith, ints, east.0, east.1) in
    let some = rw (narrow_north, narrow_east) at c.new.ensures.some in
    let value = rw (narrow_north, narrow_east) at c.new.ensures.value in
    is_given c.new.result (record { latitude = c.in_ok-latitude.latitude; longitude = c.in_ok-longitude.longitude }) (some.1 (north, east)) value
    ∙ rw (← c.in_ok-latitude.ensures.value, ← c.in_ok-longitude.ensures.value) refl
