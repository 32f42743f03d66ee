use Rattle.std.specs.Prelude.{List}
use Rattle.floor_text.specs.VehicleFacts.{DraftsStandFor, VehicleFacts}
use Rattle.floor_command.specs.inner.FloorStage.{AreDistinct}
use Rattle.floor_command.proofs.BuiltFloor.{BuiltSoFar}
use Rattle.floor_command.proofs.stage.build.Given as goal

-- the vehicles so far joined the floor
abbrev pub invariant-loop-place : goal.invariant-loop-place
invariant-loop-place l =
    (known : List VehicleFacts) → DraftsStandFor l.drafts known → AreDistinct known → BuiltSoFar known l.place l.floor
