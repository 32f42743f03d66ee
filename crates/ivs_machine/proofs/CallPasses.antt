-- Ticks of a call: its sums grow, and then a line may act.
use Rattle.std.proofs.Common.{rules, ◌≡◌, ℕ, List}
use Rattle.link_frames.specs.Does.{Does}
use Rattle.link_frames.specs.declared.note.Note.{Note}
use Rattle.ivs_machine.specs.declared.vehicle.Ivs.{Ivs}
use Rattle.ivs_machine.specs.declared.vehicle.Phase.TheVariants as kept_phase
use Rattle.ivs_machine.specs.declared.vehicle.CallStage.{CallStage}
use Rattle.ivs_machine.specs.IvsStands.{IvsIs}
use Rattle.ivs_machine.specs.Vehicle.{Vehicle}
use Rattle.ivs_machine.specs.VehicleRows.{acts, aged}
use Rattle.ivs_machine.specs.inner.Passing.{IvsMayPass, IvsIsDue, call_aged}

is_due : (n : ℕ) (ivs : Ivs) (v : Vehicle) (stage : CallStage) → ivs.phase ≡ kept_phase.InCall stage → IvsMayPass n ivs v → IvsIsDue (call_aged n ivs) (aged n v)
is_due n ivs v stage e h = search rules

pub call_stands : (n : ℕ) (old new : Ivs) (items : List Note) (stage : CallStage)
    → old.phase ≡ kept_phase.InCall stage
    → Does IvsIsDue IvsIs (call_aged n old) new items acts
    → Does (IvsMayPass n) IvsIs old new items (λ v. acts (aged n v))
call_stands n old new items stage e d =
    record {
      gives = λ v h. d.gives (aged n v) (is_due n old v stage e h);
      stands = λ v h. d.stands (aged n v) (is_due n old v stage e h);
    }
