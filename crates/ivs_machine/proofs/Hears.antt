-- An `Ivs` that hears: from what each row does to what it keeps.
use Rattle.std.proofs.Common.{◌≤◌, ℕ, List, IfSome}
use Rattle.link_frames.specs.Does.{Does}
use Rattle.link_frames.specs.declared.note.Note.{Note}
use Rattle.ivs_machine.specs.Vehicle.{Vehicle}
use Rattle.ivs_machine.specs.VehicleRows.{Heard, vehicle_row, units, acts, aged, due_of}
use Rattle.ivs_machine.specs.IvsStands.{IvsIs, IvsStandsFor}
use Rattle.ivs_machine.specs.inner.Passing.{IvsMayPass}
use Rattle.ivs_machine.specs.declared.vehicle.Ivs.{Ivs}
use Rattle.ivs_machine.proofs.VehicleOwed.{row_kept, units_kept}
use Rattle.ivs_machine.proofs.Ticks.{ticks_pass}

pub row_stands : (e : Heard) (old new : Ivs) (items : List Note) → Does IvsStandsFor IvsIs old new items (λ v. vehicle_row v e) → Does IvsStandsFor IvsStandsFor old new items (λ v. vehicle_row v e)
row_stands e old new items d = record { gives = d.gives; stands = λ v h. record { is = d.stands v h; kept = row_kept e v h.kept } }

-- An `Ivs` that lets ticks pass: its sums grow, and then a line may act.
pub pass_stands : (n : ℕ) (old new : Ivs) (items : List Note)
    → 1 ≤ n
    → ((v : Vehicle) → IvsStandsFor old v → IfSome (due_of v) (λ due. n ≤ due))
    → Does (IvsMayPass n) IvsIs old new items (λ v. acts (aged n v))
    → Does IvsStandsFor IvsStandsFor old new items (units n)
pass_stands n old new items least due d =
    let may : (v : Vehicle) → IvsStandsFor old v → IvsMayPass n old v = λ v h. record { is = h.is; kept = h.kept; due = due v h } in
    record {
      gives = λ v h. rw (ticks_pass n v least (due v h)) (d.gives v (may v h));
      stands = λ v h.
          record {
            is = rw (ticks_pass n v least (due v h)) (d.stands v (may v h));
            kept = units_kept n v h.kept;
          };
    }
