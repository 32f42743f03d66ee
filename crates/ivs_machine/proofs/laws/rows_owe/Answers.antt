use Rattle.ivs_machine.proofs.VehicleOwed.{owes_event, owes_unit}
use Rattle.ivs_machine.proofs.laws.rows_owe.Goals as goal

pub returns : goal.returns
returns c = record { events = owes_event; unit_tick = owes_unit }
