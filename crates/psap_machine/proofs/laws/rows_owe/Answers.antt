use Rattle.psap_machine.proofs.PointOwed.{owes_event, owes_unit, owes_arriving, owes_called}
use Rattle.psap_machine.proofs.laws.rows_owe.Goals as goal

pub returns : goal.returns
returns c = record { events = owes_event; unit_tick = owes_unit; arriving = owes_arriving; called = owes_called }
