use Rattle.call_floor.proofs.Places.{place_number}
use Rattle.call_floor.proofs.laws.numbers_are_names.Goals as goal

pub returns : goal.returns
returns c = record { back = place_number }
