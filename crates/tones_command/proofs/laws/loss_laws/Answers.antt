use Rattle.tones_command.proofs.LostFrames.{heard_itself, lost_refused}
use Rattle.tones_command.proofs.laws.loss_laws.Goals as goal

pub returns-clause-refused : goal.returns-clause-refused
returns-clause-refused c = lost_refused

pub returns-clause-heard : goal.returns-clause-heard
returns-clause-heard c = heard_itself
