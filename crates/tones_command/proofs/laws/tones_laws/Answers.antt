use Rattle.script_stage.proofs.SafeTraces.{script_finished, script_safe}
use Rattle.tones_command.specs.Tones.{toned_script}
use Rattle.tones_command.proofs.FaintScripts.{faint_reply, faint_script}
use Rattle.tones_command.proofs.laws.tones_laws.Goals as goal

pub returns-clause-safe : goal.returns-clause-safe
returns-clause-safe c noise input = script_safe (toned_script noise input)

pub returns-clause-finished : goal.returns-clause-finished
returns-clause-finished c noise input = script_finished (toned_script noise input)

pub returns-clause-whole : goal.returns-clause-whole
returns-clause-whole c = faint_script

pub returns-clause-as_run : goal.returns-clause-as_run
returns-clause-as_run c = faint_reply
