use Rattle.std.proofs.Common.{subst, sym}
use Rattle.script_stage.proofs.SafeTraces.{script_safe}
use Rattle.trace_model.specs.Safety.{Safe}
use Rattle.script_stage.specs.ScriptTrace.{script_tick}
use Rattle.relay_command.specs.OfRun.{script_without_orders}
use Rattle.relay_command.proofs.AsRun.{relay_accepted, relay_as_run}
use Rattle.relay_command.proofs.CarriedTraces.{relay_carried}
use Rattle.relay_command.proofs.laws.relay_laws.Goals as goal

pub returns-clause-as_run : goal.returns-clause-as_run
returns-clause-as_run c = relay_as_run

pub returns-clause-accepted : goal.returns-clause-accepted
returns-clause-accepted c = relay_accepted

pub returns-clause-safe : goal.returns-clause-safe
returns-clause-safe c input =
    subst (λ es. Safe es (script_tick (script_without_orders input))) (sym (relay_as_run input))
    (script_safe (script_without_orders input))

pub returns-clause-carried : goal.returns-clause-carried
returns-clause-carried c = relay_carried
