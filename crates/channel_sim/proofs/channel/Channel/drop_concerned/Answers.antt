use Rattle.std.proofs.Common.{sym, subst}
use Rattle.std.specs.List.{AllByRecursion}
use Rattle.ivs_machine.specs.Vehicle.{vehicle_call}
use Rattle.channel_sim.specs.inner.Acts.{OtherHasLeg}
use Rattle.channel_sim.specs.Lag.{CallsLag}
use Rattle.channel_sim.proofs.CallsLemmas.{none_of}
use Rattle.channel_sim.proofs.TidyLemmas.{none_concerned}
use Rattle.channel_sim.proofs.channel.Channel.drop_concerned.Goals as goal

pub returns-in-Some-clause-calls : goal.returns-in-Some-clause-calls
returns-in-Some-clause-calls c =
    λ n floor clock v ks lags h above others.
    c.drop_call.ensures.calls n floor clock v ks lags h above (subst (λ o. AllByRecursion (OtherHasLeg (vehicle_call v) o) ks) c.in-Some.is others)

pub returns-in_default-clause-calls : goal.returns-in_default-clause-calls
returns-in_default-clause-calls c =
    λ n floor clock v ks lags h above others.
    let none = none_of c.args.call c.in_default.not-Some in
    subst (λ z. CallsLag floor clock c.args.self.now.calls z)
    (sym (none_concerned (vehicle_call v) ks (subst (λ o. AllByRecursion (OtherHasLeg (vehicle_call v) o) ks) none others))) h
