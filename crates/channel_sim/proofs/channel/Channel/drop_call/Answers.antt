use Rattle.std.proofs.Common.{ap, sym, ◌∙◌, subst}
use Rattle.ivs_machine.specs.Vehicle.{vehicle_call}
use Rattle.trace_fit.specs.Seats.{is_number}
use Rattle.channel_sim.specs.Lag.{CallsLag}
use Rattle.channel_sim.proofs.TidyLemmas.{concerned_has}
use Rattle.channel_sim.proofs.VehicleLemmas.{lagging_call, same_number, not_is_true, not_is_false}
use Rattle.channel_sim.proofs.channel.Channel.drop_call.Goals as goal

pub returns-then-ne-clause-calls : goal.returns-then-ne-clause-calls
returns-then-ne-clause-calls c =
    λ n floor clock v ks lags h above others.
    let call = lagging_call n c.args.self.now.vehicle v c.call.result c.call.ensures lags in
    c.drop_without_session.ensures floor clock (vehicle_call v) ks h above others
    (ap (is_number c.args.number) (sym call) ∙ sym (same_number c.call.result c.args.number) ∙ not_is_true _ (sym c.if-ne.ensures))

pub returns-else-ne-clause-calls : goal.returns-else-ne-clause-calls
returns-else-ne-clause-calls c =
    λ n floor clock v ks lags h above others.
    let call = lagging_call n c.args.self.now.vehicle v c.call.result c.call.ensures lags in
    subst (λ z. CallsLag floor clock c.args.self.now.calls z)
    (sym (concerned_has (vehicle_call v) c.args.number ks others (ap (is_number c.args.number) (sym call) ∙ sym (same_number c.call.result c.args.number) ∙ not_is_false _ (sym c.if-ne.ensures)))) h
