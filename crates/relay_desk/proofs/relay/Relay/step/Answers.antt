use Rattle.std.proofs.Common.{Global, sym}
use Rattle.std.specs.Prelude.{Result, Ok, Err, IfOk, List, ◌++◌}
use Rattle.std.specs.declared.vec.Vec.{Vec}
use Rattle.std.proofs.Common.{subst}
use Rattle.relay_desk.specs.declared.event.RelayEvent.{RelayEvent}
use Rattle.relay_desk.specs.declared.event.RelayNote.{RelayNote}
use Rattle.relay_desk.specs.declared.relay.Relay.{Relay}
use Rattle.relay_desk.specs.Carried.{Fits, Sight, sights_of}
use Rattle.relay_desk.specs.Desk.{Desk, happens}
use Rattle.relay_desk.specs.RelayStands.{Gives, desk_of}
use Rattle.relay_desk.proofs.CarriedLemmas.{event_fits}
use Rattle.relay_desk.proofs.relay.Relay.step.Goals as goal

-- what gives the row of an event fits what is seen with it
fits_with :
    {Fault : Type 0} (r : Result (Vec RelayNote Global) Fault) (new : Relay) (d : Desk) (e : RelayEvent) (seen : List Sight)
    → IfOk r (λ notes. Gives notes.items new (happens d e)) → Fits d seen
    → IfOk r (λ notes. Fits (desk_of new) (seen ++ sights_of e notes.items))
fits_with (Ok notes) new d e seen gives fits =
    let P : List RelayNote → Type 0 = λ items. Fits (desk_of new) (seen ++ sights_of e items) in
    let Q : Desk → Type 0 = λ f. Fits f (seen ++ sights_of e (happens d e).items) in
    subst P (sym gives.0) (subst Q (sym gives.1) (event_fits e d seen fits))
fits_with (Err fault) new d e seen gives fits = gives

pub returns-clause-fits : goal.returns-clause-fits
returns-clause-fits c =
    λ seen fits. fits_with c.happen.result c.happen.new.self (desk_of c.args.self.now) c.args.event.now seen c.happen.ensures.ok fits
