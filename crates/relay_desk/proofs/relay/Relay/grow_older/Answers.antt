use Rattle.std.proofs.Common.{refl, ◌∙◌, ap, sym}
use Rattle.relay_desk.specs.Desk.{Row}
use Rattle.relay_desk.specs.Requests.{pending_from}
use Rattle.relay_desk.specs.RelayStands.{desk_of}
use Rattle.relay_desk.proofs.RequestLemmas.{pending_aged, same_desk}
use Rattle.relay_desk.proofs.UnitLemmas.{room_pending, units_idle}
use Rattle.relay_desk.proofs.relay.Relay.grow_older.Goals as goal

pub returns-clause-items : goal.returns-clause-items
returns-clause-items c =
    let self = c.args.self.now in
    ap (λ (r : Row). r.items)
    (units_idle c.args.n (desk_of self) (room_pending _ 0 self.sets.items self.pending c.requires.room))

pub returns-clause-desk : goal.returns-clause-desk
returns-clause-desk c =
    let self = c.args.self.now in
    same_desk _ _ refl refl refl refl
    (ap (pending_from 0 self.sets.items) c.idle.ensures ∙ pending_aged c.args.n 0 self.sets.items self.pending) refl
    ∙ sym (ap (λ (r : Row). r.desk)
    (units_idle c.args.n (desk_of self) (room_pending _ 0 self.sets.items self.pending c.requires.room)))
