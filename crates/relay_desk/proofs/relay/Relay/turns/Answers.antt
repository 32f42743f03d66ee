use Rattle.relay_desk.proofs.RequestLemmas.{first_items, first_places}
use Rattle.relay_desk.proofs.relay.Relay.turns.Goals as goal

pub loop-place-init : goal.loop-place-init
loop-place-init c =
    let self = c.args.self.now in
    let first = c.first-place.result in (
      rw c.in_ok-turns.ensures.notes (first_items c.args.n first self.sets.items self.pending c.first-place.ensures.front),
      rw c.in_ok-turns.ensures.again (first_places c.args.n first self.sets.items self.pending c.first-place.ensures.front),
    )
