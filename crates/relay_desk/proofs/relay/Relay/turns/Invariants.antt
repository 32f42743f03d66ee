use Rattle.std.proofs.Common.{◌≡◌, ◌++◌, drop}
use Rattle.relay_desk.specs.inner.Sets.{turn_items, turn_places}
use Rattle.relay_desk.proofs.relay.Relay.turns.Given as goal

abbrev pub invariant-loop-place : goal.invariant-loop-place
invariant-loop-place l =
    (l.turns.notes.items ++ turn_items l.n l.place (drop l.place l.self.sets.items) (drop l.place l.self.pending)
    ≡ turn_items l.n 0 l.self.sets.items l.self.pending)
    × (l.turns.again.items ++ turn_places l.n l.place (drop l.place l.self.sets.items) (drop l.place l.self.pending)
    ≡ turn_places l.n 0 l.self.sets.items l.self.pending)
