-- Which desk a `Relay` stands for: it keeps each set once, and messages and desk requests by its place. This project's
-- profile. Cited by the contracts of `Relay`.
use Rattle.std.specs.Prelude.{◌≡◌, ◌+◌, List, length, map, nat_eq}
use Rattle.std.specs.HashMap as last
use Rattle.std.specs.HashSet as second
use Rattle.relay_desk.specs.declared.event.RelayNote.{RelayNote}
use Rattle.relay_desk.specs.declared.relay.Relay.{Relay}
use Rattle.relay_desk.specs.Desk.{Desk, Row}
use Rattle.relay_desk.specs.Requests.{message_at, pending_from}

abbrev pub desk_of : Relay → Desk
desk_of relay =
    record {
      last = λ c. last.get nat_eq relay.last c;
      requests = length relay.sets.items;
      forth = map (message_at relay.sets.items) relay.forth.items;
      back = map (λ place. place + 1) relay.back.items;
      pending = pending_from 0 relay.sets.items relay.pending;
      second = λ q. second.contains nat_eq relay.second q;
    }

-- these are the items of a row, and the relay stands for the desk behind it
abbrev pub Gives : List RelayNote → Relay → Row → Type 0
Gives items relay row = (items ≡ row.items) × (desk_of relay ≡ row.desk)
