-- Desk requests by the places of their sets, which are kept once: the message of a set, and the requests that are
-- pending. This project's profile. Cited by what a `Relay` stands for.
use Rattle.std.specs.Prelude.{◌+◌, ℕ, List, [], ◌∷◌, Option, Some, None, slice_index_or}
use Rattle.relay_desk.specs.declared.sets.DeskSet.{DeskSet}
use Rattle.relay_desk.specs.Desk.{Message, PendingRequest}

-- the message with the set at this place; desk requests are numbered from 1
abbrev pub message_of : ℕ → DeskSet → Message
message_of place s = record { desk = place + 1; call = s.call; set = s.set }

abbrev pub no_set : DeskSet
no_set = record { call = 0; set = record { request = 0; octets = [] } }

abbrev pub message_at : List DeskSet → ℕ → Message
message_at sets place = message_of place (slice_index_or sets place no_set)

-- the desk requests that are pending, from a place on, with the ticks of each that is
abbrev pub pending_from : ℕ → List DeskSet → List (Option ℕ) → List PendingRequest
pending_from place [] ts = []
pending_from place (s ∷ ss) [] = []
pending_from place (s ∷ ss) (None ∷ ts) = pending_from (place + 1) ss ts
pending_from place (s ∷ ss) (Some t ∷ ts) =
    record { message = message_of place s; ticks = t } ∷ pending_from (place + 1) ss ts
