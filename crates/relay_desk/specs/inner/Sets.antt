-- What a unit tick brings for each desk request, by the places of their sets. Cited by the private functions of the
-- desk.
use Rattle.std.specs.Prelude.{◌+◌, ℕ, List, [], ◌∷◌, ◌++◌, Option}
use Rattle.relay_desk.specs.declared.event.RelayNote.{RelayNote}
use Rattle.relay_desk.specs.declared.sets.DeskSet.{DeskSet}
use Rattle.relay_desk.specs.declared.turn.Turn.{Turn}
use Rattle.relay_desk.specs.declared.turn.Turn.TheVariants as turn
use Rattle.relay_desk.specs.Desk.{turn_item}
use Rattle.relay_desk.specs.Requests.{message_of}
use Rattle.relay_desk.specs.inner.Queue.{turn_in}

-- the place of a set whose message is sent again
abbrev pub turn_place : Turn → ℕ → List ℕ
turn_place turn.GivesUp place = []
turn_place turn.Resends place = place ∷ []
turn_place turn.Waits place = []

-- what the n-th tick from now brings for desk requests from a place on
abbrev pub turn_items : ℕ → ℕ → List DeskSet → List (Option ℕ) → List RelayNote
turn_items n place [] ts = []
turn_items n place (s ∷ ss) [] = []
turn_items n place (s ∷ ss) (t ∷ ts) =
    turn_item (turn_in n t) (message_of place s) ++ turn_items n (place + 1) ss ts

abbrev pub turn_places : ℕ → ℕ → List DeskSet → List (Option ℕ) → List ℕ
turn_places n place [] ts = []
turn_places n place (s ∷ ss) [] = []
turn_places n place (s ∷ ss) (t ∷ ts) = turn_place (turn_in n t) place ++ turn_places n (place + 1) ss ts
