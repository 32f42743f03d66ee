-- The relay desk and the second point: what they keep, and what each event does there. A message of the link between
-- them may be handed over late, twice, in any order or never. The desk sends a message again every 10 ticks until it
-- hears back, and gives up at 100. This project's profile. Cited by the contracts of `Relay`.
use Rattle.std.specs.Prelude.{◌≡◌, ◌≢◌, ◌<◌, ℕ, zero, suc, Bool, true, false, List, [], ◌∷◌, ◌++◌, ◌+◌, ◌%◌, ◌==◌, not, Option, Some, None, map, filter, slice_get, if◌then◌else◌}
use Rattle.std.specs.List.{flat_map, list_any}
use Rattle.relay_desk.specs.declared.event.RelayEvent.{RelayEvent}
use Rattle.relay_desk.specs.declared.event.RelayEvent.TheVariants as event
use Rattle.relay_desk.specs.declared.event.RelayNote.{RelayNote}
use Rattle.relay_desk.specs.declared.event.RelayNote.TheVariants as note
use Rattle.relay_desk.specs.declared.sets.ShownSet.{ShownSet}
use Rattle.relay_desk.specs.declared.turn.Turn.{Turn}
use Rattle.relay_desk.specs.declared.turn.Turn.TheVariants as turn

-- after so many ticks, and every so many from then on, a message is sent again
abbrev pub resend_after : ℕ
resend_after = 10

-- after so many ticks a desk request is given up
abbrev pub give_up_after : ℕ
give_up_after = 100

-- A message to the second point: the number of its desk request, and a set with the call in which the point showed it.
pub record Message : Type 0 where
  pub desk : ℕ
  pub call : ℕ
  pub set : ShownSet

-- A desk request of which nothing came back yet, by its message, and the ticks since it was made.
pub record PendingRequest : Type 0 where
  pub message : Message
  pub ticks : ℕ

pub record Desk : Type 0 where
  -- the set that the point showed last in each call
  pub last : ℕ → Option ShownSet
  -- how many desk requests were made; they are numbered from 1
  pub requests : ℕ
  -- all messages ever sent to the second point, in order
  pub forth : List Message
  -- all messages ever sent back by it, in order, each by its desk request
  pub back : List ℕ
  -- the desk requests that are pending, in order
  pub pending : List PendingRequest
  -- the desk requests whose set the second point showed
  pub second : ℕ → Bool

-- the desk before anything happened
abbrev pub first_desk : Desk
first_desk =
    record { last = λ c. None; requests = 0; forth = []; back = []; pending = []; second = λ q. false }

-- What an event gives: the items, in order, and the desk behind it.
pub record Row : Type 0 where
  pub items : List RelayNote
  pub desk : Desk

abbrev pub quiet_row : Desk → Row
quiet_row d = record { items = []; desk = d }

-- an item alone, and no change
abbrev pub lone_row : RelayNote → Desk → Row
lone_row item d = record { items = item ∷ []; desk = d }

-- a message is sent to the second point
abbrev pub sent_forth : Message → RelayNote
sent_forth m = note.Forth m.desk m.call m.set.request m.set.octets

-- the second point shows the set of a message
abbrev pub shown_there : Message → RelayNote
shown_there m = note.Shown m.desk m.call m.set.request m.set.octets

-- the k-th of these, from 1
abbrev pub kth : {A : Type 0} → ℕ → List A → Option A
kth zero xs = None
kth (suc k) xs = slice_get xs k

-- The point shows a set.
abbrev pub shows : ℕ → ShownSet → Desk → Row
shows c s d = quiet_row (record d { last = λ e. if c == e then Some s else d.last e })

-- The next desk request is made, with this set of that call.
abbrev pub made : ℕ → ShownSet → Desk → Message
made c s d = record { desk = d.requests + 1; call = c; set = s }

abbrev pub goes_on : Message → Desk → Row
goes_on m d =
    record {
      items = sent_forth m ∷ [];
      desk =
          record d {
            requests = d.requests + 1;
            forth = d.forth ++ m ∷ [];
            pending = d.pending ++ record { message = m; ticks = 0 } ∷ [];
          };
    }

abbrev pub passes_set : ℕ → Option ShownSet → Desk → Row
passes_set c None d = lone_row (note.Unshown c) d
passes_set c (Some s) d = goes_on (made c s d) d

-- The set shown last in a call is passed on.
abbrev pub passes : ℕ → Desk → Row
passes c d = passes_set c (d.last c) d

-- The second point has this message. It shows the set of a desk request once, and says each time that it has it.
abbrev pub shown_first : Message → Desk → Row
shown_first m d =
    record {
      items = shown_there m ∷ note.Back m.desk ∷ [];
      desk =
          record d {
            back = d.back ++ m.desk ∷ [];
            second = λ q. if m.desk == q then true else d.second q;
          };
    }

abbrev pub said_again : Message → Desk → Row
said_again m d = record { items = note.Back m.desk ∷ []; desk = record d { back = d.back ++ m.desk ∷ [] } }

abbrev pub arrives_there : Option Message → Desk → Row
arrives_there None d = lone_row note.Nothing d
arrives_there (Some m) d = if d.second m.desk then said_again m d else shown_first m d

-- The k-th message to the second point is handed over.
abbrev pub hands_forth : ℕ → Desk → Row
hands_forth k d = arrives_there (kth k d.forth) d

-- whether a desk request is pending
abbrev pub is_pending : ℕ → List PendingRequest → Bool
is_pending q ps = list_any (λ p. p.message.desk == q) ps

-- those that are pending but for one
abbrev pub without : ℕ → List PendingRequest → List PendingRequest
without q ps = filter (λ p. not (p.message.desk == q)) ps

-- one that is pending is done
abbrev pub is_done : ℕ → Desk → Row
is_done q d = record { items = note.Done q ∷ []; desk = record d { pending = without q d.pending } }

abbrev pub arrives_back : Option ℕ → Desk → Row
arrives_back None d = lone_row note.Nothing d
arrives_back (Some q) d = if is_pending q d.pending then is_done q d else quiet_row d

-- The k-th message back is handed over.
abbrev pub hands_back : ℕ → Desk → Row
hands_back k d = arrives_back (kth k d.back) d

-- The unit tick.

-- what a unit tick brings for a pending request whose ticks are then these
abbrev pub turn_at : ℕ → Turn
turn_at ticks =
    if ticks == give_up_after then turn.GivesUp else if ticks % resend_after == 0 then turn.Resends else turn.Waits

abbrev pub turn_item : Turn → Message → List RelayNote
turn_item turn.GivesUp m = note.GaveUp m.desk ∷ []
turn_item turn.Resends m = sent_forth m ∷ []
turn_item turn.Waits m = []

abbrev pub turn_message : Turn → Message → List Message
turn_message turn.GivesUp m = []
turn_message turn.Resends m = m ∷ []
turn_message turn.Waits m = []

abbrev pub turn_pending : Turn → PendingRequest → List PendingRequest
turn_pending turn.GivesUp p = []
turn_pending turn.Resends p = p ∷ []
turn_pending turn.Waits p = p ∷ []

-- so many ticks more
abbrev pub older : ℕ → PendingRequest → PendingRequest
older n p = record p { ticks = p.ticks + n }

-- each pending request has its turn, in order, at these ticks
abbrev pub turns : List PendingRequest → Desk → Row
turns ps d =
    record {
      items = flat_map (λ p. turn_item (turn_at p.ticks) p.message) ps;
      desk =
          record d {
            forth = d.forth ++ flat_map (λ p. turn_message (turn_at p.ticks) p.message) ps;
            pending = flat_map (λ p. turn_pending (turn_at p.ticks) p) ps;
          };
    }

abbrev pub unit : Desk → Row
unit d = turns (map (older 1) d.pending) d

-- one event, and then another at the desk that it leaves
abbrev pub and_then : Row → (Desk → Row) → Row
and_then first second =
    record { items = first.items ++ (second first.desk).items; desk = (second first.desk).desk }

-- n unit ticks
abbrev pub units : ℕ → Desk → Row
units zero d = quiet_row d
units (suc n) d = and_then (units n d) unit

-- What an event does.
abbrev pub happens : Desk → RelayEvent → Row
happens d (event.Shown c r o) = shows c (record { request = r; octets = o }) d
happens d (event.Pass c) = passes c d
happens d (event.Forth k) = hands_forth k d
happens d (event.Back k) = hands_back k d
happens d (event.Units n) = units n d

-- What must hold for an event: numbers of desk requests don't run out, and no item comes in the midst of elapsed ticks.
abbrev pub MayHappen : Desk → RelayEvent → Type 0
MayHappen d (event.Pass c) = d.requests < 4294967295
MayHappen d (event.Units n) = (m : ℕ) → m < n → (units m d).items ≡ []
MayHappen d _ = Unit {0}

-- the first item comes with the n-th unit tick
pub record IsNextTurn (n : ℕ) (d : Desk) : Type 0 where
  pub gives : (units n d).items ≢ []
  pub quiet : (m : ℕ) → m < n → (units m d).items ≡ []
