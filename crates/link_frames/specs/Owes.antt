-- What a row of an end's table owes to the world, said without a world and without a trace: which items it may give and
-- where, and how they move what the world sees of the end. After EN 16062 (the voice is open wherever no data is sent);
-- the numbers are this project's profile. Both ends prove it of every row; the world's safety stands on it alone.
use Rattle.std.specs.Prelude.{◌≡◌, ◌≤◌, ◌<◌, ℕ, ◌+◌, Bool, true, false, List, [], ◌∷◌, ◌&&◌, ◌==◌, Option, Some, None, IfSome}
use Rattle.link_frames.specs.declared.frame.End.{End}
use Rattle.link_frames.specs.declared.frame.End.TheVariants as «end»
use Rattle.link_frames.specs.declared.frame.Frame.{Frame}
use Rattle.link_frames.specs.declared.frame.Frame.TheVariants as frame
use Rattle.link_frames.specs.declared.note.Note.{Note}
use Rattle.link_frames.specs.declared.note.Note.TheVariants as note
use Rattle.link_frames.specs.Legs.{Kept, through, owner, is_data_timer, muting_limit, least_opening, sets_moved}

-- What an end is to a call that it is in, seen from outside; an end that isn't in the call has no seat there.
pub record Seat : Type 0 where
  -- whether the voice is open
  pub talks : Bool
  -- since the voice was opened or muted
  pub ticks : ℕ
  -- the sets that the vehicle made, or that the point showed, newest first
  pub sets : List Kept

-- as the leg comes up
abbrev pub fresh_seat : Seat
fresh_seat = record { talks = false; ticks = 0; sets = [] }

-- A voice that stays as it was goes on.
abbrev pub revoiced : Seat → (was will : Bool) → Seat
revoiced k true true = k
revoiced k false false = k
revoiced k true false = record { talks = false; ticks = 0; sets = k.sets }
revoiced k false true = record { talks = true; ticks = 0; sets = k.sets }

-- the seat of this end behind an item of its own
abbrev pub seat_moved : End → Option Seat → Note → Option Seat
seat_moved e None n = None
seat_moved e (Some k) (note.Down f d why) = None
seat_moved e (Some k) (note.Voice f d up down) = Some (revoiced k k.talks (up && down))
seat_moved e (Some k) n = Some (record { talks = k.talks; ticks = k.ticks; sets = sets_moved e k.sets n })

-- one tick passes at an end
abbrev pub elapsed : Option Seat → Option Seat
elapsed None = None
elapsed (Some k) = Some (record { talks = k.talks; ticks = k.ticks + 1; sets = k.sets })

-- the item is of this end and this call, or of none
abbrev pub OwnedBy : End → ℕ → Option (End × ℕ) → Type 0
OwnedBy e c None = Unit {0}
OwnedBy e c (Some o) = (o.0 ≡ e) × (o.1 ≡ c)

abbrev pub IsOf : End → ℕ → Note → Type 0
IsOf e c n = OwnedBy e c (owner n)

-- the items go on with the opening of the voice, both ways
abbrev pub OpensThen : End → ℕ → List Note → Type 0
OpensThen e c [] = ⊥
OpensThen e c (n ∷ ns) = n ≡ note.Voice e c true true

-- An item that is safe where the end's seat is so, with the items behind it: no leg comes up twice; an open voice is
-- muted only once it was open for long enough; a data timer that ends, or a fault, while the voice is muted opens it.
abbrev pub Safely : End → ℕ → Option Seat → Note → List Note → Type 0
Safely e c s (note.Up f d) ns = ⊥
Safely e c None (note.Voice f d up down) ns = ⊥
Safely e c (Some k) (note.Voice f d up down) ns = (up && down) ≡ false → k.talks ≡ true → least_opening ≤ k.ticks
Safely e c (Some k) (note.Ended f d timer) ns = is_data_timer timer ≡ true → k.talks ≡ false → OpensThen e c ns
Safely e c (Some k) (note.Fault f d) ns = k.talks ≡ false → OpensThen e c ns
Safely e c _ _ ns = Unit {0}

-- the first of two, if there is one
abbrev pub or_else : Option (List ℕ) → Bool → List ℕ → Option (List ℕ)
or_else (Some octets) same newer = Some octets
or_else None true newer = Some newer
or_else None false newer = None

-- the set that was kept first for a request
abbrev pub set_for : ℕ → List Kept → Option (List ℕ)
set_for r [] = None
set_for r (m ∷ ms) = or_else (set_for r ms) (m.0 == r) m.1

abbrev pub HasSet : ℕ → List Kept → Type 0
HasSet r sets = (octets : List ℕ) × (set_for r sets ≡ Some octets)

-- the frame that came acknowledges this request
abbrev pub Confirms : ℕ → Option Frame → Type 0
Confirms r (Some (frame.Ack q)) = q ≡ r
Confirms r (Some (frame.App q answer)) = q ≡ r
Confirms r _ = ⊥

-- the frame that came brings this set for this request
abbrev pub Brings : ℕ → List ℕ → Option Frame → Type 0
Brings r octets (Some (frame.Content q attempt brought)) = (q ≡ r) × (brought ≡ octets)
Brings r octets _ = ⊥

-- What the vehicle may say with these sets made, where this frame came: it sends a request's one set, and counts only
-- what the frame acknowledges.
abbrev pub VehicleSays : Option Frame → (made : List Kept) → Note → Type 0
VehicleSays came made (note.Send f d (frame.Content r attempt octets)) =
    set_for r (sets_moved «end».Vehicle made (note.Send f d (frame.Content r attempt octets))) ≡ Some octets
VehicleSays came made (note.Acked c r octets) = Confirms r came × (set_for r made ≡ Some octets)
VehicleSays came made _ = Unit {0}

-- What the point may say with these sets shown, where this frame came: it shows what the frame brings, and acknowledges
-- only what was shown.
abbrev pub PointSays : Option Frame → (shown : List Kept) → Note → Type 0
PointSays came shown (note.Shown c r octets) = Brings r octets came
PointSays came shown (note.Send f d (frame.Ack r)) = HasSet r shown
PointSays came shown (note.Send f d (frame.App r answer)) = HasSet r shown
PointSays came shown _ = Unit {0}

abbrev pub Says : End → Option Frame → List Kept → Note → Type 0
Says «end».Vehicle came sets n = VehicleSays came sets n
Says «end».Point came sets n = PointSays came sets n

-- an end that isn't in the call says nothing of a set, and sends nothing
abbrev pub SaysSeated : End → Option Frame → Option Seat → Note → Type 0
SaysSeated e came (Some k) n = Says e came k.sets n
SaysSeated e came None (note.Send f d frame) = ⊥
SaysSeated e came None (note.Shown c r octets) = ⊥
SaysSeated e came None (note.Acked c r octets) = ⊥
SaysSeated e came None _ = Unit {0}

-- an item that this end may give in this call, where its seat is so, with the items behind it
abbrev pub MayGive : End → ℕ → Option Frame → Option Seat → Note → List Note → Type 0
MayGive e c came s n ns = IsOf e c n × Safely e c s n ns × SaysSeated e came s n

-- it holds of each item, where the end's seat is as the items before left it
abbrev pub Along : (Option Seat → Note → List Note → Type 0) → End → Option Seat → List Note → Type 0
Along P e s [] = Unit {0}
Along P e s (n ∷ ns) = P s n ns × Along P e (seat_moved e s n) ns

-- a muted voice has ticks left to its limit
abbrev pub InTime : End → Seat → Type 0
InTime e k = k.talks ≡ false → k.ticks < muting_limit e

-- What a row owes of a leg that is up or down, where this frame came, if one did. `old` is the seat at which the row
-- began, with the tick passed where the row is a unit tick.
pub record Owes
    (e : End)
    (c : ℕ)
    (came : Option Frame)
    (old : Option Seat)
    (items : List Note)
    (new : Option Seat) : Type 0 where
  pub given : Along (MayGive e c came) e old items
  pub seat : new ≡ through (seat_moved e) old items
  pub in_time : IfSome new (InTime e)

-- What a row owes of a leg that comes up in it, as its first item says.
pub record OwesArrival (e : End) (c : ℕ) (items : List Note) (new : Option Seat) : Type 0 where
  pub rest : List Note
  pub up : items ≡ note.Up e c ∷ rest
  pub owes : Owes e c None (Some fresh_seat) rest new
