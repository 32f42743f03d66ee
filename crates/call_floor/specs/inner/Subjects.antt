-- What a line that a vehicle has alone speaks of, and the line with other numbers for its calls. Cited by the private
-- functions of `Floor` alone.
use Rattle.std.specs.Prelude.{ℕ}
use Rattle.link_frames.specs.declared.frame.End.TheVariants as «end»
use Rattle.trace_model.specs.declared.event.Event.{Event}
use Rattle.trace_model.specs.declared.event.Event.TheVariants as event

-- the vehicle, a call, which it names, or all that there is
pub data Subject : Type 0 where
  OfVehicle : Subject
  OfCall : (call : ℕ) → Subject
  OfAll : Subject

abbrev pub subject : Event → Subject
subject (event.FaultPoint c) = OfCall c
subject (event.Damaged c) = OfCall c
subject (event.Request c) = OfCall c
subject (event.Clear c) = OfCall c
subject (event.Hangup c) = OfCall c
subject (event.DropPoint c) = OfCall c
subject (event.DropBoth c) = OfCall c
subject (event.Deliver up c k) = OfCall c
subject (event.Flow up delay) = OfAll
subject (event.Tick n) = OfAll
subject (event.Reset «end».Point) = OfAll
subject _ = OfVehicle

-- a line of a vehicle or of a call
abbrev pub IsTurn : Subject → Type 0
IsTurn OfAll = ⊥
IsTurn _ = Unit {0}

abbrev pub event_with : (ℕ → ℕ) → Event → Event
event_with f (event.FaultPoint c) = event.FaultPoint (f c)
event_with f (event.Damaged c) = event.Damaged (f c)
event_with f (event.Request c) = event.Request (f c)
event_with f (event.Clear c) = event.Clear (f c)
event_with f (event.Hangup c) = event.Hangup (f c)
event_with f (event.DropPoint c) = event.DropPoint (f c)
event_with f (event.DropBoth c) = event.DropBoth (f c)
event_with f (event.Deliver up c k) = event.Deliver up (f c) k
event_with f e = e
