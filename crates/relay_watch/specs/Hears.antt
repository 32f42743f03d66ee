-- What the relay desk hears of an item of the world, and by an order. This project's profile. Cited by the contracts of
-- `DeskClock`, and by the reply of `relay`.
use Rattle.link_frames.specs.declared.note.Note.{Note}
use Rattle.link_frames.specs.declared.note.Note.TheVariants as note
use Rattle.relay_desk.specs.Desk.{Desk, happens}
use Rattle.relay_desk.specs.declared.event.RelayEvent.{RelayEvent}
use Rattle.relay_desk.specs.declared.event.RelayEvent.TheVariants as desk_event
use Rattle.relay_text.specs.declared.line.RelayOrder.{RelayOrder}
use Rattle.relay_text.specs.declared.line.RelayOrder.TheVariants as order

-- the desk hears of each set that the point shows
abbrev pub hears_note : Note → Desk → Desk
hears_note (note.Shown call request octets) d = (happens d (desk_event.Shown call request octets)).desk
hears_note _ d = d

-- what happens at the desk by an order
abbrev pub order_event : RelayOrder → RelayEvent
order_event (order.Pass call) = desk_event.Pass call
order_event (order.Forth k) = desk_event.Forth k
order_event (order.Back k) = desk_event.Back k
