-- What it means that a listener of one vehicle's trace hands its entries on to the floor's. This project's profile.
-- Cited by the listener `Tagged`.
use Rattle.std.specs.Prelude.{◌≡◌, List, map}
use Rattle.std.specs.Borrow.{GName}
use Rattle.trace_model.specs.declared.entry.Entry.{Entry}
use Rattle.call_floor.specs.declared.entry.FloorEntry.{FloorEntry}
use Rattle.call_floor.specs.declared.listener.Tagged.{Tagged}
use Rattle.call_floor.specs.Floor.{entry_of}

-- the listener that is borrowed, as it is now
abbrev pub heard : {H : Type 0} → Tagged H → H
heard t = t.to.now

-- which reference to a listener is borrowed
abbrev pub heard_name : {H : Type 0} → Tagged H → GName
heard_name t = t.to.ghost_name

-- Still the same listener is borrowed, as of the same vehicle, and it grew by these entries of that vehicle.
abbrev pub TaggedGrew : {H : Type 0} → (H → H → List FloorEntry → Type 0) → (old new : Tagged H) → List Entry → Type 0
TaggedGrew grew old new entries =
    (heard_name new ≡ heard_name old)
    × (new.vehicle ≡ old.vehicle)
    × grew (heard old) (heard new) (map (entry_of old.vehicle) entries)

-- Still the same listener is borrowed, as of whatever vehicle, and it grew by these entries.
abbrev pub FloorGrew :
    {H : Type 0} → (H → H → List FloorEntry → Type 0) → (old new : Tagged H) → List FloorEntry → Type 0
FloorGrew grew old new entries = (heard_name new ≡ heard_name old) × grew (heard old) (heard new) entries
