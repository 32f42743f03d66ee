-- The relay desk with the tick that it has reached, and how it follows the entries of the world, each at its tick. This
-- project's profile. Cited by the contracts of the functions that play a script with a relay desk.
use Rattle.std.specs.Prelude.{◌≡◌, ◌<◌, ◌≤◌, ℕ, zero, suc, ◌+◌, ◌-◌, List, [], ◌∷◌, ◌++◌, map, Option}
use Rattle.call_io.specs.Bytes.{Grew}
use Rattle.trace_model.specs.declared.entry.Entry.{Entry}
use Rattle.relay_desk.specs.Desk as desk
use Rattle.relay_desk.specs.Desk.{Desk, Row, first_desk}
use Rattle.relay_desk.specs.RelayStands.{desk_of}
use Rattle.relay_text.specs.ItemLine.{text_with_desk}
use Rattle.relay_watch.specs.Hears.{hears_note}
use Rattle.relay_text.specs.ItemLine.{RelayEntry, OfDesk, OfWorld}
use Rattle.relay_watch.specs.declared.clock.DeskClock.{DeskClock}

pub record Clock : Type 0 where
  pub desk : Desk
  pub tick : ℕ

abbrev pub first_clock : Clock
first_clock = record { desk = first_desk; tick = 0 }

-- what comes, in order, and the clock behind it
pub record Came : Type 0 where
  pub items : List RelayEntry
  pub clock : Clock

abbrev pub came_quietly : Clock → Came
came_quietly c = record { items = []; clock = c }

abbrev pub and_then : Came → (Clock → Came) → Came
and_then first second =
    record { items = first.items ++ (second first.clock).items; clock = (second first.clock).clock }

-- the desk did this, at this tick
abbrev pub row_at : ℕ → Row → Came
row_at tick row = record { items = map (OfDesk tick) row.items; clock = record { desk = row.desk; tick = tick } }

-- a unit tick of the desk
abbrev pub ticks_once : Clock → Came
ticks_once c = row_at (c.tick + 1) (desk.unit c.desk)

-- n unit ticks of the desk
abbrev pub elapses : ℕ → Clock → Came
elapses zero c = came_quietly c
elapses (suc n) c = and_then (elapses n c) ticks_once

-- an entry comes, and the desk hears of it
abbrev pub entry_comes : Entry → Clock → Came
entry_comes x c =
    record { items = OfWorld x ∷ []; clock = record { desk = hears_note x.note c.desk; tick = c.tick } }

-- in front of an entry the desk reaches the tick before the entry's
abbrev pub meets : Entry → Clock → Came
meets x c = and_then (elapses (x.tick - 1 - c.tick) c) (entry_comes x)

abbrev pub follows : List Entry → Clock → Came
follows [] c = came_quietly c
follows (x ∷ xs) c = and_then (meets x c) (follows xs)

-- the clock that is kept
abbrev pub clock_of : DeskClock → Clock
clock_of kept = record { desk = desk_of kept.relay; tick = kept.tick }

-- All this was written, and the clock is the one behind it.
pub record IsTold (came : Came) (kept : DeskClock) (held held' : Option (List ℕ)) : Type 0 where
  pub clock : clock_of kept ≡ came.clock
  pub wrote : Grew held held' (text_with_desk came.items)

-- Some ticks passed, and no more than up to this one; what they bring was written.
pub record ComesNearer (old new : DeskClock) (target : ℕ) (held held' : Option (List ℕ)) : Type 0 where
  pub later : old.tick < new.tick
  pub within : new.tick ≤ target
  pub told : IsTold (elapses (new.tick - old.tick) (clock_of old)) new held held'
