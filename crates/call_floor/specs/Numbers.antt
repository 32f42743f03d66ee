-- The same items, ends and worlds with other numbers for their calls. This project's profile. Cited by the laws
-- of this crate.
use Rattle.std.specs.Prelude.{ℕ, map, option_map}
use Rattle.link_frames.specs.declared.note.Note.{Note}
use Rattle.link_frames.specs.declared.note.Note.TheVariants as note
use Rattle.ivs_machine.specs.Vehicle.{Vehicle}
use Rattle.psap_machine.specs.Point.{Point}
use Rattle.trace_model.specs.declared.entry.Entry.{Entry}
use Rattle.channel_sim.specs.World.{Call, World, Step}

abbrev pub note_with : (ℕ → ℕ) → Note → Note
note_with f (note.Up e c) = note.Up e (f c)
note_with f (note.Down e c why) = note.Down e (f c) why
note_with f (note.Voice e c up down) = note.Voice e (f c) up down
note_with f (note.Send e c frame) = note.Send e (f c) frame
note_with f (note.Shown c r octets) = note.Shown (f c) r octets
note_with f (note.Acked c r octets) = note.Acked (f c) r octets
note_with f (note.Ended e c timer) = note.Ended e (f c) timer
note_with f (note.Fault e c) = note.Fault e (f c)
note_with f (note.Busy c) = note.Busy (f c)
note_with f (note.Spent c) = note.Spent (f c)
note_with f (note.Unshown c) = note.Unshown (f c)
note_with f n = n

abbrev pub entry_with : (ℕ → ℕ) → Entry → Entry
entry_with f x = record { tick = x.tick; note = note_with f x.note }

abbrev pub vehicle_with : (ℕ → ℕ) → Vehicle → Vehicle
vehicle_with f v = record v { call = f v.call }

abbrev pub point_with : (ℕ → ℕ) → Point → Point
point_with f s = record s { call = f s.call }

abbrev pub call_with : (ℕ → ℕ) → Call → Call
call_with f k = record k { number = f k.number; session = option_map (point_with f) k.session }

-- the world with these numbers, of which this is the last drawn
abbrev pub world_with : (ℕ → ℕ) → (last : ℕ) → World → World
world_with f last w =
    record w { vehicle = vehicle_with f w.vehicle; drawn = last; calls = map (call_with f) w.calls }

-- the step with these numbers, of which so many more were drawn
abbrev pub step_with : (ℕ → ℕ) → (last : ℕ) → Step → Step
step_with f last s =
    record { entries = map (entry_with f) s.entries; world = world_with f last s.world; handed = s.handed }
