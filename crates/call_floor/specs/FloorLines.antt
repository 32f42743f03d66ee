-- What each event line of a floor's script does, and the trace of such a script. This project's profile. Cited by the
-- contracts of `Floor`, and by the laws of this crate.
use Rattle.std.specs.Prelude.{ℕ, zero, suc, true, false, List, [], ◌∷◌, ◌++◌, Option, Some, None, ◌+◌, length, slice_get}
use Rattle.link_frames.specs.declared.note.Note.TheVariants as note
use Rattle.trace_model.specs.declared.event.Event.{Event}
use Rattle.channel_sim.specs.Lines.{step}
use Rattle.channel_sim.specs.World.{session_count}
use Rattle.call_floor.specs.declared.entry.FloorEntry.{FloorEntry}
use Rattle.call_floor.specs.declared.event.FloorEvent.{FloorEvent}
use Rattle.call_floor.specs.declared.event.FloorEvent.TheVariants as floor
use Rattle.call_floor.specs.FloorEvents.{vehicle_event, call_event}
use Rattle.call_floor.specs.Floor.{Floor, FloorStep, Stand, quiet_floor, turn, units}

-- the vehicle for which this call was drawn, if it was
abbrev pub drawn_for : ℕ → List ℕ → Option ℕ
drawn_for zero drawn = None
drawn_for (suc c) drawn = slice_get drawn c

-- how many ends there are: each vehicle, and each session
abbrev pub ends : List Stand → ℕ
ends [] = 0
ends (s ∷ ss) = session_count s.calls + 1 + ends ss

-- a line that names a call not yet drawn: the item `nothing`, of no vehicle
abbrev pub nothing_floor : Floor → FloorStep
nothing_floor w =
    record {
      entries = record { vehicle = 0; entry = record { tick = w.tick; note = note.Nothing } } ∷ [];
      floor = w;
      handed = 0;
    }

-- a line that names a call, by the vehicle for which the call was drawn
abbrev pub in_call : Event → Floor → Option ℕ → FloorStep
in_call e w None = nothing_floor w
in_call e w (Some v) = turn v (λ u. step u e) w

-- What one event line does. A line of a vehicle that isn't there does nothing.
abbrev pub floor_step : Floor → FloorEvent → FloorStep
floor_step w (floor.Vehicle v line) = turn v (λ u. step u (vehicle_event line)) w
floor_step w (floor.Call c line) = in_call (call_event c line) w (drawn_for c w.drawn)
floor_step w (floor.Flow true delay) = quiet_floor (record w { up_flow = delay })
floor_step w (floor.Flow false delay) = quiet_floor (record w { down_flow = delay })
floor_step w (floor.Tick n) = units n w

-- How often the ends are passed in a step at most: for a line of elapsed ticks once for each entry, for each frame
-- handed over and for each vehicle and session that there is before; for every other line never.
abbrev pub passes_within : Floor → FloorEvent → ℕ
passes_within w (floor.Tick n) = length (units n w).entries + (units n w).handed + ends w.stands
passes_within w _ = 0

-- the entries of these events, from this floor on, and the floor behind them
abbrev pub trace_from : Floor → List FloorEvent → List FloorEntry
trace_from w [] = []
trace_from w (e ∷ es) = (floor_step w e).entries ++ trace_from (floor_step w e).floor es

abbrev pub floor_after : Floor → List FloorEvent → Floor
floor_after w [] = w
floor_after w (e ∷ es) = floor_after (floor_step w e).floor es
