-- The first ticks of two vehicles that both call, worked out by hand: calls are numbered as they are drawn, the vehicles
-- act by number, and frames reach the point by call.
use Rattle.std.proofs.Common.{◌≡◌, ℕ, List, [], ◌∷◌, true, false, refl}
use Rattle.link_frames.specs.declared.frame.End.TheVariants as «end»
use Rattle.link_frames.specs.declared.frame.Frame.TheVariants as frame
use Rattle.link_frames.specs.declared.note.Note.{Note}
use Rattle.link_frames.specs.declared.note.Note.TheVariants as note
use Rattle.msd_fit.specs.declared.cause.Cause.TheVariants as cause
use Rattle.msd_fit.specs.declared.facts.Facts.{Facts}
use Rattle.trace_model.specs.declared.event.Event.TheVariants as event
use Rattle.call_floor.specs.declared.entry.FloorEntry.{FloorEntry}
use Rattle.call_floor.specs.declared.event.CallLine.TheVariants as call
use Rattle.call_floor.specs.declared.event.FloorEvent.{FloorEvent}
use Rattle.call_floor.specs.declared.event.FloorEvent.TheVariants as floor
use Rattle.call_floor.specs.declared.event.VehicleLine.{VehicleLine}
use Rattle.call_floor.specs.declared.event.VehicleLine.TheVariants as line
use Rattle.call_floor.specs.Floor.{Floor, floor_with, first_stand, joined}
use Rattle.call_floor.specs.FloorLines.{trace_from}
use Rattle.call_floor.specs.Parts.{mine}

abbrev two : Facts → Floor
two known = floor_with (joined (first_stand 2 known) (joined (first_stand 1 known) []))

abbrev by : ℕ → VehicleLine → FloorEvent
by v line = floor.Vehicle v line

abbrev at : (tick v : ℕ) → Note → FloorEntry
at t v n = record { vehicle = v; entry = record { tick = t; note = n } }

abbrev script : List FloorEvent
script =
    floor.Flow true 3
    ∷ floor.Flow false 3
    ∷ by 2 (line.Trigger cause.Auto)
    ∷ by 2 line.Answer
    ∷ by 1 (line.Trigger cause.Auto)
    ∷ by 1 line.Answer
    ∷ floor.Tick 5
    ∷ []

played : (known : Facts) → trace_from (two known) script ≡
    at 0 2 (note.Dial 1)
    ∷ at 0 2 (note.Up «end».Vehicle 1)
    ∷ at 0 2 (note.Voice «end».Vehicle 1 false false)
    ∷ at 0 2 (note.Send «end».Vehicle 1 frame.Init)
    ∷ at 0 2 (note.Up «end».Point 1)
    ∷ at 0 2 (note.Voice «end».Point 1 false false)
    ∷ at 0 1 (note.Dial 1)
    ∷ at 0 1 (note.Up «end».Vehicle 2)
    ∷ at 0 1 (note.Voice «end».Vehicle 2 false false)
    ∷ at 0 1 (note.Send «end».Vehicle 2 frame.Init)
    ∷ at 0 1 (note.Up «end».Point 2)
    ∷ at 0 1 (note.Voice «end».Point 2 false false)
    ∷ at 3 2 (note.Send «end».Point 1 (frame.Start 1))
    ∷ at 3 1 (note.Send «end».Point 2 (frame.Start 1))
    ∷ at 5 1 (note.Send «end».Vehicle 2 frame.Init)
    ∷ at 5 2 (note.Send «end».Vehicle 1 frame.Init)
    ∷ []
played known = refl

-- the second vehicle's lines
mine_two : (known : Facts) → mine (two known) script 2 ≡
    event.Flow true 3 ∷ event.Flow false 3 ∷ event.Trigger cause.Auto ∷ event.Answer ∷ event.Tick 5 ∷ []
mine_two known = refl

-- the second row of the same: a line that names a call not drawn, and one that drops a call of one vehicle
abbrev dropping : List FloorEvent
dropping =
    by 2 (line.Trigger cause.Auto)
    ∷ by 2 line.Answer
    ∷ by 1 (line.Trigger cause.Auto)
    ∷ by 1 line.Answer
    ∷ floor.Call 9 call.Request
    ∷ floor.Call 1 call.DropBoth
    ∷ []

abbrev thirteenth : List FloorEntry → List FloorEntry
thirteenth (a ∷ b ∷ c ∷ d ∷ e ∷ f ∷ g ∷ h ∷ i ∷ j ∷ k ∷ l ∷ rest) = rest
thirteenth _ = []

dropped : (known : Facts) → thirteenth (trace_from (two known) dropping) ≡
    at 0 0 note.Nothing
    ∷ at 0 2 (note.Down «end».Vehicle 1 Rattle.link_frames.specs.declared.note.Why.TheVariants.Lost)
    ∷ at 0 2 (note.Dial 1)
    ∷ at 0 2 (note.Down «end».Point 1 Rattle.link_frames.specs.declared.note.Why.TheVariants.Lost)
    ∷ []
dropped known = refl

-- the call of the first vehicle is the second one drawn on the floor, and its own first
mine_one_first : (known : Facts) → mine (two known) (by 2 (line.Trigger cause.Auto) ∷ by 2 line.Answer ∷ by 1 (line.Trigger cause.Auto) ∷ by 1 line.Answer ∷ floor.Call 2 call.Hangup ∷ floor.Call 1 call.Hangup ∷ floor.Call 3 call.Hangup ∷ []) 1 ≡
    event.Trigger cause.Auto ∷ event.Answer ∷ event.Hangup 1 ∷ []
mine_one_first known = refl
