-- What the items of a trace say of one end of one call: whose each item is, which waits for data end, how long the
-- voice may be muted, and which sets were made or shown. After EN 16062 (timers, muting); the numbers are this
-- project's profile. Cited by what a row owes, and by the histories of a trace.
use Rattle.std.specs.Prelude.{ℕ, zero, Bool, true, false, Option, Some, None, List, [], ◌∷◌}
use Rattle.link_frames.specs.declared.frame.End.{End}
use Rattle.link_frames.specs.declared.frame.End.TheVariants as «end»
use Rattle.link_frames.specs.declared.frame.Frame.{Frame}
use Rattle.link_frames.specs.declared.frame.Frame.TheVariants as frame
use Rattle.link_frames.specs.declared.note.Note.{Note}
use Rattle.link_frames.specs.declared.note.Note.TheVariants as note
use Rattle.link_frames.specs.declared.note.Timer.{Timer}
use Rattle.link_frames.specs.declared.note.Timer.TheVariants as timer

-- one step for each element, in order
abbrev pub through : {H A : Type 0} → (H → A → H) → H → List A → H
through step h [] = h
through step h (x ∷ xs) = through step (step h x) xs

-- the end and the call that an item is of; None where it is of no end's call
abbrev pub owner : Note → Option (End × ℕ)
owner (note.Up e c) = Some (e, c)
owner (note.Down e c why) = Some (e, c)
owner (note.Voice e c up down) = Some (e, c)
owner (note.Send e c frame) = Some (e, c)
owner (note.Shown c r octets) = Some («end».Point, c)
owner (note.Acked c r octets) = Some («end».Vehicle, c)
owner (note.Ended e c timer) = Some (e, c)
owner (note.Fault e c) = Some (e, c)
owner (note.Busy c) = Some («end».Point, c)
owner (note.Spent c) = Some («end».Point, c)
owner (note.Unshown c) = Some («end».Point, c)
owner _ = None

-- the timers at whose end the voice must be open: those of a wait for data, and the bound on all muting
abbrev pub is_data_timer : Timer → Bool
is_data_timer timer.T4 = true
is_data_timer timer.T5 = true
is_data_timer timer.T6 = true
is_data_timer timer.T7 = true
is_data_timer timer.T8 = true
is_data_timer timer.Sum = true
is_data_timer _ = false

-- the most ticks for which an end's voice is muted without a break
abbrev pub muting_limit : End → ℕ
muting_limit «end».Vehicle = 320
muting_limit «end».Point = 275

-- the least ticks for which a voice is open before it is muted again
abbrev pub least_opening : ℕ
least_opening = 20

-- A set of data with its request.
abbrev pub Kept : Type 0
Kept = ℕ × List ℕ

-- the sets that the vehicle made, newest first: one is made where its attempt 0 is sent
abbrev pub made_by : End → List Kept → Frame → List Kept
made_by «end».Vehicle sets (frame.Content r zero octets) = (r, octets) ∷ sets
made_by _ sets _ = sets

-- the sets that the point showed, newest first
abbrev pub shown_by : End → List Kept → ℕ → List ℕ → List Kept
shown_by «end».Vehicle sets r octets = sets
shown_by «end».Point sets r octets = (r, octets) ∷ sets

-- the sets that the vehicle made, or that the point showed, behind an item of this end
abbrev pub sets_moved : End → List Kept → Note → List Kept
sets_moved e sets (note.Send f c frame) = made_by e sets frame
sets_moved e sets (note.Shown c r octets) = shown_by e sets r octets
sets_moved e sets _ = sets
