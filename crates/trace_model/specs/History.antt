-- What a trace says of one end of one call: the frames that it sent, in order, each with its tick, and the sets that it
-- made or showed. Said of entries alone. This project's profile. Cited by the world's definitions, whose frames in
-- flight are these, and by the world's invariant.
use Rattle.std.specs.Prelude.{ℕ, List, [], ◌∷◌, if◌then◌else◌}
use Rattle.link_frames.specs.declared.frame.End.{End}
use Rattle.link_frames.specs.declared.frame.Frame.{Frame}
use Rattle.link_frames.specs.declared.note.Note.{Note}
use Rattle.link_frames.specs.declared.note.Note.TheVariants as note
use Rattle.link_frames.specs.Legs.{Kept, through, sets_moved}
use Rattle.trace_model.specs.declared.entry.Entry.{Entry}
use Rattle.trace_model.specs.Safety.{is_leg, own}

-- these items, told at a tick
abbrev pub told : ℕ → List Note → List Entry
told now [] = []
told now (n ∷ ns) = record { tick = now; note = n } ∷ told now ns

-- A frame that was sent, and when.
pub record Sent : Type 0 where
  pub tick : ℕ
  pub frame : Frame

-- the frame that an item sends at a tick, for this end and this call, in front of others
abbrev pub sends : End → ℕ → ℕ → Note → List Sent → List Sent
sends e c now (note.Send f d frame) others =
    if is_leg e c f d then record { tick = now; frame = frame } ∷ others else others
sends e c now _ others = others

-- the frames that this end sent in this call by these entries
abbrev pub sent_by : End → ℕ → List Entry → List Sent
sent_by e c [] = []
sent_by e c (x ∷ xs) = sends e c x.tick x.note (sent_by e c xs)

-- The sets that the vehicle made in this call, or that the point showed, each with its request, newest first. A set is
-- made where its attempt 0 is sent.
abbrev pub sets_step : End → List Kept → Entry → List Kept
sets_step e sets x = sets_moved e sets x.note

abbrev pub sets_of : End → ℕ → List Entry → List Kept
sets_of e c entries = through (own (sets_step e) e c) [] entries
