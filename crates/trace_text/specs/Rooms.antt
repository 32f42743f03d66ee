-- How much room the words of a frame and of an item want in a line, each word behind a space: few octets, or those of
-- a set in hexadecimal, too. Cited by what appends them to a line.
use Rattle.std.specs.Prelude.{ℕ, Bool, true, false, if◌then◌else◌}
use Rattle.link_frames.specs.declared.frame.Frame.{Frame}
use Rattle.link_frames.specs.declared.frame.Frame.TheVariants as frame
use Rattle.link_frames.specs.declared.note.Note.{Note}
use Rattle.link_frames.specs.declared.note.Note.TheVariants as note

-- whether a frame carries a set
abbrev pub carries_set : Frame → Bool
carries_set (frame.Content request attempt octets) = true
carries_set _ = false

-- whether the words of an item have the octets of a set
abbrev pub has_octets : Note → Bool
has_octets (note.Send e call frame) = carries_set frame
has_octets (note.Shown call request octets) = true
has_octets (note.Acked call request octets) = true
has_octets _ = false

-- The most octets that the words of a frame have. The longest without a set is `app`, a request of 3 digits and
-- `positive`: 4 + 4 + 9. One with a set is `data`, a request and an attempt of 3 digits and 280 digits: 5 + 4 + 4 +
-- 281.
abbrev pub frame_room : Frame → ℕ
frame_room frame = if carries_set frame then 294 else 17

-- The most octets that the words of an item have. The longest without a set is `send`, an end of 7 characters, a call
-- of 10 digits and a frame: 5 + 8 + 11 + 17. The longest with a set is `shown`, a call, a request, 280 digits and the
-- longest summary: 6 + 11 + 4 + 281 + 60.
abbrev pub note_room : Note → ℕ
note_room note = if has_octets note then 362 else 41
