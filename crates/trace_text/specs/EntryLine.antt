-- The line of an entry of a trace: its tick, then the words of its item each behind a single space, then a newline.
-- Numbers are decimal, octets are lower-case hexadecimal, timers go by name. This project's profile. Cited by
-- `write_entry` and by the listeners, and through them by whatever writes a trace.
use Rattle.std.specs.Prelude.{ℕ, Bool, true, false, List, [], ◌∷◌, ◌++◌, codes, decimal}
use Rattle.hex.specs.Hex.{encode_lower}
use Rattle.link_frames.specs.declared.frame.Answer.{Answer}
use Rattle.link_frames.specs.declared.frame.Answer.TheVariants as answer
use Rattle.link_frames.specs.declared.frame.End.{End}
use Rattle.link_frames.specs.declared.frame.End.TheVariants as «end»
use Rattle.link_frames.specs.declared.frame.Frame.{Frame}
use Rattle.link_frames.specs.declared.frame.Frame.TheVariants as frame
use Rattle.link_frames.specs.declared.note.Note.{Note}
use Rattle.link_frames.specs.declared.note.Note.TheVariants as note
use Rattle.link_frames.specs.declared.note.Timer.{Timer}
use Rattle.link_frames.specs.declared.note.Timer.TheVariants as timer
use Rattle.link_frames.specs.declared.note.Why.{Why}
use Rattle.link_frames.specs.declared.note.Why.TheVariants as why
use Rattle.line_input.specs.Characters.{newline, space}
use Rattle.trace_text.specs.Summary.{summary_words}
use Rattle.trace_model.specs.declared.entry.Entry.{Entry}

abbrev pub end_word : End → List ℕ
end_word «end».Vehicle = codes "vehicle"
end_word «end».Point = codes "point"

abbrev pub why_word : Why → List ℕ
why_word why.Release = codes "release"
why_word why.Hangup = codes "hangup"
why_word why.Lost = codes "lost"

abbrev pub timer_word : Timer → List ℕ
timer_word timer.T1 = codes "T1"
timer_word timer.T2 = codes "T2"
timer_word timer.T3 = codes "T3"
timer_word timer.T4 = codes "T4"
timer_word timer.T5 = codes "T5"
timer_word timer.T6 = codes "T6"
timer_word timer.T7 = codes "T7"
timer_word timer.T8 = codes "T8"
timer_word timer.T10 = codes "T10"
timer_word timer.TD = codes "TD"
timer_word timer.TW = codes "TW"
timer_word timer.Sum = codes "sum"

abbrev pub answer_word : Answer → List ℕ
answer_word answer.Positive = codes "positive"
answer_word answer.Clear = codes "clear"

-- the network's state
abbrev pub net_word : Bool → List ℕ
net_word true = codes "up"
net_word false = codes "down"

-- one direction of the voice
abbrev pub voice_word : Bool → List ℕ
voice_word true = codes "open"
voice_word false = codes "muted"

abbrev pub frame_words : Frame → List (List ℕ)
frame_words frame.Init = codes "init" ∷ []
frame_words (frame.Start request) = codes "start" ∷ decimal request ∷ []
frame_words (frame.Content request attempt octets) =
    codes "data" ∷ decimal request ∷ decimal attempt ∷ encode_lower octets ∷ []
frame_words (frame.Nack request) = codes "nack" ∷ decimal request ∷ []
frame_words (frame.Ack request) = codes "ack" ∷ decimal request ∷ []
frame_words (frame.App request answer) = codes "app" ∷ decimal request ∷ answer_word answer ∷ []

-- The words of an item. That of a set which is shown ends with the summary of the set, or of its refusal.
abbrev pub note_words : Note → List (List ℕ)
note_words (note.Dial attempt) = codes "dial" ∷ decimal attempt ∷ []
note_words (note.Failed attempt) = codes "failed" ∷ decimal attempt ∷ []
note_words note.GaveUp = codes "gaveup" ∷ []
note_words note.Seeking = codes "seeking" ∷ []
note_words note.Arming = codes "arming" ∷ []
note_words note.Cancelled = codes "cancelled" ∷ []
note_words note.Standby = codes "standby" ∷ []
note_words note.Idle = codes "idle" ∷ []
note_words note.Nothing = codes "nothing" ∷ []
note_words (note.Net up) = codes "net" ∷ net_word up ∷ []
note_words (note.Up e call) = codes "up" ∷ end_word e ∷ decimal call ∷ []
note_words (note.Down e call why) = codes "down" ∷ end_word e ∷ decimal call ∷ why_word why ∷ []
note_words (note.Voice e call up down) =
    codes "voice" ∷ end_word e ∷ decimal call ∷ voice_word up ∷ voice_word down ∷ []
note_words (note.Send e call frame) = codes "send" ∷ end_word e ∷ decimal call ∷ frame_words frame
note_words (note.Shown call request octets) =
    codes "shown" ∷ decimal call ∷ decimal request ∷ encode_lower octets ∷ summary_words octets
note_words (note.Acked call request octets) =
    codes "acked" ∷ decimal call ∷ decimal request ∷ encode_lower octets ∷ []
note_words (note.Ended e call timer) = codes "ended" ∷ end_word e ∷ decimal call ∷ timer_word timer ∷ []
note_words (note.Fault e call) = codes "fault" ∷ end_word e ∷ decimal call ∷ []
note_words (note.Busy call) = codes "busy" ∷ decimal call ∷ []
note_words (note.Spent call) = codes "spent" ∷ decimal call ∷ []
note_words (note.Unshown call) = codes "unshown" ∷ decimal call ∷ []
note_words (note.Restart e) = codes "restart" ∷ end_word e ∷ []

-- each word behind a single space
abbrev pub spaced : List (List ℕ) → List ℕ
spaced [] = []
spaced (word ∷ words) = space ∷ (word ++ spaced words)

-- the line of an entry, its newline included
abbrev pub line_of : Entry → List ℕ
line_of entry = decimal entry.tick ++ spaced (note_words entry.note) ++ newline ∷ []

-- the lines of some entries, one behind the other
abbrev pub text_of : List Entry → List ℕ
text_of [] = []
text_of (entry ∷ entries) = line_of entry ++ text_of entries
