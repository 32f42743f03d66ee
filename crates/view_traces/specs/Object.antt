-- The object of an entry of a trace: one line of JSON, with the number of its line, its tick, the first word of its
-- item and then what the item has. This project's profile. Words are those of the entry's line. Cited by what is told
-- of a line of a trace.
use Rattle.std.specs.Prelude.{ℕ, Bool, List, [], ◌∷◌, codes, decimal}
use Rattle.std.specs.List.{concat}
use Rattle.hex.specs.Hex.{encode_lower}
use Rattle.link_frames.specs.declared.frame.Answer.{Answer}
use Rattle.link_frames.specs.declared.frame.End.{End}
use Rattle.link_frames.specs.declared.frame.Frame.{Frame}
use Rattle.link_frames.specs.declared.frame.Frame.TheVariants as frame
use Rattle.link_frames.specs.declared.note.Note.{Note}
use Rattle.link_frames.specs.declared.note.Note.TheVariants as note
use Rattle.link_frames.specs.declared.note.Timer.{Timer}
use Rattle.link_frames.specs.declared.note.Why.{Why}
use Rattle.trace_model.specs.declared.entry.Entry.{Entry}
use Rattle.trace_text.specs.EntryLine.{answer_word, end_word, net_word, timer_word, voice_word, why_word}

-- the item's first word
unfoldable pub item_field : (word : List ℕ) → List ℕ
item_field word = concat (codes ",\"item\":\"" ∷ word ∷ codes "\"" ∷ [])

-- a field of a number; the name stands with its comma, its quotes and its colon
unfoldable pub number_field : (name : List ℕ) → ℕ → List ℕ
number_field name number = concat (name ∷ decimal number ∷ [])

unfoldable pub end_field : End → List ℕ
end_field e = concat (codes ",\"end\":\"" ∷ end_word e ∷ codes "\"" ∷ [])

-- the octets of a set
unfoldable pub octets_field : List ℕ → List ℕ
octets_field octets = concat (codes ",\"octets\":\"" ∷ encode_lower octets ∷ codes "\"" ∷ [])

-- an item with an attempt to dial
unfoldable pub dial_fields : (word : List ℕ) → ℕ → List ℕ
dial_fields word attempt = concat (item_field word ∷ number_field (codes ",\"attempt\":") attempt ∷ [])

-- an item with a call alone
unfoldable pub call_fields : (word : List ℕ) → ℕ → List ℕ
call_fields word call = concat (item_field word ∷ number_field (codes ",\"call\":") call ∷ [])

-- the network's state
unfoldable pub net_fields : Bool → List ℕ
net_fields up = concat (codes ",\"item\":\"net\",\"state\":\"" ∷ net_word up ∷ codes "\"" ∷ [])

unfoldable pub restart_fields : End → List ℕ
restart_fields e = concat (item_field (codes "restart") ∷ end_field e ∷ [])

-- an item with an end and a call
unfoldable pub leg_fields : (word : List ℕ) → End → ℕ → List ℕ
leg_fields word e call =
    concat (item_field word ∷ end_field e ∷ number_field (codes ",\"call\":") call ∷ [])

unfoldable pub down_fields : End → ℕ → Why → List ℕ
down_fields e call why =
    concat (leg_fields (codes "down") e call ∷ codes ",\"why\":\"" ∷ why_word why ∷ codes "\"" ∷ [])

unfoldable pub ended_fields : End → ℕ → Timer → List ℕ
ended_fields e call timer =
    concat (leg_fields (codes "ended") e call ∷ codes ",\"timer\":\"" ∷ timer_word timer ∷ codes "\"" ∷ [])

-- up is the direction from the vehicle to the point
unfoldable pub voice_fields : End → ℕ → (up down : Bool) → List ℕ
voice_fields e call up down =
    concat (
    leg_fields (codes "voice") e call
    ∷ codes ",\"up\":\"" ∷ voice_word up
    ∷ codes "\",\"down\":\"" ∷ voice_word down
    ∷ codes "\"" ∷ []
    )

-- an item with a call, a request and the octets of a set
unfoldable pub set_fields : (word : List ℕ) → (call request : ℕ) → (octets : List ℕ) → List ℕ
set_fields word call request octets =
    concat (call_fields word call ∷ number_field (codes ",\"request\":") request ∷ octets_field octets ∷ [])

-- a frame with a request alone
unfoldable pub request_fields : (word : List ℕ) → ℕ → List ℕ
request_fields word request =
    concat (codes ",\"frame\":\"" ∷ word ∷ codes "\",\"request\":" ∷ decimal request ∷ [])

-- the frame that carries a set
unfoldable pub data_fields : (request attempt : ℕ) → (octets : List ℕ) → List ℕ
data_fields request attempt octets =
    concat (
    request_fields (codes "data") request
    ∷ number_field (codes ",\"attempt\":") attempt
    ∷ octets_field octets
    ∷ []
    )

unfoldable pub app_fields : ℕ → Answer → List ℕ
app_fields request answer =
    concat (request_fields (codes "app") request ∷ codes ",\"answer\":\"" ∷ answer_word answer ∷ codes "\"" ∷ [])

abbrev pub frame_fields : Frame → List ℕ
frame_fields frame.Init = codes ",\"frame\":\"init\""
frame_fields (frame.Start request) = request_fields (codes "start") request
frame_fields (frame.Content request attempt octets) = data_fields request attempt octets
frame_fields (frame.Nack request) = request_fields (codes "nack") request
frame_fields (frame.Ack request) = request_fields (codes "ack") request
frame_fields (frame.App request answer) = app_fields request answer

unfoldable pub send_fields : End → ℕ → Frame → List ℕ
send_fields e call frame = concat (leg_fields (codes "send") e call ∷ frame_fields frame ∷ [])

-- the item's first word, and what the item has
abbrev pub note_fields : Note → List ℕ
note_fields (note.Dial attempt) = dial_fields (codes "dial") attempt
note_fields (note.Failed attempt) = dial_fields (codes "failed") attempt
note_fields note.GaveUp = item_field (codes "gaveup")
note_fields note.Seeking = item_field (codes "seeking")
note_fields note.Arming = item_field (codes "arming")
note_fields note.Cancelled = item_field (codes "cancelled")
note_fields note.Standby = item_field (codes "standby")
note_fields note.Idle = item_field (codes "idle")
note_fields note.Nothing = item_field (codes "nothing")
note_fields (note.Net up) = net_fields up
note_fields (note.Up e call) = leg_fields (codes "up") e call
note_fields (note.Down e call why) = down_fields e call why
note_fields (note.Voice e call up down) = voice_fields e call up down
note_fields (note.Send e call frame) = send_fields e call frame
note_fields (note.Shown call request octets) = set_fields (codes "shown") call request octets
note_fields (note.Acked call request octets) = set_fields (codes "acked") call request octets
note_fields (note.Ended e call timer) = ended_fields e call timer
note_fields (note.Fault e call) = leg_fields (codes "fault") e call
note_fields (note.Busy call) = call_fields (codes "busy") call
note_fields (note.Spent call) = call_fields (codes "spent") call
note_fields (note.Unshown call) = call_fields (codes "unshown") call
note_fields (note.Restart e) = restart_fields e

-- the object of an entry that stands in the line of this number, and a newline
unfoldable pub entry_object : ℕ → Entry → List ℕ
entry_object number entry =
    concat (
    codes "{\"line\":" ∷ decimal number
    ∷ codes ",\"tick\":" ∷ decimal entry.tick
    ∷ note_fields entry.note
    ∷ codes "}\n" ∷ []
    )
