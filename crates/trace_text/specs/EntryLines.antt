-- The entry that a line of a trace says, or why the line is refused. The words are judged from left to right: a word
-- that is missing, or one more behind the last, is a wrong count, in the place where it is found. This project's
-- profile. Cited by the contract of `read_entry`, and by the law that it reads exactly the lines that entries have.
use Rattle.std.specs.Prelude.{◌≡◌, ℕ, ◌^◌, ◌≤◌, ◌<◌, ◌==◌, ◌&&◌, ◌||◌, nat_le, Bool, List, [], ◌∷◌, length, Option, Some, None, Result, Ok, Err, if◌then◌else◌}
use Rattle.std.specs.List.{list_all}
use Rattle.std.specs.Str.{bytes_eq}
use Rattle.link_frames.specs.declared.frame.Answer.{Answer}
use Rattle.link_frames.specs.declared.frame.End.{End}
use Rattle.link_frames.specs.declared.frame.Frame.{Frame}
use Rattle.link_frames.specs.declared.frame.Frame.TheVariants as frame
use Rattle.link_frames.specs.declared.note.Note.{Note}
use Rattle.link_frames.specs.declared.note.Note.TheVariants as note
use Rattle.link_frames.specs.declared.note.Timer.{Timer}
use Rattle.link_frames.specs.declared.note.Why.{Why}
use Rattle.per_bits.specs.Parts.{AreOctets}
use Rattle.trace_text.specs.Choices.{direction, end_of}
use Rattle.trace_text.specs.EntryChoices.{answer_of, item_of, kind_of, timer_of, voice_of, why_of}
use Rattle.trace_text.specs.EntryLine.{spaced}
use Rattle.trace_text.specs.Hexadecimal.{octets_of}
use Rattle.line_input.specs.Numbers.{is_digit, natural_below, positive_below}
use Rattle.trace_text.specs.Summary.{summary_words}
use Rattle.line_input.specs.Words.{words}
use Rattle.trace_text.specs.declared.entries.kinds.FrameKind.{FrameKind}
use Rattle.trace_text.specs.declared.entries.kinds.FrameKind.TheVariants as kind
use Rattle.trace_text.specs.declared.entries.kinds.Item.{Item}
use Rattle.trace_text.specs.declared.entries.kinds.Item.TheVariants as item
use Rattle.trace_model.specs.declared.entry.Entry.{Entry}
use Rattle.line_input.specs.declared.reason.Reason.{Reason}
use Rattle.line_input.specs.declared.reason.Reason.TheVariants as reason

-- ---- one word after another

-- what a word says with the words behind it, or why the line is refused
abbrev pub Taken : Type 0 → Type 0
Taken A = Result (A × List (List ℕ)) Reason

-- what a word says, or the reason where it says nothing
abbrev pub judged : {A : Type 0} → Reason → Option A → List (List ℕ) → Taken A
judged why (Some value) rest = Ok (value, rest)
judged why None rest = Err why

-- what the next word says
abbrev pub taken : {A : Type 0} → Reason → (List ℕ → Option A) → List (List ℕ) → Taken A
taken why judge [] = Err reason.Count
taken why judge (word ∷ rest) = judged why (judge word) rest

-- what follows on what words said
abbrev pub followed : {A B : Type 0} → Taken A → (A → List (List ℕ) → Result B Reason) → Result B Reason
followed said more = elim said [ Ok found ↦ more found.0 found.1 | Err why ↦ Err why ]

-- what is made of it
abbrev pub made : {A B : Type 0} → (A → B) → Result A Reason → Result B Reason
made make (Ok value) = Ok (make value)
made make (Err why) = Err why

-- no word is left
abbrev pub no_more : List (List ℕ) → Result (Unit {0}) Reason
no_more [] = Ok tt
no_more (_ ∷ _) = Err reason.Count

-- nothing may follow on this
abbrev pub last : {A : Type 0} → A → List (List ℕ) → Result A Reason
last value left = made (λ _. value) (no_more left)

-- ---- the kinds of words

abbrev pub next_tick : List (List ℕ) → Taken ℕ
next_tick = taken reason.Number (natural_below (2 ^ 64))

abbrev pub next_call : List (List ℕ) → Taken ℕ
next_call = taken reason.Number (natural_below (2 ^ 32))

abbrev pub next_request : List (List ℕ) → Taken ℕ
next_request = taken reason.Number (positive_below 256)

-- the attempt of a frame that carries a set
abbrev pub next_attempt : List (List ℕ) → Taken ℕ
next_attempt = taken reason.Number (natural_below 256)

-- an attempt to dial, 1 to 10
abbrev pub next_dial : List (List ℕ) → Taken ℕ
next_dial = taken reason.Number (positive_below 11)

abbrev pub next_end : List (List ℕ) → Taken End
next_end = taken reason.Word end_of

abbrev pub next_why : List (List ℕ) → Taken Why
next_why = taken reason.Word why_of

abbrev pub next_voice : List (List ℕ) → Taken Bool
next_voice = taken reason.Word voice_of

abbrev pub next_net : List (List ℕ) → Taken Bool
next_net = taken reason.Word direction

abbrev pub next_answer : List (List ℕ) → Taken Answer
next_answer = taken reason.Word answer_of

abbrev pub next_timer : List (List ℕ) → Taken Timer
next_timer = taken reason.Word timer_of

abbrev pub next_kind : List (List ℕ) → Taken FrameKind
next_kind = taken reason.Word kind_of

abbrev pub next_item : List (List ℕ) → Taken Item
next_item = taken reason.Word item_of

-- a hexadecimal digit, lower case
abbrev pub is_lower_digit : ℕ → Bool
is_lower_digit c = is_digit c || (nat_le 97 c && nat_le c 102)

-- the 140 octets of a set, in lower-case hexadecimal
abbrev pub set_octets : List ℕ → Option (List ℕ)
set_octets text = if (length text == 280) && list_all is_lower_digit text then octets_of text else None

abbrev pub next_octets : List (List ℕ) → Taken (List ℕ)
next_octets = taken reason.Hex set_octets

-- an end and a call
abbrev pub next_leg : List (List ℕ) → Taken (End × ℕ)
next_leg left =
    followed (next_end left) (λ e left. followed (next_call left) (λ call left. Ok ((e, call), left)))

-- ---- frames

abbrev pub only_request : List (List ℕ) → Result ℕ Reason
only_request left = followed (next_request left) last

abbrev pub data_frame : List (List ℕ) → Result Frame Reason
data_frame left =
    followed (next_request left) (λ request left.
    followed (next_attempt left) (λ attempt left.
    followed (next_octets left) (λ octets left.
    last (frame.Content request attempt octets) left)))

abbrev pub app_frame : List (List ℕ) → Result Frame Reason
app_frame left =
    followed (next_request left) (λ request left.
    followed (next_answer left) (λ answer left.
    last (frame.App request answer) left))

-- a frame of a kind, by the words behind that of its kind
abbrev pub frame_of : FrameKind → List (List ℕ) → Result Frame Reason
frame_of kind.Init left = last frame.Init left
frame_of kind.Start left = made frame.Start (only_request left)
frame_of kind.Data left = data_frame left
frame_of kind.Nack left = made frame.Nack (only_request left)
frame_of kind.Ack left = made frame.Ack (only_request left)
frame_of kind.App left = app_frame left

abbrev pub frame_by_words : List (List ℕ) → Result Frame Reason
frame_by_words left = followed (next_kind left) frame_of

-- ---- items

abbrev pub only_dial : List (List ℕ) → Result ℕ Reason
only_dial left = followed (next_dial left) last

abbrev pub net_note : List (List ℕ) → Result Note Reason
net_note left = followed (next_net left) (λ up left. last (note.Net up) left)

abbrev pub restart_note : List (List ℕ) → Result Note Reason
restart_note left = followed (next_end left) (λ e left. last (note.Restart e) left)

abbrev pub only_leg : List (List ℕ) → Result (End × ℕ) Reason
only_leg left = followed (next_leg left) last

-- an item that has a leg alone
abbrev pub leg_note : (End → ℕ → Note) → List (List ℕ) → Result Note Reason
leg_note make left = made (λ leg. make leg.0 leg.1) (only_leg left)

abbrev pub down_note : List (List ℕ) → Result Note Reason
down_note left =
    followed (next_leg left) (λ leg left.
    followed (next_why left) (λ why left.
    last (note.Down leg.0 leg.1 why) left))

abbrev pub voice_note : List (List ℕ) → Result Note Reason
voice_note left =
    followed (next_leg left) (λ leg left.
    followed (next_voice left) (λ up left.
    followed (next_voice left) (λ down left.
    last (note.Voice leg.0 leg.1 up down) left)))

abbrev pub send_note : List (List ℕ) → Result Note Reason
send_note left = followed (next_leg left) (λ leg left. made (note.Send leg.0 leg.1) (frame_by_words left))

abbrev pub ended_note : List (List ℕ) → Result Note Reason
ended_note left =
    followed (next_leg left) (λ leg left.
    followed (next_timer left) (λ timer left.
    last (note.Ended leg.0 leg.1 timer) left))

abbrev pub only_call : List (List ℕ) → Result ℕ Reason
only_call left = followed (next_call left) last

-- a call, a request and the octets of a set
abbrev pub next_set : List (List ℕ) → Taken (ℕ × ℕ × List ℕ)
next_set left =
    followed (next_call left) (λ call left.
    followed (next_request left) (λ request left.
    followed (next_octets left) (λ octets left.
    Ok ((call, request, octets), left))))

abbrev pub acked_note : List (List ℕ) → Result Note Reason
acked_note left = followed (next_set left) (λ set left. last (note.Acked set.0 set.1 set.2) left)

-- the words behind the octets of a set that is shown are those of its summary
abbrev pub summed : {A : Type 0} → A → List ℕ → List (List ℕ) → Result A Reason
summed value octets left =
    if bytes_eq (spaced (summary_words octets)) (spaced left) then Ok value else Err reason.Word

abbrev pub shown_note : List (List ℕ) → Result Note Reason
shown_note left = followed (next_set left) (λ set left. summed (note.Shown set.0 set.1 set.2) set.2 left)

-- an item, by the words behind its first one
abbrev pub note_of : Item → List (List ℕ) → Result Note Reason
note_of item.Dial left = made note.Dial (only_dial left)
note_of item.Failed left = made note.Failed (only_dial left)
note_of item.GaveUp left = last note.GaveUp left
note_of item.Seeking left = last note.Seeking left
note_of item.Arming left = last note.Arming left
note_of item.Cancelled left = last note.Cancelled left
note_of item.Standby left = last note.Standby left
note_of item.Idle left = last note.Idle left
note_of item.Nothing left = last note.Nothing left
note_of item.Net left = net_note left
note_of item.Up left = leg_note note.Up left
note_of item.Down left = down_note left
note_of item.Voice left = voice_note left
note_of item.Send left = send_note left
note_of item.Shown left = shown_note left
note_of item.Acked left = acked_note left
note_of item.Ended left = ended_note left
note_of item.Fault left = leg_note note.Fault left
note_of item.Busy left = made note.Busy (only_call left)
note_of item.Spent left = made note.Spent (only_call left)
note_of item.Unshown left = made note.Unshown (only_call left)
note_of item.Restart left = restart_note left

abbrev pub note_by_words : List (List ℕ) → Result Note Reason
note_by_words left = followed (next_item left) note_of

-- ---- the line

abbrev pub entry_by_words : List (List ℕ) → Result Entry Reason
entry_by_words left =
    followed (next_tick left) (λ tick left. made (λ n. record { tick = tick; note = n }) (note_by_words left))

-- the entry that a line says, or why it is refused; whether its tick may follow on another is not judged
unfoldable pub entry_of : List ℕ → Result Entry Reason
entry_of text = entry_by_words (words text)

-- ---- what the types of an entry keep

abbrev pub IsCall : ℕ → Type 0
IsCall call = call < 2 ^ 32

abbrev pub IsRequest : ℕ → Type 0
IsRequest request = (0 < request) × (request < 256)

abbrev pub IsDial : ℕ → Type 0
IsDial attempt = (0 < attempt) × (attempt ≤ 10)

abbrev pub IsSet : List ℕ → Type 0
IsSet octets = (length octets ≡ 140) × AreOctets octets

abbrev pub IsFrame : Frame → Type 0
IsFrame frame.Init = Unit {0}
IsFrame (frame.Start request) = IsRequest request
IsFrame (frame.Content request attempt octets) = IsRequest request × (attempt < 256) × IsSet octets
IsFrame (frame.Nack request) = IsRequest request
IsFrame (frame.Ack request) = IsRequest request
IsFrame (frame.App request answer) = IsRequest request

abbrev pub IsNote : Note → Type 0
IsNote (note.Dial attempt) = IsDial attempt
IsNote (note.Failed attempt) = IsDial attempt
IsNote (note.Up e call) = IsCall call
IsNote (note.Down e call why) = IsCall call
IsNote (note.Voice e call up down) = IsCall call
IsNote (note.Send e call frame) = IsCall call × IsFrame frame
IsNote (note.Shown call request octets) = IsCall call × IsRequest request × IsSet octets
IsNote (note.Acked call request octets) = IsCall call × IsRequest request × IsSet octets
IsNote (note.Ended e call timer) = IsCall call
IsNote (note.Fault e call) = IsCall call
IsNote (note.Busy call) = IsCall call
IsNote (note.Spent call) = IsCall call
IsNote (note.Unshown call) = IsCall call
IsNote _ = Unit {0}

-- the ranges that the types of an entry keep: each entry is so
unfoldable pub IsEntry : Entry → Type 0
IsEntry entry = (entry.tick < 2 ^ 64) × IsNote entry.note
