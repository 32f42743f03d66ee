-- The words of an entry's line that are one of a few. This project's profile. Cited by the definition of the entry that
-- a line says.
use Rattle.std.specs.Prelude.{ℕ, Bool, true, false, List, codes, Option, Some, None, if◌then◌else◌}
use Rattle.std.specs.Option.{option_or}
use Rattle.std.specs.Str.{bytes_eq}
use Rattle.link_frames.specs.declared.frame.Answer.{Answer}
use Rattle.link_frames.specs.declared.frame.Answer.TheVariants as answer
use Rattle.link_frames.specs.declared.note.Timer.{Timer}
use Rattle.link_frames.specs.declared.note.Timer.TheVariants as timer
use Rattle.link_frames.specs.declared.note.Why.{Why}
use Rattle.link_frames.specs.declared.note.Why.TheVariants as why
use Rattle.trace_text.specs.declared.entries.kinds.Item.{Item}
use Rattle.trace_text.specs.declared.entries.kinds.Item.TheVariants as item
use Rattle.trace_text.specs.declared.entries.kinds.FrameKind.{FrameKind}
use Rattle.trace_text.specs.declared.entries.kinds.FrameKind.TheVariants as kind

-- why a leg went down
abbrev pub why_of : List ℕ → Option Why
why_of text =
    if bytes_eq text (codes "release") then Some why.Release
    else if bytes_eq text (codes "hangup") then Some why.Hangup
    else if bytes_eq text (codes "lost") then Some why.Lost
    else None

-- one direction of the voice
abbrev pub voice_of : List ℕ → Option Bool
voice_of text =
    if bytes_eq text (codes "open") then Some true else if bytes_eq text (codes "muted") then Some false else None

abbrev pub answer_of : List ℕ → Option Answer
answer_of text =
    if bytes_eq text (codes "positive") then Some answer.Positive
    else if bytes_eq text (codes "clear") then Some answer.Clear
    else None

abbrev pub first_timer : List ℕ → Option Timer
first_timer text =
    if bytes_eq text (codes "T1") then Some timer.T1
    else if bytes_eq text (codes "T2") then Some timer.T2
    else if bytes_eq text (codes "T3") then Some timer.T3
    else if bytes_eq text (codes "T4") then Some timer.T4
    else if bytes_eq text (codes "T5") then Some timer.T5
    else if bytes_eq text (codes "T6") then Some timer.T6
    else None

abbrev pub last_timer : List ℕ → Option Timer
last_timer text =
    if bytes_eq text (codes "T7") then Some timer.T7
    else if bytes_eq text (codes "T8") then Some timer.T8
    else if bytes_eq text (codes "T10") then Some timer.T10
    else if bytes_eq text (codes "TD") then Some timer.TD
    else if bytes_eq text (codes "TW") then Some timer.TW
    else if bytes_eq text (codes "sum") then Some timer.Sum
    else None

abbrev pub timer_of : List ℕ → Option Timer
timer_of text = option_or (first_timer text) (last_timer text)

abbrev pub kind_of : List ℕ → Option FrameKind
kind_of text =
    if bytes_eq text (codes "data") then Some kind.Data
    else if bytes_eq text (codes "init") then Some kind.Init
    else if bytes_eq text (codes "start") then Some kind.Start
    else if bytes_eq text (codes "nack") then Some kind.Nack
    else if bytes_eq text (codes "ack") then Some kind.Ack
    else if bytes_eq text (codes "app") then Some kind.App
    else None

-- an item of a leg, by its first word
abbrev pub leg_item : List ℕ → Option Item
leg_item text =
    if bytes_eq text (codes "send") then Some item.Send
    else if bytes_eq text (codes "ended") then Some item.Ended
    else if bytes_eq text (codes "voice") then Some item.Voice
    else if bytes_eq text (codes "up") then Some item.Up
    else if bytes_eq text (codes "down") then Some item.Down
    else if bytes_eq text (codes "fault") then Some item.Fault
    else None

-- an item of a call
abbrev pub call_item : List ℕ → Option Item
call_item text =
    if bytes_eq text (codes "shown") then Some item.Shown
    else if bytes_eq text (codes "acked") then Some item.Acked
    else if bytes_eq text (codes "busy") then Some item.Busy
    else if bytes_eq text (codes "spent") then Some item.Spent
    else if bytes_eq text (codes "unshown") then Some item.Unshown
    else None

-- an item of a vehicle that is about to call, or of its network
abbrev pub dial_item : List ℕ → Option Item
dial_item text =
    if bytes_eq text (codes "dial") then Some item.Dial
    else if bytes_eq text (codes "failed") then Some item.Failed
    else if bytes_eq text (codes "net") then Some item.Net
    else if bytes_eq text (codes "gaveup") then Some item.GaveUp
    else if bytes_eq text (codes "seeking") then Some item.Seeking
    else None

-- any other item
abbrev pub rest_item : List ℕ → Option Item
rest_item text =
    if bytes_eq text (codes "arming") then Some item.Arming
    else if bytes_eq text (codes "cancelled") then Some item.Cancelled
    else if bytes_eq text (codes "standby") then Some item.Standby
    else if bytes_eq text (codes "idle") then Some item.Idle
    else if bytes_eq text (codes "nothing") then Some item.Nothing
    else if bytes_eq text (codes "restart") then Some item.Restart
    else None

abbrev pub vehicle_item : List ℕ → Option Item
vehicle_item text = option_or (dial_item text) (rest_item text)

abbrev pub other_item : List ℕ → Option Item
other_item text = option_or (call_item text) (vehicle_item text)

-- which item a line has, by the item's first word
unfoldable pub item_of : List ℕ → Option Item
item_of text = option_or (leg_item text) (other_item text)
