-- Frames and items as the flat structs that C sees, and the session that C keeps. Cited by the exports of the two ends.
use Rattle.std.specs.Prelude.{◌≡◌, ◌≤◌, ◌<◌, ◌==◌, ◌⊎◌, if◌then◌else◌, ℕ, Bool, false, List, length, take, map, replicate}
use Rattle.link_frames.specs.declared.frame.End.{End}
use Rattle.link_frames.specs.declared.frame.End.TheVariants as «end»
use Rattle.link_frames.specs.declared.frame.Answer.{Answer}
use Rattle.link_frames.specs.declared.frame.Answer.TheVariants as answer
use Rattle.link_frames.specs.declared.frame.Frame.{Frame}
use Rattle.link_frames.specs.declared.frame.Frame.TheVariants as frame
use Rattle.link_frames.specs.declared.note.Note.{Note}
use Rattle.link_frames.specs.declared.note.Note.TheVariants as note
use Rattle.link_frames.specs.declared.note.Why.{Why}
use Rattle.link_frames.specs.declared.note.Why.TheVariants as why
use Rattle.link_frames.specs.declared.note.Timer.{Timer}
use Rattle.link_frames.specs.declared.note.Timer.TheVariants as timer
use Rattle.ecall_c.specs.declared.frame.EcallFrame.{EcallFrame}
use Rattle.ecall_c.specs.declared.frame.EcallItem.{EcallItem}
use Rattle.ecall_c.specs.declared.frame.EcallItems.{EcallItems}

abbrev pub IsFrame : EcallFrame → Type 0
IsFrame f = (f.kind ≡ 0) ⊎ ((f.kind ≤ 6) × (0 < f.request))

abbrev pub frame_of : EcallFrame → Frame
frame_of f =
    if f.kind == 0 then frame.Init else (
    if f.kind == 1 then frame.Start f.request else (
    if f.kind == 2 then frame.Content f.request f.attempt f.octets else (
    if f.kind == 3 then frame.Nack f.request else (
    if f.kind == 4 then frame.Ack f.request else (
    if f.kind == 5 then frame.App f.request answer.Positive else frame.App f.request answer.Clear)))))

abbrev pub no_octets : List ℕ
no_octets = replicate 140 0

abbrev pub flat : ℕ → ℕ → ℕ → List ℕ → EcallFrame
flat kind request attempt octets = record { kind = kind; request = request; attempt = attempt; octets = octets }

abbrev pub flat_app : ℕ → Answer → EcallFrame
flat_app r answer.Positive = flat 5 r 0 no_octets
flat_app r answer.Clear = flat 6 r 0 no_octets

abbrev pub flat_frame : Frame → EcallFrame
flat_frame frame.Init = flat 0 0 0 no_octets
flat_frame (frame.Start r) = flat 1 r 0 no_octets
flat_frame (frame.Content r attempt octets) = flat 2 r attempt octets
flat_frame (frame.Nack r) = flat 3 r 0 no_octets
flat_frame (frame.Ack r) = flat 4 r 0 no_octets
flat_frame (frame.App r a) = flat_app r a

abbrev pub end_code : End → ℕ
end_code «end».Vehicle = 0
end_code «end».Point = 1

abbrev pub why_code : Why → ℕ
why_code why.Release = 0
why_code why.Hangup = 1
why_code why.Lost = 2

abbrev pub timer_code : Timer → ℕ
timer_code timer.T1 = 1
timer_code timer.T2 = 2
timer_code timer.T3 = 3
timer_code timer.T4 = 4
timer_code timer.T5 = 5
timer_code timer.T6 = 6
timer_code timer.T7 = 7
timer_code timer.T8 = 8
timer_code timer.T10 = 10
timer_code timer.TD = 11
timer_code timer.TW = 12
timer_code timer.Sum = 13

abbrev pub no_frame : EcallFrame
no_frame = flat 0 0 0 no_octets

abbrev pub full : ℕ → ℕ → ℕ → ℕ → Bool → Bool → EcallFrame → EcallItem
full kind call at_point number up down f =
    record {
      call = call;
      kind = kind;
      at_point = at_point;
      number = number;
      up = up;
      down = down;
      frame = f;
    }

abbrev pub bare : ℕ → ℕ → ℕ → ℕ → EcallItem
bare kind call at_point number = full kind call at_point number false false no_frame

abbrev pub flat_item : Note → EcallItem
flat_item note.Nothing = bare 0 0 0 0
flat_item (note.Dial n) = bare 1 0 0 n
flat_item (note.Failed n) = bare 2 0 0 n
flat_item note.GaveUp = bare 3 0 0 0
flat_item note.Seeking = bare 4 0 0 0
flat_item note.Arming = bare 5 0 0 0
flat_item note.Cancelled = bare 6 0 0 0
flat_item note.Standby = bare 7 0 0 0
flat_item note.Idle = bare 8 0 0 0
flat_item (note.Net b) = full 9 0 0 0 b false no_frame
flat_item (note.Up e c) = bare 10 c (end_code e) 0
flat_item (note.Down e c w) = bare 11 c (end_code e) (why_code w)
flat_item (note.Voice e c up down) = full 12 c (end_code e) 0 up down no_frame
flat_item (note.Send e c f) = full 13 c (end_code e) 0 false false (flat_frame f)
flat_item (note.Shown c r octets) = full 14 c 1 0 false false (flat 2 r 0 octets)
flat_item (note.Acked c r octets) = full 15 c 0 0 false false (flat 2 r 0 octets)
flat_item (note.Ended e c t) = bare 16 c (end_code e) (timer_code t)
flat_item (note.Fault e c) = bare 17 c (end_code e) 0
flat_item (note.Busy c) = bare 18 c 0 0
flat_item (note.Spent c) = bare 19 c 0 0
flat_item (note.Unshown c) = bare 20 c 0 0
flat_item (note.Restart e) = bare 21 0 (end_code e) 0

-- the struct holds these items at its front
pub record AreItems (held : EcallItems) (notes : List Note) : Type 0 where
  pub count : held.count ≡ length notes
  pub items : take held.count held.items ≡ map flat_item notes
