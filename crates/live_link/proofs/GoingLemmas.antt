-- How a run goes on behind an octet, a message and a line, and how it ends.
use Rattle.std.specs.Prelude.{◌≡◌, ℕ, Bool, true, false, List, Option, Some, None, Ok, Err, ◌==◌, ◌&&◌, length, if◌then◌else◌}
use Rattle.std.proofs.Common.{refl, inl, inr, arith}
use Rattle.line_input.specs.Reading.{Reading, ReadsLine}
use Rattle.link_parts.specs.MessageReading.{TakesTo}
use Rattle.link_parts.specs.PartReading.{IsGoing}
use Rattle.link_frames.specs.declared.frame.End.{End}
use Rattle.link_frames.specs.declared.frame.End.TheVariants as «end»
use Rattle.link_parts.specs.Messages.{message_end}
use Rattle.link_parts.specs.Rounds.{Next, More, Whole, Wrong, Taken, GoesOn, Gives, EndsMessage, EndsScript, Stops, next_part, take_octet, with_part}
use Rattle.link_parts.specs.declared.message_reader.MessageReader.{MessageReader}
use Rattle.link_parts.specs.declared.message_reader.Taking.{Taking}
use Rattle.link_parts.specs.declared.message_reader.Taking.TheVariants as taking
use Rattle.link_parts.specs.declared.part.Part.{Part}
use Rattle.live_link.specs.LiveCauses.{LiveWriteCause}
use Rattle.live_link.specs.declared.answer.LiveStatus.{LiveStatus}
use Rattle.live_link.specs.declared.answer.LiveStatus.TheVariants as status
use Rattle.live_link.specs.declared.receiver.Came.{Came}
use Rattle.live_link.specs.declared.receiver.Came.TheVariants as came
use Rattle.live_link.specs.declared.receiver.Receiver.{Receiver}
use Rattle.live_link.specs.inner.Going.{FindsLine, MayEnd, MayGoOn, MayReceive, MayTake, Notes, IsOfLink, IsOfRound, IsOfSending, IsOfWriting, ReadCause, WriteCause}

-- what doesn't end a message, and isn't in place of one, is no end of a script
not_script_end : (ends : Bool) (kept : List ℕ) (o : ℕ) (next : Next Part)
    → EndsScript ≡ (if ends then EndsMessage else with_part kept o next) → ⊥
not_script_end true kept o next h = cc
not_script_end false kept o More h = cc
not_script_end false kept o (Whole part) h = cc
not_script_end false kept o (Wrong fault) h = cc

-- the vehicle reads no end of a script
ends_at_point : (e : End) (none : Bool) (kept : List ℕ) (o : ℕ) → EndsScript ≡ take_octet e none kept o → MayEnd e
ends_at_point «end».Vehicle none kept o h =
    not_script_end ((length kept == 0) && (o == message_end)) kept o (next_part «end».Vehicle kept o) h
ends_at_point «end».Point none kept o h = tt

-- behind an octet that a message goes on with, a further one may be taken
pub takes_on : (e : End) (none : Bool) (kept : List ℕ) (o : ℕ) (t : Taken) → t ≡ take_octet e none kept o
    → (old : MessageReader) (r : Receiver) (given : Taking) → TakesTo t old (Ok given) r.reader → MayTake given e r
takes_on e none kept o (GoesOn more) is old r taking.GoesOn h = h.2
takes_on e none kept o (Gives part) is old r (taking.Part p) h = h.3
takes_on e none kept o EndsMessage is old r taking.Message h = h.going
takes_on e none kept o EndsScript is old r taking.ScriptEnd h = ends_at_point e none kept o is
takes_on e none kept o (Gives part) is old r taking.GoesOn h = absurd h
takes_on e none kept o EndsMessage is old r taking.GoesOn h = absurd h
takes_on e none kept o EndsScript is old r taking.GoesOn h = absurd h
takes_on e none kept o (Stops f) is old r taking.GoesOn h = absurd h
takes_on e none kept o (GoesOn more) is old r (taking.Part p) h = absurd h
takes_on e none kept o EndsMessage is old r (taking.Part p) h = absurd h
takes_on e none kept o EndsScript is old r (taking.Part p) h = absurd h
takes_on e none kept o (Stops f) is old r (taking.Part p) h = absurd h
takes_on e none kept o (GoesOn more) is old r taking.Message h = absurd h
takes_on e none kept o (Gives part) is old r taking.Message h = absurd h
takes_on e none kept o EndsScript is old r taking.Message h = absurd h
takes_on e none kept o (Stops f) is old r taking.Message h = absurd h
takes_on e none kept o (GoesOn more) is old r taking.ScriptEnd h = absurd h
takes_on e none kept o (Gives part) is old r taking.ScriptEnd h = absurd h
takes_on e none kept o EndsMessage is old r taking.ScriptEnd h = absurd h
takes_on e none kept o (Stops f) is old r taking.ScriptEnd h = absurd h

-- behind an octet that was noted, the message goes on, or another may be read
pub notes_on : (e : End) (given : Taking) (parts parts' : List Part) (r : Receiver) (answer : Option Came)
    → Notes given parts parts' (Ok answer) → MayTake given e r → MayGoOn answer e r
notes_on e taking.GoesOn parts parts' r None h k = k
notes_on e (taking.Part p) parts parts' r None h k = k
notes_on e taking.Message parts parts' r (Some came.Message) h k = k
notes_on e taking.ScriptEnd parts parts' r (Some came.ScriptEnd) h k = k
notes_on e taking.GoesOn parts parts' r (Some c) h k = absurd h
notes_on e (taking.Part p) parts parts' r (Some c) h k = absurd h
notes_on e taking.Message parts parts' r None h k = absurd h
notes_on e taking.Message parts parts' r (Some came.ScriptEnd) h k = absurd h
notes_on e taking.ScriptEnd parts parts' r None h k = absurd h
notes_on e taking.ScriptEnd parts parts' r (Some came.Message) h k = absurd h

-- what can't be noted is for want of memory
pub notes_fail : (given : Taking) (parts parts' : List Part) (how : LiveStatus)
    → Notes given parts parts' (Err how) → how ≡ status.Memory
notes_fail (taking.Part p) parts parts' status.Memory h = refl
notes_fail taking.GoesOn parts parts' how h = absurd h
notes_fail taking.Message parts parts' how h = absurd h
notes_fail taking.ScriptEnd parts parts' how h = absurd h
notes_fail (taking.Part p) parts parts' status.Done h = absurd h
notes_fail (taking.Part p) parts parts' (status.Refused b) h = absurd h
notes_fail (taking.Part p) parts parts' status.ReadFault h = absurd h
notes_fail (taking.Part p) parts parts' status.WriteFault h = absurd h
notes_fail (taking.Part p) parts parts' status.TooLong h = absurd h
notes_fail (taking.Part p) parts parts' status.PeerEnded h = absurd h
notes_fail (taking.Part p) parts parts' status.LinkCut h = absurd h
notes_fail (taking.Part p) parts parts' (status.LinkFault f) h = absurd h
notes_fail (taking.Part p) parts parts' status.NoLink h = absurd h

-- a read that ended a run wrote nothing
pub link_unwritten : (how : LiveStatus) (o p : ℕ) → IsOfLink how → LiveWriteCause how o o p p
link_unwritten status.LinkCut o p h = (refl, refl)
link_unwritten (status.LinkFault f) o p h = (refl, refl)
link_unwritten status.ReadFault o p h = (refl, refl)
link_unwritten status.TooLong o p h = (refl, refl)
link_unwritten status.Memory o p h = (refl, refl)
link_unwritten status.Done o p h = absurd h
link_unwritten (status.Refused b) o p h = absurd h
link_unwritten status.WriteFault o p h = absurd h
link_unwritten status.PeerEnded o p h = absurd h
link_unwritten status.NoLink o p h = absurd h

-- a write that ended a run read nothing
pub sending_unread : (how : LiveStatus) (i : ℕ) → IsOfSending how → ReadCause how i i
sending_unread status.WriteFault i h = refl
sending_unread status.Memory i h = refl
sending_unread status.Done i h = absurd h
sending_unread (status.Refused b) i h = absurd h
sending_unread status.ReadFault i h = absurd h
sending_unread status.TooLong i h = absurd h
sending_unread status.PeerEnded i h = absurd h
sending_unread status.LinkCut i h = absurd h
sending_unread (status.LinkFault f) i h = absurd h
sending_unread status.NoLink i h = absurd h

-- of two sinks, one alone was written
pub first_unwritten : (how : LiveStatus) (o o' p : ℕ) → WriteCause how o o' → LiveWriteCause how o o' p p
first_unwritten status.WriteFault o o' p h = inl h
first_unwritten status.Memory o o' p h = (h, refl)
first_unwritten status.Done o o' p h = (h, refl)
first_unwritten (status.Refused b) o o' p h = (h, refl)
first_unwritten status.ReadFault o o' p h = (h, refl)
first_unwritten status.TooLong o o' p h = (h, refl)
first_unwritten status.PeerEnded o o' p h = (h, refl)
first_unwritten status.LinkCut o o' p h = (h, refl)
first_unwritten (status.LinkFault f) o o' p h = (h, refl)
first_unwritten status.NoLink o o' p h = (h, refl)

pub second_unwritten : (how : LiveStatus) (o p p' : ℕ) → WriteCause how p p' → LiveWriteCause how o o p p'
second_unwritten status.WriteFault o p p' h = inr h
second_unwritten status.Memory o p p' h = (refl, h)
second_unwritten status.Done o p p' h = (refl, h)
second_unwritten (status.Refused b) o p p' h = (refl, h)
second_unwritten status.ReadFault o p p' h = (refl, h)
second_unwritten status.TooLong o p p' h = (refl, h)
second_unwritten status.PeerEnded o p p' h = (refl, h)
second_unwritten status.LinkCut o p p' h = (refl, h)
second_unwritten (status.LinkFault f) o p p' h = (refl, h)
second_unwritten status.NoLink o p p' h = (refl, h)

-- a line that was found is one more
pub finds_line : (old new : Reading) (left left' : Option (List ℕ)) (found : Bool)
    → ReadsLine old new left left' (Ok found) → FindsLine old new (Ok found)
finds_line old new left left' true h =
    (h.finds.0.says, (h.finds.1, omega (arith, h.finds.0.last), omega (arith, h.few, h.limit)))
finds_line old new left left' false h = h.finds.1

-- behind a message that the vehicle reads, a further one may be read
pub vehicle_reads_on : (came : Came) (r : Receiver) → MayReceive came «end».Vehicle r → IsGoing r.reader.reader
vehicle_reads_on came.Message r h = h
vehicle_reads_on came.ScriptEnd r h = absurd h

pub link_of_round : (how : LiveStatus) → IsOfLink how → IsOfRound how
link_of_round status.LinkCut h = tt
link_of_round (status.LinkFault f) h = tt
link_of_round status.ReadFault h = tt
link_of_round status.TooLong h = tt
link_of_round status.Memory h = tt
link_of_round status.WriteFault h = tt
link_of_round status.Done h = absurd h
link_of_round (status.Refused b) h = absurd h
link_of_round status.PeerEnded h = absurd h
link_of_round status.NoLink h = absurd h

pub writing_of_round : (how : LiveStatus) → IsOfWriting how → IsOfRound how
writing_of_round status.WriteFault h = tt
writing_of_round status.Done h = absurd h
writing_of_round (status.Refused b) h = absurd h
writing_of_round status.ReadFault h = absurd h
writing_of_round status.Memory h = absurd h
writing_of_round status.TooLong h = absurd h
writing_of_round status.PeerEnded h = absurd h
writing_of_round status.LinkCut h = absurd h
writing_of_round (status.LinkFault f) h = absurd h
writing_of_round status.NoLink h = absurd h

-- handing over reads nothing
pub writing_unread : (how : LiveStatus) (i : ℕ) → IsOfWriting how → ReadCause how i i
writing_unread status.WriteFault i h = refl
writing_unread status.Done i h = absurd h
writing_unread (status.Refused b) i h = absurd h
writing_unread status.ReadFault i h = absurd h
writing_unread status.Memory i h = absurd h
writing_unread status.TooLong i h = absurd h
writing_unread status.PeerEnded i h = absurd h
writing_unread status.LinkCut i h = absurd h
writing_unread (status.LinkFault f) i h = absurd h
writing_unread status.NoLink i h = absurd h
