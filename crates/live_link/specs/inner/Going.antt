-- What a step of a run answers where the run ends with it, and when a further line or message may be read. Cited by
-- private contracts alone.
use Rattle.std.specs.Prelude.{◌≡◌, ℕ, ◌<◌, ◌≤◌, Bool, true, false, List, [], ◌∷◌, ◌++◌, Option, Some, None, Result, Ok, Err}
use Rattle.call_io.specs.Counts.{Rose}
use Rattle.line_input.specs.Lines.{IsLine, most_bytes}
use Rattle.line_input.specs.Reading.{Reading}
use Rattle.line_input.specs.declared.fault.LineFault.{LineFault}
use Rattle.line_input.specs.declared.fault.LineFault.TheVariants as fault
use Rattle.link_frames.specs.declared.frame.End.{End}
use Rattle.link_frames.specs.declared.frame.End.TheVariants as «end»
use Rattle.link_parts.specs.PartReading.{IsGoing}
use Rattle.link_parts.specs.declared.message_reader.Taking.{Taking}
use Rattle.link_parts.specs.declared.message_reader.Taking.TheVariants as taking
use Rattle.link_parts.specs.declared.part.Part.{Part}
use Rattle.live_link.specs.EndFault.{EndFaultCause}
use Rattle.live_link.specs.LiveCauses.{LiveReadCause, LiveWriteCause}
use Rattle.live_link.specs.declared.answer.LiveStatus.{LiveStatus}
use Rattle.live_link.specs.declared.answer.LiveStatus.TheVariants as status
use Rattle.live_link.specs.declared.fault.EndFault.{EndFault}
use Rattle.live_link.specs.declared.fault.EndFault.TheVariants as end_fault
use Rattle.live_link.specs.declared.receiver.Came.{Came}
use Rattle.live_link.specs.declared.receiver.Came.TheVariants as came
use Rattle.live_link.specs.declared.receiver.Receiver.{Receiver}

-- how a run ends where nothing could be read
abbrev pub halt_of : LineFault → LiveStatus
halt_of (fault.Bad bad) = status.Refused bad
halt_of fault.ReadFault = status.ReadFault
halt_of fault.TooLong = status.TooLong

-- how a run ends where a step of an end failed
abbrev pub failed_of : EndFault → LiveStatus
failed_of end_fault.Write = status.WriteFault
failed_of end_fault.Memory = status.Memory

-- A failed read comes only where the count rose, and any other answer only where it stood.
abbrev pub ReadCause : LiveStatus → (old new : ℕ) → Type 0
ReadCause status.ReadFault old new = Rose old new
ReadCause _ old new = new ≡ old

abbrev pub WriteCause : LiveStatus → (old new : ℕ) → Type 0
WriteCause status.WriteFault old new = Rose old new
WriteCause _ old new = new ≡ old

-- the same of a step that may go on
abbrev pub Unread : {A : Type 0} → Result A LiveStatus → (old new : ℕ) → Type 0
Unread (Ok _) old new = new ≡ old
Unread (Err how) old new = ReadCause how old new

abbrev pub Unwritten : {A : Type 0} → Result A LiveStatus → (old new : ℕ) → Type 0
Unwritten (Ok _) old new = new ≡ old
Unwritten (Err how) old new = WriteCause how old new

abbrev pub EndUnwritten : Result Unit EndFault → (old new : ℕ) → Type 0
EndUnwritten (Ok _) old new = new ≡ old
EndUnwritten (Err fault) old new = EndFaultCause fault old new

-- of two sinks
abbrev pub UnwrittenBoth : {A : Type 0} → Result A LiveStatus → (old new other_old other_new : ℕ) → Type 0
UnwrittenBoth (Ok _) old new other_old other_new = (new ≡ old) × (other_new ≡ other_old)
UnwrittenBoth (Err how) old new other_old other_new = LiveWriteCause how old new other_old other_new

-- of two sources
abbrev pub UnreadBoth : {A : Type 0} → Result A LiveStatus → (old new other_old other_new : ℕ) → Type 0
UnreadBoth (Ok _) old new other_old other_new = (new ≡ old) × (other_new ≡ other_old)
UnreadBoth (Err how) old new other_old other_new = LiveReadCause how old new other_old other_new

-- how a run ends where no message could be read
abbrev pub IsOfLink : LiveStatus → Type 0
IsOfLink status.LinkCut = Unit {0}
IsOfLink (status.LinkFault fault) = Unit {0}
IsOfLink status.ReadFault = Unit {0}
IsOfLink status.TooLong = Unit {0}
IsOfLink status.Memory = Unit {0}
IsOfLink _ = ⊥

-- how a run ends where an octet is none of a message
abbrev pub IsOfOctet : LiveStatus → Type 0
IsOfOctet (status.LinkFault fault) = Unit {0}
IsOfOctet _ = ⊥

-- how a run ends where something could not be written
abbrev pub IsOfWriting : LiveStatus → Type 0
IsOfWriting status.WriteFault = Unit {0}
IsOfWriting _ = ⊥

-- how a run ends where a message could not be made, or not be written
abbrev pub IsOfSending : LiveStatus → Type 0
IsOfSending status.WriteFault = Unit {0}
IsOfSending status.Memory = Unit {0}
IsOfSending _ = ⊥

-- how a run ends where a line is refused
abbrev pub IsOfLine : LiveStatus → Type 0
IsOfLine (status.Refused bad) = Unit {0}
IsOfLine _ = ⊥

-- how a run ends where a line could not be read, or not be handed over before
abbrev pub IsOfScript : LiveStatus → Type 0
IsOfScript (status.Refused bad) = Unit {0}
IsOfScript status.ReadFault = Unit {0}
IsOfScript status.WriteFault = Unit {0}
IsOfScript status.TooLong = Unit {0}
IsOfScript _ = ⊥

-- how a run ends in a round
abbrev pub IsOfRound : LiveStatus → Type 0
IsOfRound status.WriteFault = Unit {0}
IsOfRound how = IsOfLink how

-- a step that ends the run so may go on, or answers one of these
abbrev pub Answers : {A : Type 0} → (LiveStatus → Type 0) → Result A LiveStatus → Type 0
Answers may (Ok _) = Unit {0}
Answers may (Err how) = may how

-- whether the other end's script may be at its end, in place of a message: the vehicle never reads that
abbrev pub MayEnd : End → Type 0
MayEnd «end».Vehicle = ⊥
MayEnd «end».Point = Unit {0}

-- behind these, a further octet may be taken
abbrev pub MayTake : Taking → End → Receiver → Type 0
MayTake taking.ScriptEnd e r = MayEnd e
MayTake _ e r = IsGoing r.reader.reader

-- behind a message, a further one may be read
abbrev pub MayReceive : Came → End → Receiver → Type 0
MayReceive came.Message e r = IsGoing r.reader.reader
MayReceive came.ScriptEnd e r = MayEnd e

-- a message that goes on, or what came
abbrev pub MayGoOn : Option Came → End → Receiver → Type 0
MayGoOn None e r = IsGoing r.reader.reader
MayGoOn (Some what) e r = MayReceive what e r

-- what an octet made of the message is noted: a whole part is kept, if there is memory for it
abbrev pub Notes : Taking → (parts parts' : List Part) → Result (Option Came) LiveStatus → Type 0
Notes taking.GoesOn parts parts' (Ok None) = parts' ≡ parts
Notes (taking.Part part) parts parts' (Ok None) = parts' ≡ parts ++ part ∷ []
Notes (taking.Part part) parts parts' (Err status.Memory) = Unit {0}
Notes taking.Message parts parts' (Ok (Some came.Message)) = parts' ≡ parts
Notes taking.ScriptEnd parts parts' (Ok (Some came.ScriptEnd)) = parts' ≡ parts
Notes _ parts parts' _ = ⊥

-- one more line was read, and a further one may be
abbrev pub HasRead : (old new : Reading) → Type 0
HasRead old new = (new.failed ≡ false) × (old.lines < new.lines) × (new.lines ≤ most_bytes)

-- what reading one more line comes to
abbrev pub FindsLine : (old new : Reading) → Result Bool LiveStatus → Type 0
FindsLine old new (Ok true) = IsLine new.text × HasRead old new
FindsLine old new (Ok false) = new.failed ≡ false
FindsLine old new (Err how) = Unit {0}

-- what reading one more line that says something comes to
abbrev pub FindsSome : {A : Type 0} → (old new : Reading) → Result (Option A) LiveStatus → Type 0
FindsSome old new (Ok (Some _)) = HasRead old new
FindsSome old new _ = Unit {0}
