-- The messages that a stream of octets consists of, as an end reads them, and where they stop: at the end of the
-- octets, or at an octet with which no message goes on. It is read octet by octet. This project's profile. Cited by the
-- contracts of `MessageReader` and `PartFault`, and by the runs of both ends.
use Rattle.std.specs.Prelude.{ℕ, ◌+◌, ◌*◌, Bool, false, List, [], ◌∷◌, ◌++◌, ◌==◌, ◌&&◌, ◌||◌, length, nat_le, if◌then◌else◌}
use Rattle.link_frames.specs.declared.frame.End.{End}
use Rattle.link_frames.specs.declared.frame.End.TheVariants as «end»
use Rattle.link_frames.specs.declared.frame.Answer.TheVariants as answer
use Rattle.link_frames.specs.declared.frame.Frame.{Frame}
use Rattle.link_frames.specs.declared.frame.Frame.TheVariants as frame
use Rattle.link_frames.specs.declared.fault.Fault.TheVariants as fault
use Rattle.link_frames.specs.FrameOctets.{fault_code}
use Rattle.link_parts.specs.declared.fault.LinkFault.{LinkFault}
use Rattle.link_parts.specs.declared.fault.PartFault.{PartFault}
use Rattle.link_parts.specs.declared.fault.PartFault.TheVariants as wrong
use Rattle.link_parts.specs.declared.part.Part.{Part}
use Rattle.link_parts.specs.declared.part.Part.TheVariants.{Dials, Answers, Leaves, Rings, Takes, Carries}
use Rattle.link_parts.specs.Messages.{message_end, script_end}

-- a message, or the octet that stands in place of one
pub data Message : Type 0 where
  Parts : List Part → Message
  ScriptEnd : Message

pub data Stop : Type 0 where
  LinkCut : Stop
  Faulty : LinkFault → Stop

pub record Rounds : Type 0 where
  pub messages : List Message
  pub stop : Stop

-- What one more octet makes of something that has begun.
pub data Next (A : Type 0) : Type 0 where
  More : Next A
  Whole : A → Next A
  Wrong : PartFault → Next A

-- the number that octets read, greatest first, behind one that was read
abbrev pub number_of : ℕ → List ℕ → ℕ
number_of n [] = n
number_of n (o ∷ os) = number_of (n * 256 + o) os

-- Frames: an octet behind those that have come of one.

abbrev pub frame_of_one : ℕ → Next Frame
frame_of_one o =
    if o == 1 then Whole frame.Init else if nat_le 2 o && nat_le o 6 then More else Wrong (wrong.Frame fault.Kind)

abbrev pub frame_of_two : (kind request : ℕ) → Next Frame
frame_of_two kind r =
    if r == 0 then Wrong (wrong.Frame fault.Number)
    else if kind == 2 then Whole (frame.Start r)
    else if kind == 4 then Whole (frame.Nack r)
    else if kind == 5 then Whole (frame.Ack r)
    else More

abbrev pub answered_frame : (request answer : ℕ) → Next Frame
answered_frame r o =
    if o == 1 then Whole (frame.App r answer.Positive)
    else if o == 2 then Whole (frame.App r answer.Clear)
    else Wrong (wrong.Frame fault.Answer)

-- the attempt and the octets of a set, 141 in all
abbrev pub content_frame : (request : ℕ) → List ℕ → Next Frame
content_frame r [] = More
content_frame r (attempt ∷ octets) = if length octets == 140 then Whole (frame.Content r attempt octets) else More

abbrev pub frame_behind : (kind request : ℕ) → List ℕ → ℕ → Next Frame
frame_behind kind r rest o = if kind == 6 then answered_frame r o else content_frame r (rest ++ o ∷ [])

abbrev pub next_frame : List ℕ → ℕ → Next Frame
next_frame [] o = frame_of_one o
next_frame (kind ∷ []) o = frame_of_two kind o
next_frame (kind ∷ request ∷ rest) o = frame_behind kind request rest o

-- Parts.

-- whether a part whose first octet this is comes to this end, and has more octets
abbrev pub is_heard : End → ℕ → Bool
is_heard «end».Vehicle o = ((o == 17) || (o == 18)) || ((o == 19) || (o == 32))
is_heard «end».Point o = (o == 18) || ((o == 20) || (o == 32))

abbrev pub part_of_one : End → ℕ → Next Part
part_of_one «end».Vehicle o = if is_heard «end».Vehicle o then More else Wrong wrong.Unsent
part_of_one «end».Point o =
    if o == 16 then Whole Dials else if is_heard «end».Point o then More else Wrong wrong.Unsent

-- a part whose number is whole
abbrev pub numbered : (first call : ℕ) → Next Part
numbered first c =
    if c == 0 then Wrong wrong.Unnumbered
    else if first == 17 then Whole (Answers c)
    else if first == 18 then Whole (Leaves c)
    else if first == 19 then Whole (Rings c)
    else if first == 20 then Whole (Takes c)
    else More

abbrev pub carried : ℕ → Next Frame → Next Part
carried c More = More
carried c (Whole f) = Whole (Carries c f)
carried c (Wrong fault) = Wrong fault

-- an octet behind those that have come of a part: its first, the four of its number, and those of a frame
abbrev pub next_part : End → List ℕ → ℕ → Next Part
next_part e [] o = part_of_one e o
next_part e (first ∷ a ∷ b ∷ c ∷ []) o = numbered first (number_of 0 (a ∷ b ∷ c ∷ o ∷ []))
next_part e (first ∷ a ∷ b ∷ c ∷ d ∷ octets) o = carried (number_of 0 (a ∷ b ∷ c ∷ d ∷ [])) (next_frame octets o)
next_part e _ o = More

-- Messages.

-- What an octet makes of a message of which some whole parts, or none, and the octets of a part that has begun have
-- come.
pub data Taken : Type 0 where
  -- a part goes on, of which these octets have come
  GoesOn : (kept : List ℕ) → Taken
  -- a part is whole
  Gives : Part → Taken
  -- the message is whole
  EndsMessage : Taken
  -- the vehicle's script is at its end, in place of a message
  EndsScript : Taken
  Stops : PartFault → Taken

abbrev pub with_part : (kept : List ℕ) → ℕ → Next Part → Taken
with_part kept o More = GoesOn (kept ++ o ∷ [])
with_part kept o (Whole part) = Gives part
with_part kept o (Wrong f) = Stops f

-- whether a message that this end reads may be the end of the other's script: where no part of it has come
abbrev pub may_end_script : End → (none : Bool) → Bool
may_end_script «end».Vehicle none = false
may_end_script «end».Point none = none

-- `none` says that the message has no whole part yet.
abbrev pub take_octet : End → (none : Bool) → (kept : List ℕ) → ℕ → Taken
take_octet e none kept o =
    if (length kept == 0) && (o == message_end) then EndsMessage
    else if (may_end_script e none && (length kept == 0)) && (o == script_end) then EndsScript
    else with_part kept o (next_part e kept o)

-- a message in front of others
abbrev pub and_message : List Part → Rounds → Rounds
and_message parts rest = record rest { messages = Parts parts ∷ rest.messages }

-- The messages from a place on, where these whole parts and these octets of one have come of the first. Behind the
-- octet in place of a message nothing is read.
abbrev pub rounds_from : End → (parts : List Part) → (kept : List ℕ) → (place : ℕ) → List ℕ → Rounds
rounds_from e parts kept place [] = record { messages = []; stop = LinkCut }
rounds_from e parts kept place (o ∷ octets) = elim (take_octet e (length parts == 0) kept o) [
  | GoesOn more ↦ rounds_from e parts more (place + 1) octets
  | Gives part ↦ rounds_from e (parts ++ part ∷ []) [] (place + 1) octets
  | EndsMessage ↦ and_message parts (rounds_from e [] [] (place + 1) octets)
  | EndsScript ↦ record { messages = ScriptEnd ∷ []; stop = LinkCut }
  | Stops f ↦ record { messages = []; stop = Faulty (record { place = place; fault = f; octet = o }) }
]

-- the messages of these octets
abbrev pub rounds_of : End → List ℕ → Rounds
rounds_of e octets = rounds_from e [] [] 0 octets

-- the parts of messages that no octet stands in place of
abbrev pub parts_in : List Message → List (List Part)
parts_in [] = []
parts_in (Parts parts ∷ messages) = parts ∷ parts_in messages
parts_in (ScriptEnd ∷ messages) = []

-- its number in a text
abbrev pub part_fault_code : PartFault → ℕ
part_fault_code (wrong.Frame f) = fault_code f
part_fault_code wrong.Unsent = 4
part_fault_code wrong.Unnumbered = 5
