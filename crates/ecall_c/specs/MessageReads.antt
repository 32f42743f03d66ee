-- What the first octets of a stream of live messages come to, from the beginning of a message on or from behind a
-- part of one: the flat struct that C is answered. Behind a part the octet in place of a message is no exception: who
-- reads it there has a message that the other end never sends. This project's profile. Cited by the export that reads
-- messages.
use Rattle.std.specs.Prelude.{ℕ, ◌+◌, Bool, true, false, List, [], ◌∷◌}
use Rattle.link_frames.specs.declared.frame.End.{End}
use Rattle.link_frames.specs.declared.frame.End.TheVariants as «end»
use Rattle.link_parts.specs.Rounds.{GoesOn, Gives, EndsMessage, EndsScript, Stops, take_octet, part_fault_code}
use Rattle.link_parts.specs.declared.fault.PartFault.{PartFault}
use Rattle.link_parts.specs.declared.part.Part.{Part}
use Rattle.link_parts.specs.declared.part.Part.TheVariants.{Dials, Answers, Leaves, Rings, Takes, Carries}
use Rattle.ecall_c.specs.declared.messages.EcallMessagePart.{EcallMessagePart}
use Rattle.ecall_c.specs.declared.message_reading.EcallMessageRead.{EcallMessageRead}
use Rattle.ecall_c.specs.declared.frame.EcallFrame.{EcallFrame}
use Rattle.ecall_c.specs.Items.{flat_frame, no_frame}

abbrev pub bare_part : (call kind : ℕ) → EcallFrame → EcallMessagePart
bare_part call kind f = record { call = call; kind = kind; frame = f }

abbrev pub flat_part : Part → EcallMessagePart
flat_part Dials = bare_part 0 0 no_frame
flat_part (Answers c) = bare_part c 1 no_frame
flat_part (Leaves c) = bare_part c 2 no_frame
flat_part (Rings c) = bare_part c 3 no_frame
flat_part (Takes c) = bare_part c 4 no_frame
flat_part (Carries c f) = bare_part c 5 (flat_frame f)

abbrev pub no_part : EcallMessagePart
no_part = bare_part 0 0 no_frame

abbrev pub reading_end : (at_point : Bool) → End
reading_end true = «end».Point
reading_end false = «end».Vehicle

abbrev pub met : (taken verdict : ℕ) → EcallMessagePart → EcallMessageRead
met taken verdict part = record { taken = taken; verdict = verdict; fault = 0; octet = 0; part = part }

abbrev pub halted : (place octet : ℕ) → PartFault → EcallMessageRead
halted place octet f =
    record { taken = place; verdict = 2; fault = part_fault_code f; octet = octet; part = no_part }

-- behind so many octets, of which these are those of a part that goes on
abbrev pub read_from : End → (kept : List ℕ) → (place : ℕ) → List ℕ → EcallMessageRead
read_from e kept place [] = met 0 1 no_part
read_from e kept place (o ∷ octets) = elim (take_octet e true kept o) [
  | GoesOn more ↦ read_from e more (place + 1) octets
  | Gives part ↦ met (place + 1) 0 (flat_part part)
  | EndsMessage ↦ met (place + 1) 3 no_part
  | EndsScript ↦ met (place + 1) 4 no_part
  | Stops f ↦ halted place o f
]
