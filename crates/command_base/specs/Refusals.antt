-- What a command replies: the text that it writes and the status that it answers; and the line that says why a command
-- refuses its input. This project's profile. Cited by the replies of the commands.
use Rattle.std.specs.Prelude.{ℕ, List, [], ◌∷◌, ◌++◌, codes, decimal}
use Rattle.link_frames.specs.FrameOctets.{fault_code}
use Rattle.per_bits.specs.Reasons.{code_of}
use Rattle.line_input.specs.Characters.{newline}
use Rattle.trace_text.specs.EntryLine.{spaced}
use Rattle.line_input.specs.ReasonCode.{reason_code}
use Rattle.command_base.specs.declared.refusal.Refused.{Refused}
use Rattle.command_base.specs.declared.refusal.Refused.TheVariants as refused
use Rattle.command_base.specs.declared.status.Status.{Status}
use Rattle.command_base.specs.declared.status.Status.TheVariants as status

pub record Reply : Type 0 where
  pub text : List ℕ
  pub status : Status

-- the words behind `refused`: the number of the line and the reason; for a set the number of its line, the word `set`,
-- and the place, the reason and the value of its refusal; for a frame the number of the line, the word `frame`, and the
-- place in the stream, the fault and the octet
abbrev pub refusal_words : Refused → List (List ℕ)
refusal_words (refused.Line bad) = decimal bad.line ∷ decimal (reason_code bad.reason) ∷ []
refusal_words (refused.Set number refusal) =
    decimal number ∷ codes "set" ∷ decimal refusal.place ∷ decimal (code_of refusal.reason) ∷ decimal refusal.value ∷ []
refusal_words (refused.Frame number fault) =
    decimal number ∷ codes "frame" ∷ decimal fault.place ∷ decimal (fault_code fault.fault) ∷ decimal fault.octet ∷ []

-- the line that says why
abbrev pub refusal_line : Refused → List ℕ
refusal_line why = codes "refused" ++ spaced (refusal_words why) ++ newline ∷ []

-- the number of the line that is refused, or whose set or frame is
abbrev pub line_of : Refused → ℕ
line_of (refused.Line bad) = bad.line
line_of (refused.Set number refusal) = number
line_of (refused.Frame number fault) = number

-- the reply that refuses, and says no more
abbrev pub refusal_reply : Refused → Reply
refusal_reply why = record { text = refusal_line why; status = status.Refused why }

-- a text in front of a reply
abbrev pub in_front_of : List ℕ → Reply → Reply
in_front_of text r = record { text = text ++ r.text; status = r.status }
