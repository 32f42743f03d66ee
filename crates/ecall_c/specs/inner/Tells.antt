-- What one octet has the reader of a message answer. Cited by private contracts alone.
use Rattle.std.specs.Prelude.{◌≡◌, ℕ, ◌+◌, true, List, Option, Some, None}
use Rattle.link_parts.specs.PartReading.{IsGoing, kept_of}
use Rattle.link_parts.specs.Rounds.{Taken, GoesOn, Gives, EndsMessage, EndsScript, Stops}
use Rattle.link_parts.specs.declared.message_reader.MessageReader.{MessageReader}
use Rattle.ecall_c.specs.declared.message_reading.EcallMessageRead.{EcallMessageRead}
use Rattle.ecall_c.specs.MessageReads.{flat_part, halted, met, no_part}

-- the reader stands behind these octets of a part, and no part of its message was whole
pub record Stands (octets : List ℕ) (r : MessageReader) : Type 0 where
  pub kept : kept_of r.reader ≡ octets
  pub none : r.none ≡ true
  pub going : IsGoing r.reader

-- what the octet behind `place` others made of the part, by what was answered
abbrev pub Tells : Taken → (place octet : ℕ) → Option EcallMessageRead → (new : MessageReader) → Type 0
Tells (GoesOn more) place octet None new = Stands more new
Tells (Gives part) place octet (Some r) new = r ≡ met (place + 1) 0 (flat_part part)
Tells EndsMessage place octet (Some r) new = r ≡ met (place + 1) 3 no_part
Tells EndsScript place octet (Some r) new = r ≡ met (place + 1) 4 no_part
Tells (Stops f) place octet (Some r) new = r ≡ halted place octet f
Tells _ place octet _ new = ⊥
