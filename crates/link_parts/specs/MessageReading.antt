-- What one more octet makes of the reader of messages, by what it answered. Cited by the contract of `MessageReader`.
use Rattle.std.specs.Prelude.{◌≡◌, [], true, false, Result, Ok, Err}
use Rattle.link_parts.specs.Rounds.{Taken, GoesOn, Gives, EndsMessage, EndsScript, Stops}
use Rattle.link_parts.specs.PartReading.{IsGoing, kept_of}
use Rattle.link_parts.specs.declared.fault.PartFault.{PartFault}
use Rattle.link_parts.specs.declared.message_reader.MessageReader.{MessageReader}
use Rattle.link_parts.specs.declared.message_reader.Taking.{Taking}
use Rattle.link_parts.specs.declared.message_reader.Taking.TheVariants as taking

-- the reader may go on, and stands before a message
pub record IsBefore (m : MessageReader) : Type 0 where
  pub none : m.none ≡ true
  pub kept : kept_of m.reader ≡ []
  pub going : IsGoing m.reader

-- what was answered is what the octet makes of the message, and the reader stands behind the octet
abbrev pub TakesTo : Taken → (old : MessageReader) → Result Taking PartFault → (new : MessageReader) → Type 0
TakesTo (GoesOn more) old (Ok taking.GoesOn) new =
    (new.none ≡ old.none) × (kept_of new.reader ≡ more) × IsGoing new.reader
TakesTo (Gives part) old (Ok (taking.Part given)) new =
    (given ≡ part) × (new.none ≡ false) × (kept_of new.reader ≡ []) × IsGoing new.reader
TakesTo EndsMessage old (Ok taking.Message) new = IsBefore new
TakesTo EndsScript old (Ok taking.ScriptEnd) new = Unit {0}
TakesTo (Stops fault) old (Err answered) new = answered ≡ fault
TakesTo _ old _ new = ⊥
