-- What an octet has the reader of a message answer, by what it made of the part; and how a reading goes on behind it.
use Rattle.std.specs.Prelude.{◌≡◌, ℕ, ◌+◌, ◌<◌, Bool, true, List, [], ◌∷◌, Some, None, Ok, Err, length, drop, get_or}
use Rattle.std.proofs.Common.{refl, sym, ap, subst, ◌∙◌}
use Rattle.std.proofs.lemmas.List.{drop_more}
use Rattle.link_frames.specs.declared.frame.End.{End}
use Rattle.link_parts.specs.MessageReading.{TakesTo}
use Rattle.link_parts.specs.PartReading.{kept_of}
use Rattle.link_parts.specs.Rounds.{Taken, GoesOn, Gives, EndsMessage, EndsScript, Stops, take_octet}
use Rattle.link_parts.specs.declared.fault.PartFault.{PartFault}
use Rattle.link_parts.specs.declared.message_reader.MessageReader.{MessageReader}
use Rattle.link_parts.specs.declared.message_reader.Taking.TheVariants as taking
use Rattle.link_parts.specs.declared.part.Part.{Part}
use Rattle.ecall_c.specs.declared.message_reading.EcallMessageRead.{EcallMessageRead}
use Rattle.ecall_c.specs.declared.messages.EcallMessagePart.{EcallMessagePart}
use Rattle.ecall_c.specs.MessageReads.{flat_part, halted, met, no_part, read_from}
use Rattle.ecall_c.specs.inner.Tells.{Stands, Tells}

-- a part goes on
pub tells_on : (t : Taken) (old new : MessageReader) (place octet : ℕ) → old.none ≡ true
    → TakesTo t old (Ok taking.GoesOn) new → Tells t place octet None new
tells_on (GoesOn more) old new place octet none h =
    record { kept = h.1; none = h.0 ∙ none; going = h.2 }
tells_on (Gives part) old new place octet none h = absurd h
tells_on EndsMessage old new place octet none h = absurd h
tells_on EndsScript old new place octet none h = absurd h
tells_on (Stops f) old new place octet none h = absurd h

-- a part is whole
pub tells_part : (t : Taken) (old new : MessageReader) (place octet : ℕ) (p : Part) (r : EcallMessageRead)
    → r ≡ met (place + 1) 0 (flat_part p) → TakesTo t old (Ok (taking.Part p)) new → Tells t place octet (Some r) new
tells_part (Gives part) old new place octet p r is h = is ∙ ap (λ (q : Part). met (place + 1) 0 (flat_part q)) h.0
tells_part (GoesOn more) old new place octet p r is h = absurd h
tells_part EndsMessage old new place octet p r is h = absurd h
tells_part EndsScript old new place octet p r is h = absurd h
tells_part (Stops f) old new place octet p r is h = absurd h

-- the message is whole
pub tells_message : (t : Taken) (old new : MessageReader) (place octet : ℕ) (r : EcallMessageRead)
    → r ≡ met (place + 1) 3 no_part → TakesTo t old (Ok taking.Message) new → Tells t place octet (Some r) new
tells_message EndsMessage old new place octet r is h = is
tells_message (GoesOn more) old new place octet r is h = absurd h
tells_message (Gives part) old new place octet r is h = absurd h
tells_message EndsScript old new place octet r is h = absurd h
tells_message (Stops f) old new place octet r is h = absurd h

-- the vehicle's script is at its end
pub tells_script : (t : Taken) (old new : MessageReader) (place octet : ℕ) (r : EcallMessageRead)
    → r ≡ met (place + 1) 4 no_part → TakesTo t old (Ok taking.ScriptEnd) new → Tells t place octet (Some r) new
tells_script EndsScript old new place octet r is h = is
tells_script (GoesOn more) old new place octet r is h = absurd h
tells_script (Gives part) old new place octet r is h = absurd h
tells_script EndsMessage old new place octet r is h = absurd h
tells_script (Stops f) old new place octet r is h = absurd h

-- nothing goes on with the octet
pub tells_stop : (t : Taken) (old new : MessageReader) (place octet : ℕ) (fault : PartFault) (r : EcallMessageRead)
    → r ≡ halted place octet fault → TakesTo t old (Err fault) new → Tells t place octet (Some r) new
tells_stop (Stops f) old new place octet fault r is h = is ∙ ap (halted place octet) h
tells_stop (GoesOn more) old new place octet fault r is h = absurd h
tells_stop (Gives part) old new place octet fault r is h = absurd h
tells_stop EndsMessage old new place octet fault r is h = absurd h
tells_stop EndsScript old new place octet fault r is h = absurd h

abbrev by_taken : End → (place : ℕ) → (octet : ℕ) → List ℕ → Taken → EcallMessageRead
by_taken e place o octets t = elim t [
  | GoesOn more ↦ read_from e more (place + 1) octets
  | Gives part ↦ met (place + 1) 0 (flat_part part)
  | EndsMessage ↦ met (place + 1) 3 no_part
  | EndsScript ↦ met (place + 1) 4 no_part
  | Stops f ↦ halted place o f
]

goes : (e : End) (place o : ℕ) (octets : List ℕ) (t : Taken) (new : MessageReader) → Tells t place o None new
    → by_taken e place o octets t ≡ read_from e (kept_of new.reader) (place + 1) octets
goes e place o octets (GoesOn more) new h = ap (λ (kept : List ℕ). read_from e kept (place + 1) octets) (sym h.kept)
goes e place o octets (Gives part) new h = absurd h
goes e place o octets EndsMessage new h = absurd h
goes e place o octets EndsScript new h = absurd h
goes e place o octets (Stops f) new h = absurd h

ends : (e : End) (place o : ℕ) (octets : List ℕ) (t : Taken) (new : MessageReader) (r : EcallMessageRead)
    → Tells t place o (Some r) new → by_taken e place o octets t ≡ r
ends e place o octets (GoesOn more) new r h = absurd h
ends e place o octets (Gives part) new r h = sym h
ends e place o octets EndsMessage new r h = sym h
ends e place o octets EndsScript new r h = sym h
ends e place o octets (Stops f) new r h = sym h

-- a reading goes on behind an octet with which a part goes on
pub reads_on : (e : End) (kept : List ℕ) (place o : ℕ) (octets : List ℕ) (new : MessageReader)
    → Tells (take_octet e true kept o) place o None new
    → read_from e kept place (o ∷ octets) ≡ read_from e (kept_of new.reader) (place + 1) octets
reads_on e kept place o octets new h = goes e place o octets (take_octet e true kept o) new h

-- and ends with any other
pub read_ends : (e : End) (kept : List ℕ) (place o : ℕ) (octets : List ℕ) (new : MessageReader) (r : EcallMessageRead)
    → Tells (take_octet e true kept o) place o (Some r) new → read_from e kept place (o ∷ octets) ≡ r
read_ends e kept place o octets new r h = ends e place o octets (take_octet e true kept o) new r h

-- the same, as the reader that took the octet has it
pub part_told : (e : End) (old new : MessageReader) (place octet : ℕ) (p : Part) (flat : EcallMessagePart)
    (r : EcallMessageRead) → old.none ≡ true → flat ≡ flat_part p → r ≡ met (place + 1) 0 flat
    → TakesTo (take_octet e old.none (kept_of old.reader) octet) old (Ok (taking.Part p)) new
    → Tells (take_octet e true (kept_of old.reader) octet) place octet (Some r) new
part_told e old new place octet p flat r none is told h =
    tells_part (take_octet e true (kept_of old.reader) octet) old new place octet p r
    (told ∙ ap (λ (q : EcallMessagePart). met (place + 1) 0 q) is)
    (subst (λ (n : Bool). TakesTo (take_octet e n (kept_of old.reader) octet) old (Ok (taking.Part p)) new) none h)

pub fault_told : (e : End) (old new : MessageReader) (place octet : ℕ) (fault : PartFault) (r : EcallMessageRead)
    → old.none ≡ true → r ≡ halted place octet fault
    → TakesTo (take_octet e old.none (kept_of old.reader) octet) old (Err fault) new
    → Tells (take_octet e true (kept_of old.reader) octet) place octet (Some r) new
fault_told e old new place octet fault r none told h =
    tells_stop (take_octet e true (kept_of old.reader) octet) old new place octet fault r told
    (subst (λ (n : Bool). TakesTo (take_octet e n (kept_of old.reader) octet) old (Err fault) new) none h)

-- the reading of a list goes on behind the octet at its place
pub goes_behind : (e : End) (octets kept : List ℕ) (place : ℕ) (new : MessageReader) → place < length octets
    → read_from e [] 0 octets ≡ read_from e kept place (drop place octets)
    → Tells (take_octet e true kept (get_or octets place 0)) place (get_or octets place 0) None new
    → read_from e [] 0 octets ≡ read_from e (kept_of new.reader) (place + 1) (drop (place + 1) octets)
goes_behind e octets kept place new within is h =
    is ∙ ap (read_from e kept place) (drop_more octets place 0 within)
    ∙ reads_on e kept place (get_or octets place 0) (drop (place + 1) octets) new h

-- or ends with it
pub ends_behind : (e : End) (octets kept : List ℕ) (place : ℕ) (new : MessageReader) (r : EcallMessageRead)
    → place < length octets → read_from e [] 0 octets ≡ read_from e kept place (drop place octets)
    → Tells (take_octet e true kept (get_or octets place 0)) place (get_or octets place 0) (Some r) new
    → r ≡ read_from e [] 0 octets
ends_behind e octets kept place new r within is h =
    sym (is ∙ ap (read_from e kept place) (drop_more octets place 0 within)
    ∙ read_ends e kept place (get_or octets place 0) (drop (place + 1) octets) new r h)

-- a reader that goes on stands where it does
pub stands_on : (t : Taken) (place octet : ℕ) (new : MessageReader) → Tells t place octet None new
    → Stands (kept_of new.reader) new
stands_on (GoesOn more) place octet new h = record { kept = refl; none = h.none; going = h.going }
stands_on (Gives part) place octet new h = absurd h
stands_on EndsMessage place octet new h = absurd h
stands_on EndsScript place octet new h = absurd h
stands_on (Stops f) place octet new h = absurd h
