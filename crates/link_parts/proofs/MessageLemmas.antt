-- What the reader of a message makes of an octet that ends a part, or with which none goes on.
use Rattle.std.specs.Prelude.{◌≡◌, ◌==◌, ◌&&◌, ℕ, false, Some, Ok, Err, length}
use Rattle.std.proofs.Common.{sym, ◌∙◌}
use Rattle.link_frames.specs.declared.frame.End.{End}
use Rattle.link_parts.specs.MessageReading.{TakesTo}
use Rattle.link_parts.specs.Messages.{message_end, script_end}
use Rattle.link_parts.specs.PartReading.{Says, kept_of}
use Rattle.link_parts.specs.Rounds.{Next, More, Whole, Wrong, may_end_script, next_part, take_octet, with_part}
use Rattle.link_parts.specs.declared.fault.PartFault.{PartFault}
use Rattle.link_parts.specs.declared.message_reader.MessageReader.{MessageReader}
use Rattle.link_parts.specs.declared.message_reader.Taking.TheVariants as taking
use Rattle.link_parts.specs.declared.part.Part.{Part}

pub more_parts : (e : End) (old new : MessageReader) (o : ℕ) (part : Part)
    → ((length (kept_of old.reader) == 0) && (o == message_end)) ≡ false
    → ((may_end_script e old.none && (length (kept_of old.reader) == 0)) && (o == script_end)) ≡ false
    → new.none ≡ false
    → Says (next_part e (kept_of old.reader) o) (kept_of old.reader) o (Ok (Some part)) new.reader
    → TakesTo (take_octet e old.none (kept_of old.reader) o) old (Ok (taking.Part part)) new
more_parts e old new o part inner other some says = rw (inner, other) (by (next_part e (kept_of old.reader) o) says)
  where
    by : (n : Next Part) → Says n (kept_of old.reader) o (Ok (Some part)) new.reader →
        TakesTo (with_part (kept_of old.reader) o n) old (Ok (taking.Part part)) new
    by More h = absurd h
    by (Wrong fault) h = absurd h
    by (Whole q) h = (h.0, some, h.1, h.2)

pub wrong_part : (e : End) (old new : MessageReader) (o : ℕ) (fault : PartFault)
    → ((length (kept_of old.reader) == 0) && (o == message_end)) ≡ false
    → ((may_end_script e old.none && (length (kept_of old.reader) == 0)) && (o == script_end)) ≡ false
    → Says (next_part e (kept_of old.reader) o) (kept_of old.reader) o (Err fault) new.reader
    → TakesTo (take_octet e old.none (kept_of old.reader) o) old (Err fault) new
wrong_part e old new o fault inner other says = rw (inner, other) (by (next_part e (kept_of old.reader) o) says)
  where
    by : (n : Next Part) → Says n (kept_of old.reader) o (Err fault) new.reader →
        TakesTo (with_part (kept_of old.reader) o n) old (Err fault) new
    by More h = absurd h
    by (Whole q) h = absurd h
    by (Wrong f) h = h
