use Rattle.std.proofs.Common.{◌≡◌, [], drop}
use Rattle.link_parts.specs.PartReading.{kept_of}
use Rattle.ecall_c.specs.MessageReads.{read_from}
use Rattle.ecall_c.specs.inner.Tells.{Stands}
use Rattle.ecall_c.proofs.message_reading.read.Given as goal

-- the reader stands behind the octets so far, and the reading goes on from there
abbrev pub invariant-loop-place : goal.invariant-loop-place
invariant-loop-place l =
    (read_from l.end [] 0 l.octets ≡ read_from l.end (kept_of l.reader.reader) l.place (drop l.place l.octets))
    × Stands (kept_of l.reader.reader) l.reader
