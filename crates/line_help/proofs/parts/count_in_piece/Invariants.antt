use Rattle.std.proofs.Common.{◌≡◌, count_by, take}
use Rattle.memchr.specs.Find.{is_byte}
use Rattle.line_help.proofs.parts.count_in_piece.Given as goal

abbrev pub invariant-loop-byte : goal.invariant-loop-byte
invariant-loop-byte l = l.count ≡ count_by (is_byte l.separator) (take l.byte-index l.piece)
