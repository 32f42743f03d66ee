use Rattle.std.proofs.Common.{◌≡◌, ◌+◌, count_by}
use Rattle.std.specs.Slice.Iter.{chunks_rest, chunks_size}
use Rattle.memchr.specs.Find.{is_byte}
use Rattle.line_help.proofs.parts.separator_count.Given as goal

abbrev pub invariant-loop-piece : goal.invariant-loop-piece
invariant-loop-piece l = record {
  can : (goal.iterator-loop-piece).can_next l.piece-iterator;
  ends : (goal.iterator-loop-piece).is_finite l.piece-iterator;
  size : chunks_size l.piece-iterator ≡ 128;
  left : l.count + count_by (is_byte l.separator) (chunks_rest l.piece-iterator) ≡ count_by (is_byte l.separator) l.text;
}
