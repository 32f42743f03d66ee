use Rattle.std.proofs.Common.{arith}
use Rattle.view_lines.proofs.PiecesLemmas.{one_more}
use Rattle.view_lines.proofs.pieces.put_all.Goals as goal

pub loop-piece-preserved : goal.loop-piece-preserved
loop-piece-preserved c =
    one_more c.args.text.now.items c.loop-piece.text.items c.extend_from_slice.new.self.items c.args.pieces.now
    c.loop-piece.piece-index _ (omega (arith, c.loop-piece-test.true)) c.loop-piece.invariant
    c.in_ok-extend_from_slice.ensures.items
