use Rattle.std.proofs.Common.{arith, ◌∙◌}
use Rattle.call_io.proofs.BlockLemmas.{Onward-append}
use Rattle.set_commands.proofs.FramesTaken.{piece_on, piece_answer, piece_whole, rest_length}
use Rattle.set_commands.proofs.frames.take_piece.Goals as goal

pub loop-n-preserved : goal.loop-n-preserved
loop-n-preserved g c = record {
  front = λ stream ended read.
      piece_on stream c.args.piece.now ended c.loop-n.n c.in-Ok.more (g.O.Sink.held c.args.output.now)
      (g.O.Sink.held c.loop-n.output) (g.O.Sink.held c.take_on.new.output) c.loop-n.reader c.take_on.new.reader
      (c.loop-n.invariant.front stream ended read) c.in-Ok.ensures.takes;
  bound = omega (arith, c.in-Ok.ensures.bound, rest_length c.loop-n.n c.args.piece.now, c.loop-n-test.true);
  going = c.in-Ok.ensures.going;
  taken = omega (arith, c.in-Ok.ensures.taken, c.loop-n.invariant.taken);
  writes = c.in-Ok.ensures.unwritten ∙ c.loop-n.invariant.writes;
  onward = Onward-append _ _ _ c.loop-n.invariant.onward c.in-Ok.ensures.onward;
}

pub returns-in-Err-clause-takes : goal.returns-in-Err-clause-takes
returns-in-Err-clause-takes g c = λ stream ended read.
    piece_answer stream c.args.piece.now ended c.loop-n.n c.args.number (g.O.Sink.held c.args.output.now)
    (g.O.Sink.held c.loop-n.output) (g.O.Sink.held c.take_on.new.output) c.loop-n.reader c.take_on.new.reader
    c.take_on.new.reader c.in-Err.status (c.loop-n.invariant.front stream ended read) c.in-Err.ensures.takes

pub returns-clause-takes : goal.returns-clause-takes
returns-clause-takes g c = λ stream ended read.
    piece_whole stream c.args.piece.now ended c.loop-n.n (g.O.Sink.held c.args.output.now)
    (g.O.Sink.held c.loop-n.output) c.loop-n.reader (omega (arith, c.loop-n-test.false))
    (c.loop-n.invariant.front stream ended read)
