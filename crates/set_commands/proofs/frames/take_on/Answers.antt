use Rattle.std.proofs.lemmas.List.{take-append-drop}
use Rattle.set_commands.proofs.FramesTaken.{cut_frame, stopped, went_on}
use Rattle.set_commands.proofs.frames.take_on.Goals as goal

pub returns-in-Ok-write_whole-clause-takes : goal.returns-in-Ok-write_whole-clause-takes
returns-in-Ok-write_whole-clause-takes g c = λ stream ended read.
    went_on stream c.args.piece.now ended c.in-Ok.n (g.O.Sink.held c.args.output.now)
    (g.O.Sink.held c.write_whole.new.output) c.args.reader.now c.feed.new.self (c.in-Ok.ensures.fed c.requires.going)
    c.in-Ok-write_whole.ensures.whole read

pub returns-in-Err-write_whole-clause-takes : goal.returns-in-Err-write_whole-clause-takes
returns-in-Err-write_whole-clause-takes g c = λ stream ended read.
    cut_frame stream c.args.piece.now ended c.in-Ok.n c.args.number (g.O.Sink.held c.args.output.now)
    (g.O.Sink.held c.write_whole.new.output) c.args.reader.now c.feed.new.self
    (take-append-drop c.in-Ok.n c.args.piece.now) (c.in-Ok.ensures.fed c.requires.going)
    c.in-Err-write_whole.ensures.partly read

pub returns-in-Err-clause-takes : goal.returns-in-Err-clause-takes
returns-in-Err-clause-takes g c = λ stream ended read.
    stopped stream c.args.piece.now ended c.in-Err.fault c.args.number (g.O.Sink.held c.args.output.now)
    (g.O.Sink.held c.refuse.new.output) c.args.reader.now c.feed.new.self (c.in-Err.ensures.fed c.requires.going)
    c.refuse.result c.refuse.ensures.ends read
