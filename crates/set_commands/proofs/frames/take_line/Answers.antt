use Rattle.set_commands.proofs.FramesTaken.{one_word, other_words}
use Rattle.set_commands.proofs.WordsGiven.{short_word}
use Rattle.set_commands.proofs.frames.take_line.Goals as goal

pub returns-in-Some-clause-takes : goal.returns-in-Some-clause-takes
returns-in-Some-clause-takes g c = λ stream ended read.
    one_word stream ended c.args.line.now c.text.result.now c.in-Some.word.now c.number.result
    (g.O.Sink.held c.args.output.now) (g.O.Sink.held c.take_word.new.output) c.take_word.new.reader c.take_word.result
    c.text.ensures.text c.number.ensures (c.in-Some.ensures {u = tt}) (c.take_word.ensures.takes stream ended read)

pub returns-in-None-clause-takes : goal.returns-in-None-clause-takes
returns-in-None-clause-takes g c = λ stream ended read.
    other_words stream ended c.args.line.now c.text.result.now c.number-in-None.result (g.O.Sink.held c.args.output.now)
    (g.O.Sink.held c.refuse_line.new.output) c.args.reader.now c.text.ensures.text c.number-in-None.ensures
    (c.in-None.ensures {u = tt}) c.refuse_line.result c.refuse_line.ensures.ends

pub take_word-requires-clause-short : goal.take_word-requires-clause-short
take_word-requires-clause-short g c =
    short_word c.text.result.now c.in-Some.word.now c.text.ensures.line.0 (c.in-Some.ensures {u = tt})
