use Rattle.std.proofs.Common.{arith, length-append}
use Rattle.view_lines.proofs.TellingLemmas.{at_hand, piece_cut, piece_told, stopped_in}
use Rattle.view_lines.proofs.telling.tell_piece.Goals as goal

pub returns-in-Err-clause-told : goal.returns-in-Err-clause-told
returns-in-Err-clause-told g c = λ left left' mid held front reads few s took.
    rw c.answer_of.ensures
    (stopped_in g.T.LineTeller.tells g.T.LineTeller.ends g.T.LineTeller.heard left mid held (g.O.Sink.held c.args.output.now) c.args.teller.now front s left' c.args.piece.now took
    c.in-Err.stop c.in-Err.ensures.most)

pub returns-in-Ok-hand_on-clause-told : goal.returns-in-Ok-hand_on-clause-told
returns-in-Ok-hand_on-clause-told g c = λ left left' mid held front reads few s took. (
  piece_told g.T.LineTeller.tells g.T.LineTeller.ends g.T.LineTeller.heard left mid held (g.O.Sink.held c.args.output.now) c.args.teller.now front s left'
      (g.O.Sink.held c.hand_on.new.output) c.args.piece.now took c.take.new.self
      (c.in-Ok.ensures.ok front s.handed
      (at_hand g.T.LineTeller.tells g.T.LineTeller.ends g.T.LineTeller.heard left mid held (g.O.Sink.held c.args.output.now) c.args.teller.now front s)) c.hand_on.new.teller
      c.in-Ok-hand_on.ensures.on c.in-Ok-hand_on.ensures.ok,
  omega (arith, few, c.requires, length-append front c.args.piece.now),
)

pub returns-in-Err-hand_on-clause-told : goal.returns-in-Err-hand_on-clause-told
returns-in-Err-hand_on-clause-told g c = λ left left' mid held front reads few s took.
    piece_cut g.T.LineTeller.tells g.T.LineTeller.ends g.T.LineTeller.heard left mid held (g.O.Sink.held c.args.output.now) c.args.teller.now front s left'
    (g.O.Sink.held c.hand_on.new.output) c.args.piece.now took c.take.new.self
    (c.in-Ok.ensures.ok front s.handed
    (at_hand g.T.LineTeller.tells g.T.LineTeller.ends g.T.LineTeller.heard left mid held (g.O.Sink.held c.args.output.now) c.args.teller.now front s))
    c.in-Err-hand_on.ensures.partly
