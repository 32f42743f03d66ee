use Rattle.std.proofs.Common.{sym}
use Rattle.view_lines.proofs.TellingLemmas.{all_cut, all_told, at_hand, stopped_last}
use Rattle.view_lines.proofs.telling.tell_end.Goals as goal

pub returns-in-Err-clause-told : goal.returns-in-Err-clause-told
returns-in-Err-clause-told g c = λ left left' held front s ended.
    rw c.answer_of.ensures
    (stopped_last g.T.LineTeller.tells g.T.LineTeller.ends g.T.LineTeller.heard left left' held (g.O.Sink.held c.args.output.now) c.args.teller.now front s c.in-Err.stop
    c.in-Err.ensures.most)

pub returns-in-Ok-hand_on-clause-told : goal.returns-in-Ok-hand_on-clause-told
returns-in-Ok-hand_on-clause-told g c = λ left left' held front s ended.
    rw c.whole_answer.ensures
    (all_told g.T.LineTeller.tells g.T.LineTeller.ends g.T.LineTeller.heard left left' held (g.O.Sink.held c.args.output.now) c.args.teller.now front s ended
    (g.O.Sink.held c.hand_on.new.output) c.finish.new.self
    (c.in-Ok.ensures.ok front s.handed
    (at_hand g.T.LineTeller.tells g.T.LineTeller.ends g.T.LineTeller.heard left left' held (g.O.Sink.held c.args.output.now) c.args.teller.now front s)) c.hand_on.new.teller.refused
    (sym c.in-Ok-hand_on.ensures.on.refused) c.in-Ok-hand_on.ensures.ok)

pub returns-in-Err-hand_on-clause-told : goal.returns-in-Err-hand_on-clause-told
returns-in-Err-hand_on-clause-told g c = λ left left' held front s ended.
    all_cut g.T.LineTeller.tells g.T.LineTeller.ends g.T.LineTeller.heard left left' held (g.O.Sink.held c.args.output.now) c.args.teller.now front s ended
    (g.O.Sink.held c.hand_on.new.output) c.finish.new.self
    (c.in-Ok.ensures.ok front s.handed
    (at_hand g.T.LineTeller.tells g.T.LineTeller.ends g.T.LineTeller.heard left left' held (g.O.Sink.held c.args.output.now) c.args.teller.now front s))
    c.in-Err-hand_on.ensures.partly
