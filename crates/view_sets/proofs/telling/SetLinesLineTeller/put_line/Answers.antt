use Rattle.view_sets.proofs.TellingLemmas.{answer_put}
use Rattle.view_sets.proofs.telling.SetLinesLineTeller.put_line.Goals as goal

pub returns : goal.returns
returns c = λ before whole stands counts kept.
    answer_put before whole c.args.line.now c.args.number counts kept c.put_line.result c.args.text.now.items
    c.put_line.new.text.items c.put_line.ensures
