use Rattle.line_help.proofs.KeepingLemmas.{keeps_whole}
use Rattle.line_help.proofs.watch.Kept.keep_all.Goals as goal

pub returns : goal.returns
returns c =
    keeps_whole c.args.self.now.text.items c.push.new.self.text.items c.args.piece.now c.count_lines.new.self.text.items
    c.args.self.now.ended c.count_lines.new.self.ended c.push.new.self.ended
    c.count_lines.ensures.text c.count_lines.ensures.ended c.push.ensures.text c.push.ensures.ended
