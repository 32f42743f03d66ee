use Rattle.std.proofs.Common.{arith}
use Rattle.line_help.proofs.KeepingLemmas.{keeps_end}
use Rattle.line_help.proofs.watch.Kept.begin_anew.Goals as goal

pub returns : goal.returns
returns c =
    keeps_end c.args.self.now.text.items c.push.new.self.text.items c.args.piece.now c.split_at.result.0.now
    c.split_at.result.1.now c.drop_front.new.self.text.items c.count_lines.new.self.text.items c.args.self.now.ended
    c.drop_front.new.self.ended c.count_lines.new.self.ended c.push.new.self.ended c.len-len.result _
    c.len-len.ensures.value c.split_at.ensures.front c.split_at.ensures.back (omega (arith, c.split_at.ensures.back_len, c.requires))
    c.drop_front.ensures.text c.drop_front.ensures.ended c.count_lines.ensures.text c.count_lines.ensures.ended
    c.push.ensures.text c.push.ensures.ended
