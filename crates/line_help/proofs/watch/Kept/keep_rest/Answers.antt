use Rattle.std.proofs.Common.{arith, ap, length, length-drop}
use Rattle.line_help.proofs.KeepingLemmas.{keeps_rest}
use Rattle.line_help.proofs.watch.Kept.keep_rest.Goals as goal

pub returns : goal.returns
returns c =
    keeps_rest c.args.self.now.text.items c.push.new.self.text.items c.args.piece.now c.drop_front.new.self.text.items
    c.args.self.now.ended c.drop_front.new.self.ended c.push.new.self.ended c.args.count
    c.drop_front.ensures.text c.drop_front.ensures.ended c.push.ensures.text c.push.ensures.ended
    (omega (arith, ap length c.drop_front.ensures.text, length-drop c.args.count c.args.self.now.text.items, c.requires.least))
