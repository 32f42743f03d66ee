use Rattle.std.proofs.Common.{rules, sym}
use Rattle.set_objects.proofs.WordLemmas.{short_word}
use Rattle.set_objects.proofs.line.put_line.Goals as goal

pub put_word-requires : goal.put_word-requires
put_word-requires c =
    short_word c.args.line.now c.in-Some-only_word.word.now (search rules) (c.in-Some-only_word.ensures {u = tt})
