-- The octets copied are those behind the ones taken before.
use Rattle.std.proofs.Common.{◌≤◌, ◌<◌, ◌+◌, arith}
use Rattle.std.proofs.lemmas.List.{take_rest}
use Rattle.link_frames.proofs.ComingLemmas.{comes_in_set}
use Rattle.link_frames.proofs.reader.take_set.Goals as goal

pub returns-clause-comes : goal.returns-clause-comes
returns-clause-comes c = λ had comes.
    let begun : c.in-Set.filled < 140 = rw c.in-Set.is at c.requires.filled in
    let room : c.in-Set.filled + c.fill-more.result ≤ 140 = omega (arith, c.fill-more.ensures.count) in
    comes_in_set c.args.octets.now c.fill-more.new.octets had c.args.piece.now c.in-Set.request c.in-Set.attempt
    c.in-Set.filled
    c.args.n c.fill-more.result c.behind_octets.result c.fill-more.array_long room
    (rw take_rest at c.fill-more.ensures.behind) c.behind_octets.ensures.whole c.behind_octets.ensures.part
    (rw c.in-Set.is at comes)
