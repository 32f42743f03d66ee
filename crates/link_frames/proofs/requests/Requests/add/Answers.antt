use Rattle.std.proofs.Common.{rules}
use Rattle.link_frames.specs.Requests.{RequestsStandFor}
use Rattle.link_frames.proofs.RequestsLemmas.{one_more}
use Rattle.link_frames.proofs.requests.Requests.add.Goals as goal

pub returns : goal.returns
unfolding RequestsStandFor
returns c rs stands r below =
    rw (c.from.ensures, c.number-number.ensures.value) (one_more c.args.self.now.words c.args.request r rs (search rules) (search rules) (stands r below))
