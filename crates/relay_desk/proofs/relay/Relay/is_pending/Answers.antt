use Rattle.std.proofs.Common.{arith, ◌∙◌, sym}
use Rattle.relay_desk.proofs.RequestLemmas.{request_is}
use Rattle.relay_desk.proofs.relay.Relay.is_pending.Goals as goal

pub returns : goal.returns
returns c =
    let self = c.args.self.now in
    c.is_pending.ensures ∙ sym (request_is c.args.place self.sets.items self.pending (omega arith) (omega arith))
