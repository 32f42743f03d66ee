use Rattle.std.proofs.Common.{arith, refl, ◌∙◌, ap, sym}
use Rattle.relay_desk.specs.Requests.{pending_from}
use Rattle.relay_desk.proofs.RequestLemmas.{request_without, same_desk}
use Rattle.relay_desk.proofs.relay.Relay.finish.Goals as goal

pub returns-clause-ok : goal.returns-clause-ok
returns-clause-ok c =
    let self = c.args.self.now in (
      c.in_ok-notes.ensures,
      same_desk _ _ refl refl refl refl
          (ap (pending_from 0 self.sets.items) c.settle.ensures
          ∙ sym (request_without c.args.place self.sets.items self.pending (omega arith) (omega arith)))
          refl,
    )
