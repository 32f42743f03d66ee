use Rattle.floor_text.proofs.DraftLists.{behind_first}
use Rattle.floor_text.proofs.drafts.Drafts.join.Goals as goal

pub returns-clause-drafts : goal.returns-clause-drafts
returns-clause-drafts c =
    behind_first c.args.self.now.drafts.items c.push-2.new.self.items c.args.fact.now c.new-draft.result
    c.add.new.self c.add.ensures.taken c.new-draft.ensures c.in_ok-push-2.ensures.items
