use Rattle.std.proofs.Common.{sym}
use Rattle.floor_text.proofs.DraftLists.{has_some, has_none}
use Rattle.floor_text.proofs.drafts.Drafts.has.Goals as goal

pub returns-in-Some : goal.returns-in-Some
returns-in-Some c = λ known stands. sym (has_some c.args.vehicle c.args.self.now known _ stands c.in-Some.ensures)

pub returns-in-None : goal.returns-in-None
returns-in-None c = λ known stands. sym (has_none c.args.vehicle c.args.self.now known stands c.in-None.ensures)
