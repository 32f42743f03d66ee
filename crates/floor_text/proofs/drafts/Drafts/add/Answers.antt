use Rattle.std.specs.Prelude.{Result, Ok, Err, IfOk}
use Rattle.floor_text.proofs.DraftLists.{added, inside_drafts, joined_if}
use Rattle.floor_text.proofs.drafts.Drafts.add.Goals as goal

pub add_at-requires : goal.add_at-requires
add_at-requires c =
    inside_drafts c.args.vehicle c.args.self.now c.requires.stands.0 c.in-Some.place c.requires.stands.1
    c.in-Some.ensures

pub returns-in-Some : goal.returns-in-Some
returns-in-Some c = λ known stands.
    added c.args.vehicle c.args.fact.now c.args.self.now c.add_at.new.self known c.in-Some.place c.add_at.result stands
    c.in-Some.ensures c.requires.range c.add_at.ensures.numbers c.add_at.ensures.adds

pub returns-in-None : goal.returns-in-None
returns-in-None c = λ known stands.
    joined_if c.args.vehicle c.args.fact.now c.args.self.now c.join.new.self known c.join.result stands
    c.in-None.ensures c.requires.range c.join.ensures.room c.join.ensures.numbers c.join.ensures.drafts
