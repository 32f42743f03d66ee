use Rattle.std.specs.Prelude.{◌≡◌, ◌<◌, length}
use Rattle.std.proofs.Common.{arith, rules, subst, sym, ◌∙◌}
use Rattle.trace_text.specs.Drafts.{DraftOf}
use Rattle.trace_text.specs.declared.draft.Draft.{Draft}
use Rattle.floor_text.proofs.DraftLists.{draft_at, get_or-some, length-drafts}
use Rattle.floor_text.proofs.drafts.Drafts.facts.Goals as goal

pub index-requires : goal.index-requires
index-requires c =
    let same : length c.args.self.now.drafts.items ≡ length c.requires.0 =
    length-drafts c.args.self.now.drafts.items c.requires.0 c.requires.1.drafts_are in
    let inside : c.args.place < length c.args.self.now.drafts.items = omega (arith, same, c.requires.2) in
    search rules

pub returns : goal.returns
returns c = λ known k stands at.
    let r = draft_at c.args.self.now.drafts.items known c.args.place k stands.drafts_are at in
    c.facts.ensures k.lines
    (subst (λ (d : Draft). DraftOf d k.lines)
    (sym (c.index.ensures ∙ get_or-some c.args.self.now.drafts.items c.args.place c.index.result.now r.draft r.at))
    r.of_lines)
