use Rattle.std.proofs.Common.{ap, ◌∙◌}
use Rattle.call_register.specs.inner.Heard.{with_ending}
use Rattle.call_register.proofs.RowLemmas.{unwritten, written}
use Rattle.call_register.proofs.register.Register.close.Goals as goal

pub returns-in_default : goal.returns-in_default
returns-in_default c =
    let rows = c.self.inside.calls.entries in
    let same = unwritten c.args.call (with_ending c.args.ending) rows c.args.self.now in
    ap (λ m. m.entries) c.get_mut.follows.holds-at-none ∙ c.self.view_is
    ∙ same c.in_default.ensures.value c.self.view_is

pub returns : goal.returns
returns c =
    let holds = c.get_mut.follows.holds c.end.new.self in
    let rows = c.self.inside.calls.entries in
    let changed = written c.args.call (with_ending c.args.ending) rows c.args.self.now in
    changed (c.get_mut.follows.lender c.end.new.self).entries c.in-Some.kept.now c.end.new.self
    c.get_mut.ensures.unique c.in-Some.ensures.value c.self.view_is holds.0 c.end.ensures
