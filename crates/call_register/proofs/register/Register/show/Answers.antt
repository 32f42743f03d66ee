use Rattle.std.proofs.Common.{ap, ◌∙◌}
use Rattle.std.proofs.lemmas.Result.{on_err_weaker, on_ok_weaker}
use Rattle.call_register.specs.inner.Heard.{with_set}
use Rattle.call_register.proofs.RowLemmas.{unwritten, written, written_back}
use Rattle.call_register.proofs.register.Register.show.Goals as goal

pub returns-in_default-clause-ok : goal.returns-in_default-clause-ok
returns-in_default-clause-ok c =
    let rows = c.self.inside.calls.entries in
    let same = unwritten c.args.call (with_set c.args.set) rows c.args.self.now in
    ap (λ m. m.entries) c.get_mut.follows.holds-at-none ∙ c.self.view_is
    ∙ same c.in_default.ensures.value c.self.view_is

pub returns-clause-ok : goal.returns-clause-ok
returns-clause-ok c =
    let holds = c.get_mut.follows.holds c.show.new.self in
    let rows = c.self.inside.calls.entries in
    let changed = written c.args.call (with_set c.args.set) rows c.args.self.now in
    on_ok_weaker c.show.result
    (changed (c.get_mut.follows.lender c.show.new.self).entries c.in-Some.kept.now c.show.new.self
    c.get_mut.ensures.unique c.in-Some.ensures.value c.self.view_is holds.0) c.show.ensures.ok

pub returns-clause-err : goal.returns-clause-err
returns-clause-err c =
    let holds = c.get_mut.follows.holds c.show.new.self in
    let rows = c.self.inside.calls.entries in
    let same = written_back c.args.call rows c.args.self.now in
    on_err_weaker c.show.result
    (same (c.get_mut.follows.lender c.show.new.self).entries c.in-Some.kept.now c.show.new.self
    c.get_mut.ensures.unique c.in-Some.ensures.value c.self.view_is holds.0) c.show.ensures.err
