use Rattle.std.proofs.Common.{[], ◌∷◌, ◌++◌, nat_eq, sym, ap, ◌∙◌}
use Rattle.indexmap.proofs.CallerLemmas.{insert_entry-new}
use Rattle.call_register.specs.inner.Heard.{with_call}
use Rattle.call_register.proofs.RowLemmas.{none_from_some, with_call-new, with_call-there}
use Rattle.call_register.proofs.register.Register.open.Goals as goal

pub returns-then-contains_key-clause-ok : goal.returns-then-contains_key-clause-ok
returns-then-contains_key-clause-ok c =
    let there = sym c.contains_key.ensures ∙ c.if-contains_key.true in
    sym c.self.view_is
    ∙ with_call-there c.args.call c.args.tick c.self.inside.calls.entries there
    ∙ ap (with_call c.args.call c.args.tick) c.self.view_is

pub returns-in-Ok-clause-ok : goal.returns-in-Ok-clause-ok
returns-in-Ok-clause-ok c =
    let absent = sym c.contains_key.ensures ∙ c.if-contains_key.false in
    let rows = c.self.inside.calls.entries in
    c.in-Ok.ensures.entries
    ∙ insert_entry-new nat_eq c.self.inside.calls c.args.call c.new.result (none_from_some _ absent)
    ∙ ap (λ row. rows ++ (c.args.call, row) ∷ []) c.new.ensures
    ∙ with_call-new c.args.call c.args.tick rows absent
    ∙ ap (with_call c.args.call c.args.tick) c.self.view_is
