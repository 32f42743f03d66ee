use Rattle.std.proofs.Common.{sym, ap, ◌∙◌}
use Rattle.call_register.specs.inner.Heard.{heard}
use Rattle.call_register.proofs.TableLemmas.{table-behind}
use Rattle.call_register.proofs.register.RegisterListener.hear.Goals as goal

pub returns-in-Ok-clause-ok : goal.returns-in-Ok-clause-ok
returns-in-Ok-clause-ok c =
    λ before held.
    c.in-Ok.ensures.ok ∙ ap (λ rows. heard rows c.args.entry.now) held
    ∙ sym (table-behind before c.args.entry.now)
