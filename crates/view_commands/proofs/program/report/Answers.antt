use Rattle.std.proofs.Common.{ap, ◌∙◌}
use Rattle.std.proofs.lemmas.Result.{IfOk-weaker}
use Rattle.view_commands.proofs.program.report.Goals as goal

pub returns : goal.returns
returns c =
    IfOk-weaker c.arg-3.result _ _
    (λ command adds.
    adds.names.0 ∙ c.in_ok-arg-2.ensures.names.0 ∙ c.in_ok-arg.ensures.names.0
    ∙ ap (λ z. z.name.now) c.after_help.ensures ∙ ap (λ z. z.name.now) c.about.ensures
    ∙ ap (λ z. z.now) c.new.ensures.name)
    c.arg-3.ensures
