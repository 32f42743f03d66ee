use Rattle.std.proofs.Common.{ap, ◌∙◌}
use Rattle.std.proofs.lemmas.Result.{IfOk-weaker}
use Rattle.view_commands.proofs.program.trace.Goals as goal

pub returns : goal.returns
returns c =
    IfOk-weaker c.arg.result _ _
    (λ command adds.
    adds.names.0 ∙ ap (λ z. z.name.now) c.after_help.ensures ∙ ap (λ z. z.name.now) c.about.ensures
    ∙ ap (λ z. z.now) c.new.ensures.name)
    c.arg.ensures
