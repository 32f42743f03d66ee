use Rattle.std.proofs.Common.{[], ◌∷◌, codes}
use Rattle.std.proofs.lemmas.Result.{IfOk-weaker}
use Rattle.view_commands.proofs.NamesLemmas.{named_more}
use Rattle.view_commands.proofs.program.command_line.Goals as goal

pub returns : goal.returns
returns c =
    IfOk-weaker c.subcommand.result _ _
    (λ program adds.
    named_more c.in_ok-program.program c.in_ok-report.field-0 program (codes "sets" ∷ codes "trace" ∷ [])
    (codes "report") adds c.in_ok-program.ensures c.in_ok-report.ensures)
    c.subcommand.ensures
