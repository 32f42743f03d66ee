use Rattle.std.specs.Prelude.{take}
use Rattle.std.proofs.Common.{◌∙◌}
use Rattle.page_answers.proofs.Untold.{untold}
use Rattle.page_answers.proofs.command_words.unanswered.Goals as goal

pub returns : goal.returns
returns c =
    λ asked input. untold c.reply_laws.ensures.replied asked input (take c.reply.result.written c.reply.new.output)
    c.reply.result.status (c.reply.ensures.text ∙ c.over.ensures.nothing) (c.reply.ensures.status ∙ c.code.ensures)
