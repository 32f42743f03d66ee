use Rattle.std.specs.Prelude.{Some, take}
use Rattle.std.proofs.Common.{refl, ◌∙◌}
use Rattle.page_room.proofs.Told.{remembers, told}
use Rattle.page_answers.proofs.command.answer_command.Goals as goal

pub returns-clause-text : goal.returns-clause-text
returns-clause-text c =
    let new = c.answer_in_place-status.new in
    told (Some c.args.command) c.of-from.result c.args.input.now new.input
    (take c.over-to.result.used c.over-to.result.room.now) (take c.reply.result.written c.reply.new.output)
    (take new.output.used new.output.room.now) 0 0 c.over-to.result.faults new.output.faults c.reply.result.status
    c.answer_in_place-status.result c.of-from.ensures c.over-to.ensures.nothing c.reply.ensures.text refl
    c.over-to.ensures.faults (c.reply.ensures.status ∙ c.code.ensures) c.answer_in_place-status.ensures.outcome
    c.answer_in_place-status.ensures.unread c.answer_in_place-status.ensures.unwritten c.reply.ensures.full

pub returns-clause-memory : goal.returns-clause-memory
returns-clause-memory c =
    remembers c.answer_in_place-status.result c.reply.result.status (c.reply.ensures.status ∙ c.code.ensures)
    c.answer_in_place-status.ensures.in_place
