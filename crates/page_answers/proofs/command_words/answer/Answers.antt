use Rattle.std.specs.Prelude.{map, take}
use Rattle.std.specs.String.{string_bytes}
use Rattle.std.proofs.Common.{◌∙◌}
use Rattle.ecall_top.specs.Commands.{command_of}
use Rattle.page_room.proofs.Told.{told}
use Rattle.page_answers.proofs.command_words.answer.Goals as goal

pub returns : goal.returns
returns g c =
    let new = c.ecall-status.new in
    told (command_of (map string_bytes c.args.words.now)) c.of-from.result c.args.input.now new.input
    (take c.over-to.result.used c.over-to.result.room.now) (take c.reply.result.written c.reply.new.output)
    (take new.output.used new.output.room.now) c.start-moments.result new.moments c.over-to.result.faults
    new.output.faults c.reply.result.status c.ecall-status.result c.of-from.ensures c.over-to.ensures.nothing
    c.reply.ensures.text c.start-moments.ensures c.over-to.ensures.faults
    (c.reply.ensures.status ∙ c.code.ensures) c.ecall-status.ensures.outcome c.ecall-status.ensures.unread
    c.ecall-status.ensures.unwritten c.reply.ensures.full
