use Rattle.ecall_c.proofs.MessageSteps.{fault_told, part_told}
use Rattle.ecall_c.proofs.message_reading.take.Goals as goal

pub returns-in-Ok-Part : goal.returns-in-Ok-Part
returns-in-Ok-Part c =
    part_told c.args.end c.args.reader.now c.take.new.self c.args.place c.args.octet c.in-Ok-Part.part _ _
    c.requires.stands.none c.flatten_part.ensures c.found.ensures (rw c.in-Ok-Part.field-0-is at c.in-Ok-Part.ensures)

pub returns-in-Err : goal.returns-in-Err
returns-in-Err c =
    fault_told c.args.end c.args.reader.now c.take.new.self c.args.place c.args.octet c.in-Err.fault _
    c.requires.stands.none c.stopped.ensures c.in-Err.ensures
