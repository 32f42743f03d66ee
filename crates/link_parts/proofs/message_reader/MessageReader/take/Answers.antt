use Rattle.std.proofs.Common.{refl, sym, ◌∙◌}
use Rattle.link_parts.proofs.MessageLemmas.{more_parts, wrong_part}
use Rattle.link_parts.proofs.message_reader.MessageReader.take.Goals as goal

pub returns-in-Err : goal.returns-in-Err
returns-in-Err c =
    wrong_part c.args.end c.args.self.now _ c.args.octet c.in-Err.fault (sym c.is_end.ensures ∙ c.if-is_end.false)
    (sym c.is_script_end.ensures ∙ c.if-is_script_end.false) c.in-Err.ensures

pub returns-in-Ok-Some : goal.returns-in-Ok-Some
returns-in-Ok-Some c =
    more_parts c.args.end c.args.self.now _ c.args.octet c.in-Ok-Some.part (sym c.is_end.ensures ∙ c.if-is_end.false)
    (sym c.is_script_end.ensures ∙ c.if-is_script_end.false) refl (rw c.in-Ok-Some.field-0-is at c.in-Ok-Some.ensures)
