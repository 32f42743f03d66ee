use Rattle.std.specs.Prelude.{Some}
use Rattle.call_io.proofs.BlockLemmas.{Onward-append}
use Rattle.ecall_top.proofs.Handed.{handed_memory, handed_over, handed_read}
use Rattle.page_answers.proofs.in_place.carry_out_in_place.Goals as goal

pub returns-clause-ends : goal.returns-clause-ends
returns-clause-ends g c =
    handed_over (Some c.args.command) g.O.Sink.held (g.I.Source.left c.args.input.now)
    (g.I.Source.left c.reply_in_place-status.new.input) 0 0 c.args.output.now
    c.reply_in_place-status.new.output c.hand_over.new.output c.requires.nothing
    (Onward-append _ _ _ c.reply_in_place-status.ensures.onward c.hand_over.ensures.onward) c.hand_over.ensures.kept
    c.reply_in_place-status.result c.hand_over.result c.hand_over.ensures.over
    c.reply_in_place-status.ensures.ends

pub returns-clause-in_place : goal.returns-clause-in_place
returns-clause-in_place g c =
    λ wants. c.reply_in_place-status.ensures.in_place
    (handed_memory c.reply_in_place-status.result c.hand_over.result _ c.hand_over.ensures.over wants)

pub returns-clause-unread : goal.returns-clause-unread
returns-clause-unread g c =
    handed_read c.reply_in_place-status.result c.hand_over.result _ _ _ c.hand_over.ensures.over
    c.reply_in_place-status.ensures.unread

pub returns-clause-unwritten : goal.returns-clause-unwritten
returns-clause-unwritten g c = c.hand_over.ensures.unwritten _ c.reply_in_place-status.ensures.unwritten
