use Rattle.std.specs.Prelude.{map}
use Rattle.std.specs.String.{string_bytes}
use Rattle.call_io.proofs.BlockLemmas.{Onward-append}
use Rattle.ecall_top.specs.Commands.{command_of}
use Rattle.ecall_top.proofs.Handed.{handed_over, handed_read, handed_memory}
use Rattle.ecall_top.proofs.carry_out.Goals as goal

pub returns-clause-ends : goal.returns-clause-ends
returns-clause-ends g c =
    handed_over (command_of (map string_bytes c.args.words.now)) g.O.Sink.held (g.I.Source.left c.args.input.now)
    (g.I.Source.left c.reply-status.new.input) c.args.moments.now c.reply-status.new.moments c.args.output.now
    c.reply-status.new.output c.hand_over.new.output c.requires
    (Onward-append _ _ _ c.reply-status.ensures.onward c.hand_over.ensures.onward) c.hand_over.ensures.kept
    c.reply-status.result c.hand_over.result c.hand_over.ensures.over c.reply-status.ensures.ends

pub returns-clause-in_place : goal.returns-clause-in_place
returns-clause-in_place g c =
    λ wants. c.reply-status.ensures.in_place
    (handed_memory c.reply-status.result c.hand_over.result _ c.hand_over.ensures.over wants)

pub returns-clause-unread : goal.returns-clause-unread
returns-clause-unread g c =
    handed_read c.reply-status.result c.hand_over.result _ _ _ c.hand_over.ensures.over c.reply-status.ensures.unread

pub returns-clause-unwritten : goal.returns-clause-unwritten
returns-clause-unwritten g c = c.hand_over.ensures.unwritten _ c.reply-status.ensures.unwritten
