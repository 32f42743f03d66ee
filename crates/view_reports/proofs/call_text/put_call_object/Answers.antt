use Rattle.std.proofs.Common.{codes}
use Rattle.view_lines.proofs.PiecesLemmas.{four}
use Rattle.view_reports.specs.EndTexts.{call_object}
use Rattle.view_reports.proofs.BreaksLemmas.{extended}
use Rattle.view_reports.proofs.call_text.put_call_object.Goals as goal

pub returns : goal.returns
unfolding call_object
returns c =
    four c.extend_from_slice.result c.args.text.now.items _ _ _ (codes "}\n") _ _ _ _ c.in_ok-put_head.ensures
    c.in_ok-put_side_object.ensures c.in_ok-put_side_object-2.ensures
    (extended c.extend_from_slice.result c.put_side_object-2.new.text.items c.extend_from_slice.new.self.items
    (codes "}\n") c.extend_from_slice.ensures.items)
