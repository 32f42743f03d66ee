use Rattle.view_lines.proofs.PiecesLemmas.{three}
use Rattle.view_traces.specs.Object.{leg_fields}
use Rattle.view_traces.proofs.note.put_leg.Goals as goal

pub returns : goal.returns
unfolding leg_fields
returns c =
    three c.put_number.result c.args.text.now.items _ _ _ _ _ _ c.in_ok-put_item.ensures c.in_ok-put_end.ensures
    c.put_number.ensures
