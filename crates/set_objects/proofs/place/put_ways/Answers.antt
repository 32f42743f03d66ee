use Rattle.set_objects.specs.Object.{way_fields}
use Rattle.view_lines.proofs.PiecesLemmas.{four}
use Rattle.set_objects.proofs.place.put_ways.Goals as goal

pub returns : goal.returns
unfolding way_fields
returns c =
    four c.put_passengers.result c.args.text.now.items _ _ _ _ _ _ _ _ c.in_ok-put_heading.ensures
    c.in_ok-put_way.ensures c.in_ok-put_way-2.ensures c.put_passengers.ensures
