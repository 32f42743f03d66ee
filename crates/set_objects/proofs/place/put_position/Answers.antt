use Rattle.set_objects.specs.Object.{position_fields}
use Rattle.view_lines.proofs.PiecesLemmas.{three}
use Rattle.set_objects.proofs.place.put_position.Goals as goal

pub returns : goal.returns
unfolding position_fields
returns c =
    three c.put_longitude.result c.args.text.now.items _ _ _ _ _ _ c.in_ok-put_time.ensures c.in_ok-put_latitude.ensures
    c.put_longitude.ensures
