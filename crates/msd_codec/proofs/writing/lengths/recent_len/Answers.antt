use Rattle.std.proofs.Common.{ap}
use Rattle.std.specs.Option.{option_map}
use Rattle.std.specs.Prelude.{Option}
use Rattle.msd_values.specs.Position.{Way}
use Rattle.msd_codec.specs.Module.{location_delta}
use Rattle.msd_codec.specs.Trees.{way_tree}
use Rattle.msd_codec.proofs.Lengths.{optional_some, way_length}
use Rattle.msd_codec.proofs.writing.lengths.recent_len.Goals as goal

pub returns-in-Some-clause-count : goal.returns-in-Some-clause-count
returns-in-Some-clause-count c =
    optional_some location_delta _ (way_tree c.in-Some.way) 20 (ap (λ (o : Option Way). option_map way_tree o) c.in-Some.is)
    (way_length c.in-Some.way (simp c.latitude.ensures.value at c.latitude.ensures.range) (simp c.longitude.ensures.value at c.longitude.ensures.range))
