-- How often ends are passed in a part of a step. A reader of `ecall` need not believe it: `step` and `advance` cite
-- `passes_within` in its place. Cited by the parts of elapsed time that a `World` gives away, and by private functions.
use Rattle.std.specs.Prelude.{ℕ, ◌+◌, length}
use Rattle.channel_sim.specs.World.{Step}

-- once for each entry, and for each frame handed over
abbrev pub passes_of : Step → ℕ
passes_of s = length s.entries + s.handed
