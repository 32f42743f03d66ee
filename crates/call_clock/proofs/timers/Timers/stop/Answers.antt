use Rattle.std.proofs.Common.{None}
use Rattle.std.proofs.lemmas.List.{map-set}
use Rattle.call_clock.specs.Clock.{seen}
use Rattle.call_clock.proofs.timers.Timers.stop.Goals as goal

-- A write at a rank is seen there, as no timer.
pub returns-then-rank-lt-RANKS : goal.returns-then-rank-lt-RANKS
returns-then-rank-lt-RANKS c = rw (← c.self.view_is) (map-set (seen c.self.inside.time) c.self.inside.places c.args.rank None)
