use Rattle.std.proofs.Common.{arith, ◌∙◌, ap, slice_set}
use Rattle.std.proofs.lemmas.List.{map-set}
use Rattle.call_clock.specs.Clock.{seen}
use Rattle.call_clock.proofs.Clock.{seen_started}
use Rattle.call_clock.proofs.timers.Timers.start.Goals as goal

-- A write at a rank is seen there, as a timer that starts.
pub returns : goal.returns
returns c =
    rw (← c.self.view_is)
    (map-set (seen c.self.inside.time) c.self.inside.places c.args.rank _
    ∙ ap (slice_set _ c.args.rank) (seen_started c.self.inside.time c.args.length (omega arith) (omega arith)))
