-- Nothing was said yet.
use Rattle.std.specs.Prelude.{◌≡◌, [], None}
use Rattle.std.proofs.Common.{arith, refl}
use Rattle.trace_text.specs.Script.{nothing_said}
use Rattle.script_stage.specs.Stage.{StageStandsFor, calls_in, ticks_in}
use Rattle.script_stage.specs.declared.stage.Stage.{Stage}
use Rattle.relay_watch.specs.Clocks.{clock_of, first_clock}
use Rattle.relay_watch.specs.declared.clock.DeskClock.{DeskClock}
use Rattle.relay_command.specs.inner.Seen.{RelaySeen, RelayStands}

abbrev pub first_seen : RelaySeen
first_seen = record { said = nothing_said; events = []; scene = None }

pub relay_first : (stage : Stage) (kept : DeskClock) → StageStandsFor stage nothing_said [] → calls_in stage ≡ 0
    → ticks_in stage ≡ 0 → clock_of kept ≡ first_clock → RelayStands 0 first_seen stage kept
relay_first stage kept stands calls ticks clock =
    record {
      stage_stands = stands;
      scene_stands = (refl, refl, clock);
      early = record { calls = omega (arith, calls); ticks = omega (arith, ticks) };
    }
