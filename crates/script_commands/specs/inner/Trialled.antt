-- What a script that is made says, and what its events so far came to. This project's profile. Cited by the contracts
-- of private functions of `trial`.
use Rattle.std.specs.Prelude.{◌≡◌, ℕ, zero, suc, ◌+◌, ◌*◌, ◌≤◌, pos, true, false, List, [], ◌∷◌, ◌++◌, length, codes, None}
use Rattle.msd_fit.specs.declared.cause.Cause.TheVariants as cause
use Rattle.msd_fit.specs.declared.facts.Facts.{Facts}
use Rattle.msd_fit.specs.declared.facts.OwnFacts.{OwnFacts}
use Rattle.trace_text.specs.Facts.{no_marks, usual_format}
use Rattle.trace_model.specs.Tallies.{tally_of}
use Rattle.trace_model.specs.declared.event.Event.{Event}
use Rattle.trace_model.specs.declared.event.Event.TheVariants as event
use Rattle.trace_model.specs.declared.tally.Tally.{Tally}
use Rattle.channel_sim.specs.declared.play.Play.{Play}
use Rattle.channel_sim.specs.Lines.{bound, trace, world_after}
use Rattle.channel_sim.specs.World.{first_world}
use Rattle.channel_sim.specs.PlayStands.{PlayStandsFor, calls_drawn, ticks_reached}
use Rattle.script_commands.specs.declared.make.CallTimes.{CallTimes}
use Rattle.script_commands.specs.Make.{call_times, x_behind}

-- the facts that the script begins with
abbrev pub made_own : OwnFacts
made_own = record {
  format = usual_format;
  vin = codes "WM9VDSVDSYA123456";
  kind = 1;
  fuel = record no_marks { gasoline = true };
  time = 1577836800;
  latitude = pos 173880000;
  longitude = pos 41700000;
  heading = 45;
  trusted = true;
  before1 = None;
  before2 = None;
  passengers = None;
  extras = record { items = [] };
}

-- the events of the call of a number
abbrev pub call_events : ℕ → CallTimes → List Event
call_events call times =
    event.Flow true times.up
    ∷ event.Flow false times.down
    ∷ event.Trigger cause.Auto
    ∷ event.Answer
    ∷ event.Tick times.request
    ∷ event.Request call
    ∷ event.Tick times.clear
    ∷ event.Clear call
    ∷ event.Tick 40
    ∷ event.Hangup call
    ∷ []

-- the events of so many calls
unfoldable pub events_of_calls : (seed calls : ℕ) → List Event
events_of_calls seed zero = []
events_of_calls seed (suc calls) =
    events_of_calls seed calls ++ call_events (calls + 1) (call_times (x_behind seed calls))

-- the most events that the script has
abbrev pub most_events : ℕ
most_events = 20000

-- The world and the counts behind these events, and how often ends were passed since a count stood at the start. Few
-- calls were drawn, and few ticks reached.
pub record Counted (start : ℕ) (known : Facts) (events : List Event) (world : Play) (tally : Tally) (passes : ℕ)
    : Type 0 where
  pub stands : PlayStandsFor world (world_after (first_world known) events)
  pub told : tally ≡ tally_of (trace known events)
  pub calls : calls_drawn world ≤ length events
  pub ticks : ticks_reached world ≤ length events * 4294967295
  pub bounded : passes ≤ start + bound known events
