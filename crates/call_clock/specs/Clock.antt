-- How the code keeps timers: as deadlines on a clock of 2 ^ 32 ticks that goes round. This project's own; cited by
-- the model of `Timers`.
use Rattle.std.specs.Prelude.{ℕ, List, Option, Some, None, ◌≤◌, ◌<◌, ◌+◌, ◌-◌, ◌%◌, ◌^◌, map, IfSome}
use Rattle.std.specs.List.{AllByRecursion}
use Rattle.call_clock.specs.declared.timers.Timer.{Timer}
use Rattle.call_clock.specs.Timers.{Place}

-- the ticks from one time of the clock to another
abbrev pub ticks_until : (now deadline : ℕ) → ℕ
ticks_until now deadline = (deadline + (2 ^ 32 - now)) % 2 ^ 32

-- the timer that a deadline stands for
abbrev pub seen : (now : ℕ) → Option Timer → Place
seen now None = None
seen now (Some timer) =
    Some (record { lasts = timer.length; elapsed = timer.length - ticks_until now timer.deadline })

abbrev pub all_seen : (now : ℕ) → List (Option Timer) → List Place
all_seen now places = map (seen now) places

-- no timer is further from its deadline than it lasts
pub record IsAhead (now : ℕ) (timer : Timer) : Type 0 where
  pub fits : timer.deadline < 2 ^ 32
  pub within : ticks_until now timer.deadline ≤ timer.length

abbrev pub AreAhead : (now : ℕ) → List (Option Timer) → Type 0
AreAhead now places = AllByRecursion (λ place. IfSome place (IsAhead now)) places
