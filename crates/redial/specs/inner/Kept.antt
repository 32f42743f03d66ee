-- What a series keeps while a step is under way. This project's own; cited by the contracts of private functions alone.
use Rattle.std.specs.Prelude.{◌<◌, ◌^◌}
use Rattle.redial.specs.declared.series.Phase.{Phase}
use Rattle.redial.specs.declared.series.Phase.TheVariants.{Dialling, Pausing, Seeking, Over}
use Rattle.redial.specs.declared.series.Series.{Series}
use Rattle.redial.specs.Series.{most_attempts}

-- where the next move may be an attempt, one is left
abbrev pub MayDial : Series → Phase → Type 0
MayDial s (Dialling ticks) = Unit {0}
MayDial s (Pausing ticks) = s.attempts < most_attempts
MayDial s Seeking = s.attempts < most_attempts
MayDial s Over = Unit {0}

-- the sums that run are numbers of the code
abbrev pub IsGrownIn : Series → Phase → Type 0
IsGrownIn s (Dialling ticks) = (ticks < 2 ^ 32) × (s.ticks < 2 ^ 32)
IsGrownIn s (Pausing ticks) = (ticks < 2 ^ 32) × (s.ticks < 2 ^ 32)
IsGrownIn s Seeking = s.ticks < 2 ^ 32
IsGrownIn s Over = Unit {0}
