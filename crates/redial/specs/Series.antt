-- A dial series of the in-vehicle system: what it is doing, and what it keeps. After EN 16072 (redial); the ticks and
-- the number of attempts are this project's profile. Cited by the contracts of `Redial`.
use Rattle.std.specs.Prelude.{ℕ, Bool, true, false, Option, Some, None, ◌≡◌, ◌<◌, ◌≤◌, ◌+◌}
use Rattle.redial.specs.declared.series.Phase.{Phase}
use Rattle.redial.specs.declared.series.Phase.TheVariants.{Dialling, Pausing, Seeking, Over}
use Rattle.redial.specs.declared.series.Series.{Series}

-- TD: one attempt lasts at most so long
abbrev pub longest_attempt : ℕ
longest_attempt = 300

-- TR: the pause between two attempts
abbrev pub pause : ℕ
pause = 50

-- TW: the window in which a series may begin another attempt
abbrev pub window : ℕ
window = 1200

abbrev pub most_attempts : ℕ
most_attempts = 10

abbrev pub is_dialling : Phase → Bool
is_dialling (Dialling ticks) = true
is_dialling (Pausing ticks) = false
is_dialling Seeking = false
is_dialling Over = false

abbrev pub is_over : Phase → Bool
is_over (Dialling ticks) = false
is_over (Pausing ticks) = false
is_over Seeking = false
is_over Over = true

-- the attempt that is under way, by its number
abbrev pub under_way_in : Series → Phase → Option ℕ
under_way_in s (Dialling ticks) = Some s.attempts
under_way_in s (Pausing ticks) = None
under_way_in s Seeking = None
under_way_in s Over = None

abbrev pub under_way : Series → Option ℕ
under_way s = under_way_in s s.phase

-- What a series keeps in each phase: the vehicle dials with network, and seeks without; no timer is at its end.
pub record DialsWithin (s : Series) (in_phase : ℕ) : Type 0 where
  pub least : 1 ≤ s.attempts
  pub most : s.attempts ≤ most_attempts
  pub attempt : in_phase < longest_attempt
  pub began : s.ticks < window + in_phase
  pub net : s.net ≡ true

pub record PausesWithin (s : Series) (in_phase : ℕ) : Type 0 where
  pub least : 1 ≤ s.attempts
  pub most : s.attempts < most_attempts
  pub pause : in_phase < pause
  pub series : s.ticks < window

pub record SeeksWithin (s : Series) : Type 0 where
  pub most : s.attempts < most_attempts
  pub series : s.ticks < window
  pub net : s.net ≡ false

pub record EndedWithin (s : Series) : Type 0 where
  pub most : s.attempts ≤ most_attempts
  pub series : s.ticks < window + longest_attempt

abbrev pub IsKeptIn : Series → Phase → Type 0
IsKeptIn s (Dialling ticks) = DialsWithin s ticks
IsKeptIn s (Pausing ticks) = PausesWithin s ticks
IsKeptIn s Seeking = SeeksWithin s
IsKeptIn s Over = EndedWithin s

abbrev pub IsKept : Series → Type 0
IsKept s = IsKeptIn s s.phase
