-- What `jiff_core` shows of an instant, in terms of the civil date that a set's description has. Cited by the
-- function that asks it for the date.
use Rattle.std.specs.Prelude.{◌≡◌, ℕ, ◌/◌, ◌%◌, pos}
use Rattle.jiff_core.specs.declared.civil.datetime.DateTime.{DateTime}
use Rattle.msd_values.specs.Civil.{date_of}

-- the date and the time of day of so many seconds after 1970-01-01T00:00:00Z
pub record IsCivilTime (civil : DateTime) (seconds : ℕ) : Type 0 where
  pub year : civil.date.year ≡ pos (date_of (seconds / 86400)).year
  pub month : civil.date.month ≡ (date_of (seconds / 86400)).month
  pub day : civil.date.day ≡ (date_of (seconds / 86400)).day
  pub hour : civil.time.hour ≡ seconds / 3600 % 24
  pub minute : civil.time.minute ≡ seconds / 60 % 60
  pub second : civil.time.second ≡ seconds % 60
