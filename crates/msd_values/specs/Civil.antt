-- The civil date and the time of day in UTC of a number of seconds since 1970-01-01T00:00:00Z, after the
-- Gregorian calendar, and how they are written, after ISO 8601. The years and then the months are counted
-- down from 1970-01-01, by the days that each of them has. Cited by the definition of a set's description.
use Rattle.std.specs.Prelude.{ℕ, zero, suc, ◌+◌, ◌-◌, ◌/◌, ◌%◌, nat_lt, pos, List, [], ◌∷◌, ◌++◌, codes, if◌then◌else◌}
use Rattle.jiff_core.specs.Calendar.{days_in_year, days_in_month}
use Rattle.msd_values.specs.Texts.{character}

-- the year in which the day lies that comes so many days after the first of the year, and how many of
-- that year's days come before it; it is one of the next years, as many as the first number says
unfoldable pub year_of : ℕ → ℕ → ℕ → ℕ × ℕ
year_of zero year days = (year, days)
year_of (suc years) year days =
    if nat_lt days (days_in_year (pos year))
    then (year, days)
    else year_of years (suc year) (days - days_in_year (pos year))

-- the month and the day of the month, from 1 each, of the day that comes so many days after the first of
-- the month; it is one of the next months of the year, as many as the first number says
unfoldable pub month_of : ℕ → ℕ → ℕ → ℕ → ℕ × ℕ
month_of zero year month days = (month, days + 1)
month_of (suc months) year month days =
    if nat_lt days (days_in_month (pos year) month)
    then (month, days + 1)
    else month_of months year (suc month) (days - days_in_month (pos year) month)

pub record CivilDate : Type 0 where
  pub year : ℕ
  pub month : ℕ
  pub day : ℕ

-- the date that comes so many days after 1970-01-01, of which 32 bits of seconds make fewer than 200 years
unfoldable pub date_of : ℕ → CivilDate
date_of days =
    let year = year_of 200 1970 days in
    let month = month_of 12 year.0 1 year.1 in
    record { year = year.0; month = month.0; day = month.1 }

-- a number below 100 in two digits
abbrev pub two_digits : ℕ → List ℕ
two_digits n = (character (codes "0") + n / 10) ∷ (character (codes "0") + n % 10) ∷ []

-- a number below 10000 in four digits
abbrev pub four_digits : ℕ → List ℕ
four_digits n = two_digits (n / 100) ++ two_digits (n % 100)

-- YYYY-MM-DD
abbrev pub date_text : CivilDate → List ℕ
date_text date = four_digits date.year ++ (codes "-" ++ (two_digits date.month ++ (codes "-" ++ two_digits date.day)))

-- hh:mm:ss, of the seconds since 1970-01-01T00:00:00Z
abbrev pub clock_text : ℕ → List ℕ
clock_text seconds =
    two_digits (seconds / 3600 % 24)
    ++ (codes ":" ++ (two_digits (seconds / 60 % 60) ++ (codes ":" ++ two_digits (seconds % 60))))

-- YYYY-MM-DDThh:mm:ssZ, of the seconds since 1970-01-01T00:00:00Z
unfoldable pub instant_text : ℕ → List ℕ
instant_text seconds = date_text (date_of (seconds / 86400)) ++ (codes "T" ++ (clock_text seconds ++ codes "Z"))
