-- The date that a count of days gives is the one whose days are counted so.
use Rattle.std.proofs.Common.{◌≡◌, ℕ, zero, suc, ◌+◌, ◌-◌, ◌*◌, ◌/◌, ◌%◌, ◌^◌, ◌<◌, ◌≤◌, nat_lt, ℤ, pos, negsuc, ◌*ℤ◌, ◌+ℤ◌, refl, sym, ap, subst, ◌∙◌, arith, add-one, cond, true, false, Bool}
use Rattle.std.specs.Prelude.{◌≤ℤ◌, neg_ℤ}
use Rattle.std.proofs.lemmas.Bool.Decides.{nat_tests}
use Rattle.std.proofs.lemmas.Int.{ints}
use Rattle.jiff_core.specs.DateTime.{civil_nanos}
use Rattle.jiff_core.specs.Time.{time_nanos, time_seconds}
use Rattle.jiff_core.specs.declared.civil.datetime.DateTime.{DateTime}
use Rattle.jiff_core.specs.Calendar.{days_from_civil, days_in_year, days_in_month, day_count, IsCivilDate, IsYear}
use Rattle.jiff_core.proofs.CalendarLemmas.{days_from_civil-day_count, day_count-epoch, day_count-next_year, day_count-year_is, day_count-next_month, day_count-lt_month, day_count-day, days_in_year_bounds}
use Rattle.msd_values.specs.inner.Clock.{IsCivilTime}
use borrow.Author.Differences.{up, down}
use Rattle.msd_values.specs.Civil.{year_of, month_of, date_of}

test_true : (a b : ℕ) → nat_lt a b ≡ true → a < b
test_true a b e = grind (arith, nat_tests)

test_false : (a b : ℕ) → nat_lt a b ≡ false → b ≤ a
test_false a b e = grind (arith, nat_tests)

next_number : (n : ℕ) → pos (suc n) ≡ pos n +ℤ pos 1
next_number n = omega (arith, ints)

after_all : (n : ℕ) → neg_ℤ (pos 10000) ≤ℤ pos n
after_all n = omega (arith, ints)

in_calendar : (n : ℕ) → n ≤ 9999 → IsYear (pos n)
in_calendar n low = (omega (arith, ints), omega (arith, ints))

-- one year, which has the day or doesn't
year_step : (b : Bool) (year days : ℕ) (later : ℕ × ℕ) (y : ℤ) (m d : ℕ)
    → IsCivilDate y m d
    → year ≤ 9999
    → day_count y m d ≡ day_count (pos year) 1 1 + days
    → nat_lt days (days_in_year (pos year)) ≡ b
    → (b ≡ false → (y ≡ pos later.0) × (day_count y m d ≡ day_count y 1 1 + later.1))
    → (y ≡ pos (cond b (year, days) later).0) × (day_count y m d ≡ day_count y 1 1 + (cond b (year, days) later).1)
year_step true year days later y m d civil low at test other =
    let within : days < days_in_year (pos year) = test_true days (days_in_year (pos year)) test in
    let here : y ≡ pos year = day_count-year_is (pos year) y m d (in_calendar year low) civil (omega arith) (omega arith) in
    (here, at ∙ ap (λ z. day_count z 1 1 + days) (sym here))
year_step false year days later y m d civil low at test other = other refl

-- counting the years down ends in the year of the date
pub year_of_is : (years year days : ℕ) (y : ℤ) (m d : ℕ)
    → IsCivilDate y m d
    → year + years ≤ 9999
    → day_count y m d ≡ day_count (pos year) 1 1 + days
    → days < 365 * years
    → (y ≡ pos (year_of years year days).0) × (day_count y m d ≡ day_count y 1 1 + (year_of years year days).1)
unfolding year_of
year_of_is zero year days y m d civil low at few = absurd (omega arith)
year_of_is (suc years) year days y m d civil low at few =
    let length_of_year = days_in_year_bounds (pos year) in
    let next = day_count-next_year (pos year) (pos (suc year)) (after_all year) (next_number year) in
    year_step (nat_lt days (days_in_year (pos year))) year days (year_of years (suc year) (days - days_in_year (pos year))) y m d civil (omega arith) at refl
    (λ no.
    let beyond : days_in_year (pos year) ≤ days = test_false days (days_in_year (pos year)) no in
    year_of_is years (suc year) (days - days_in_year (pos year)) y m d civil (omega arith) (omega arith) (omega arith))

least : (a b : ℕ) → (a < b → ⊥) → b ≤ a
least a b not = omega arith

-- one month, which has the day or doesn't
month_step : (b : Bool) (year month days : ℕ) (later : ℕ × ℕ) (y : ℤ) (m d : ℕ)
    → IsCivilDate y m d
    → y ≡ pos year
    → 1 ≤ month
    → month ≤ 12
    → day_count y m d ≡ day_count y month 1 + days
    → nat_lt days (days_in_month (pos year) month) ≡ b
    → (b ≡ false → (m ≡ later.0) × (d ≡ later.1))
    → (m ≡ (cond b (month, days + 1) later).0) × (d ≡ (cond b (month, days + 1) later).1)
month_step true year month days later y m d civil same low high at test other =
    let within : days < days_in_month y month = subst (λ z. days < days_in_month z month) (sym same) (test_true days (days_in_month (pos year) month) test) in
    let first : day_count y month (days + 1) + 1 ≡ day_count y month 1 + (days + 1) = day_count-day y month (days + 1) 1 (omega arith) (omega arith) in
    let there : IsCivilDate y month (days + 1) = (civil.0, (low, high), (omega arith, omega arith)) in
    let some : 1 ≤ d = civil.2.0 in
    let not_before : m < month → ⊥ = λ before. omega (arith, day_count-lt_month y m d month 1 civil (omega arith) before) in
    let not_after : month < m → ⊥ = λ behind. omega (arith, day_count-lt_month y month (days + 1) m d there some behind) in
    let same_month : m ≡ month = omega (arith, least m month not_before, least month m not_after) in
    let day : day_count y m d + 1 ≡ day_count y m 1 + d = day_count-day y m d 1 some (omega arith) in
    let day_here : day_count y m d + 1 ≡ day_count y month 1 + d = subst (λ n. day_count y m d + 1 ≡ day_count y n 1 + d) same_month day in
    (same_month, omega arith)
month_step false year month days later y m d civil same low high at test other = other refl

-- counting the months down ends in the month and the day of the date
pub month_of_is : (months year month days : ℕ) (y : ℤ) (m d : ℕ)
    → IsCivilDate y m d
    → y ≡ pos year
    → 1 ≤ month
    → month + months ≡ 13
    → day_count y m d ≡ day_count y month 1 + days
    → (m ≡ (month_of months year month days).0) × (d ≡ (month_of months year month days).1)
unfolding month_of
month_of_is zero year month days y m d civil same low all at =
    let last : m < month = omega (arith, civil.1.1) in
    absurd (omega (arith, day_count-lt_month y m d month 1 civil (omega arith) last))
month_of_is (suc months) year month days y m d civil same low all at =
    let next : day_count y (month + 1) 1 ≡ day_count y month 1 + days_in_month y month = day_count-next_month y month low in
    let next_here : day_count y (suc month) 1 ≡ day_count y month 1 + days_in_month (pos year) month =
    subst (λ n. day_count y n 1 ≡ day_count y month 1 + days_in_month (pos year) month) (add-one month)
    (subst (λ z. day_count y (month + 1) 1 ≡ day_count y month 1 + days_in_month z month) same next) in
    month_step (nat_lt days (days_in_month (pos year) month)) year month days (month_of months year (suc month) (days - days_in_month (pos year) month)) y m d civil same low (omega arith) at refl
    (λ no.
    let beyond : days_in_month (pos year) month ≤ days = test_false days (days_in_month (pos year) month) no in
    month_of_is months year (suc month) (days - days_in_month (pos year) month) y m d civil same (omega arith) (omega arith) (omega arith))

-- The date whose days are counted so many after 1970-01-01 is the one that the count gives.
pub date_of_is : (days : ℕ) (y : ℤ) (m d : ℕ)
    → IsCivilDate y m d
    → day_count y m d ≡ day_count (pos 1970) 1 1 + days
    → days < 73000
    → (y ≡ pos (date_of days).year) × (m ≡ (date_of days).month) × (d ≡ (date_of days).day)
unfolding date_of
date_of_is days y m d civil at few =
    let year = year_of_is 200 1970 days y m d civil (omega arith) at (omega arith) in
    let month = month_of_is 12 (year_of 200 1970 days).0 1 (year_of 200 1970 days).1 y m d civil year.0 (omega arith) (omega arith) year.1 in
    (year.0, month.0, month.1)

-- the days since 1970 are no negative number
days_since : (day : ℤ) (n t : ℕ) → n < 86400000000000 → day *ℤ pos 86400000000000 +ℤ pos n ≡ pos t *ℤ pos 1000000000 → (k : ℕ) × (day ≡ pos k) × (k * 86400000000000 + n ≡ t * 1000000000)
days_since (pos k) n t small at = (k, refl, omega (arith, ints))
days_since (negsuc k) n t small at = absurd (omega (arith, ints))

-- days and seconds, of nanoseconds
seconds_of : (e t n f : ℕ) → f < 1000000000 → e * 86400000000000 + (n * 1000000000 + f) ≡ t * 1000000000 → e * 86400 + n ≡ t
seconds_of e t n f small at = omega arith

-- the day and the time of day, of seconds
day_and_clock : (e h m s t : ℕ) → h < 24 → m < 60 → s < 60 → e * 86400 + (h * 3600 + m * 60 + s) ≡ t
    → (e ≡ t / 86400) × (h ≡ t / 3600 % 24) × (m ≡ t / 60 % 60) × (s ≡ t % 60)
day_and_clock e h m s t hs ms ss at = (omega arith, omega arith, omega arith, omega arith)

-- what is shown at an instant of 32 bits of seconds
pub civil_time_is : (civil : DateTime) (t : ℕ) → t < 2 ^ 32 → civil_nanos civil ≡ pos t *ℤ pos 1000000000 → IsCivilTime civil t
unfolding civil_nanos
civil_time_is civil t small at =
    let h : civil.time.hour < 24 = civil.time.hour_in in
    let m : civil.time.minute < 60 = civil.time.minute_in in
    let s : civil.time.second < 60 = civil.time.second_in in
    let f : civil.time.subsec_nanosecond < 1000000000 = civil.time.subsec_in in
    let days = days_since (days_from_civil civil.date.year civil.date.month civil.date.day) (time_nanos civil.time) t (omega arith) at in
    let clock = day_and_clock days.0 civil.time.hour civil.time.minute civil.time.second t h m s
    (seconds_of days.0 t (time_seconds civil.time) civil.time.subsec_nanosecond f days.2) in
    let count = subst (λ (z : ℤ). up z + 4371953 ≡ down z + day_count civil.date.year civil.date.month civil.date.day) days.1
    (days_from_civil-day_count civil.date.year civil.date.month civil.date.day) in
    let count_here : day_count civil.date.year civil.date.month civil.date.day ≡ day_count (pos 1970) 1 1 + days.0 = omega (arith, day_count-epoch, count) in
    let date = date_of_is days.0 civil.date.year civil.date.month civil.date.day (civil.date.year_in, civil.date.month_in, civil.date.day_in) count_here (omega (arith, clock.0)) in
    record {
      year = date.0 ∙ ap (λ e. pos (date_of e).year) clock.0;
      month = date.1 ∙ ap (λ e. (date_of e).month) clock.0;
      day = date.2 ∙ ap (λ e. (date_of e).day) clock.0;
      hour = clock.1;
      minute = clock.2;
      second = clock.3;
    }
