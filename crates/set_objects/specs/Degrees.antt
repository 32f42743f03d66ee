-- An angle in degrees, of milliarcseconds: this project's profile. A degree has 3,600,000 milliarcseconds. Seven
-- decimals are written, rounded to the nearest, so that no two angles are written alike. Cited by the object of a set.
use Rattle.std.specs.Prelude.{ℕ, ◌+◌, ◌*◌, ◌/◌, ◌%◌, ℤ, pos, int_lt, unsigned_abs, List, [], ◌∷◌, codes, decimal, if◌then◌else◌}
use Rattle.std.specs.List.{concat}
use Rattle.msd_values.specs.Texts.{character}

-- the digit of a number at the place whose unit is given
abbrev pub digit_at : ℕ → ℕ → ℕ
digit_at unit n = character (codes "0") + n / unit % 10

-- the last seven digits of a number
abbrev pub seven_digits : ℕ → List ℕ
seven_digits n =
    digit_at 1000000 n ∷ digit_at 100000 n ∷ digit_at 10000 n ∷ digit_at 1000 n ∷ digit_at 100 n ∷ digit_at 10 n
    ∷ digit_at 1 n ∷ []

-- Ten million times the part of a degree that so many milliarcseconds are, to the nearest: 25 / 9 of them.
abbrev pub decimals_of : ℕ → ℕ
decimals_of rest = (25 * rest + 4) / 9

abbrev pub sign_text : ℤ → List ℕ
sign_text angle = if int_lt angle (pos 0) then codes "-" else []

unfoldable pub degrees_text : ℤ → List ℕ
degrees_text angle =
    concat (
    sign_text angle
    ∷ decimal (unsigned_abs angle / 3600000)
    ∷ codes "."
    ∷ seven_digits (decimals_of (unsigned_abs angle % 3600000))
    ∷ []
    )
