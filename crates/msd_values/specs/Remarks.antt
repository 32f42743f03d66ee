-- Which values of a set make no sense, though the set is lawful: this project's profile. Cited by
-- `find_remarks` and by the definition of a set's description.
use Rattle.std.specs.Prelude.{ℕ, ◌&&◌, ◌||◌, not, nat_le, ℤ, pos, neg_ℤ, int_lt, Bool}
use Rattle.std.specs.Ordering.{int_eq}
use Rattle.msd_values.specs.declared.msd.Msd.{Msd}
use Rattle.msd_values.specs.declared.remarks.Remarks.{Remarks}

-- the number by which a set says that it doesn't know a latitude or a longitude
abbrev pub unknown_angle : ℤ
unknown_angle = pos 2147483647

-- an angle that is known, and lies beyond the limit to either side, in milliarcseconds
abbrev pub is_beyond : ℕ → ℤ → Bool
is_beyond limit angle =
    (int_lt angle (neg_ℤ (pos limit)) || int_lt (pos limit) angle) && not (int_eq angle unknown_angle)

-- a heading that is known, and is no step of 2 degrees of one turn
abbrev pub is_past_a_turn : ℕ → Bool
is_past_a_turn heading = nat_le 180 heading && nat_le heading 254

-- 90 degrees are 324,000,000 milliarcseconds, and 180 degrees 648,000,000
abbrev pub remarks_of : Msd → Remarks
remarks_of msd = record {
  latitude = is_beyond 324000000 msd.latitude;
  longitude = is_beyond 648000000 msd.longitude;
  heading = is_past_a_turn msd.heading;
}
