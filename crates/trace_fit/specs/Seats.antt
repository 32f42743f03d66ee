-- Both ends of a call as seats: where an end is in the call, and how that fits what the entries say of its leg. This
-- project's profile. Cited by the definitions of the world, by the invariant of the world and by the laws of joint
-- traces.
use Rattle.std.specs.Prelude.{◌≡◌, ℕ, ◌+◌, ◌==◌, Bool, true, false, List, Option, Some, None, if◌then◌else◌}
use Rattle.link_frames.specs.Legs.{Kept}
use Rattle.link_frames.specs.Owes.{Seat}
use Rattle.ivs_machine.specs.Vehicle.{Vehicle, vehicle_call}
use Rattle.ivs_machine.specs.VehicleOwes.{seat_of}
use Rattle.psap_machine.specs.Point.{Point, Phase, Over}
use Rattle.psap_machine.specs.PointKept as point
use Rattle.psap_machine.specs.PointOwes as session
use Rattle.trace_model.specs.Safety.{Leg}

abbrev pub is_number : ℕ → Option ℕ → Bool
is_number c None = false
is_number c (Some d) = d == c

-- what a session leaves: one that is over is gone
abbrev pub unless_over : Point → Phase → Option Point
unless_over s Over = None
unless_over s p = Some s

abbrev pub left_by : Point → Option Point
left_by s = unless_over s s.phase

-- the vehicle's seat in a call, if it is in it
abbrev pub vehicle_seat : ℕ → Vehicle → Option Seat
vehicle_seat c v = if is_number c (vehicle_call v) then seat_of v else None

-- the seat of a session, if there is one
abbrev pub point_seat : Option Point → Option Seat
point_seat None = None
point_seat (Some s) = session.seat_of s

-- An end is in a call as the entries say: its leg is up, its voice is as they say and has been so since the tick that
-- they say, and the sets that it made or showed are exactly theirs.
pub record SeatFits (now : ℕ) (k : Seat) (leg : Leg) (had : List Kept) : Type 0 where
  pub up : leg.up ≡ true
  pub talks : leg.talks ≡ k.talks
  pub time : leg.since + k.ticks ≡ now
  pub sets : had ≡ k.sets

-- an end that isn't in the call has no leg up by the entries
abbrev pub LegFits : (now : ℕ) → Option Seat → Leg → List Kept → Type 0
LegFits now None leg sets = leg.up ≡ false
LegFits now (Some k) leg sets = SeatFits now k leg sets

-- a session is its call's, isn't over, and keeps what the states of a session keep
pub record IsSessionOf (c : ℕ) (s : Point) : Type 0 where
  pub call : s.call ≡ c
  pub stays : left_by s ≡ Some s
  pub kept : point.IsKept s
