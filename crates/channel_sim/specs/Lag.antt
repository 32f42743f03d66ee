-- A `World` in the midst of elapsed time. An end that is kept may lag: it stands for the state that the model's end had
-- some ticks ago, and since then that end did nothing. How far the model's ends were passed is a clock for the vehicle
-- and one for each call's session, and none was passed less far than up to a floor. A reader of `ecall` need not
-- believe it: `step` and `advance` cite `WorldStandsFor` in its place. Cited by the parts of elapsed time that a
-- `World` gives away to what plays several worlds side by side, by `Play`, and by private functions.
use Rattle.std.specs.Prelude.{◌≡◌, ℕ, ◌≤◌, ◌<◌, ◌+◌, ◌-◌, ◌==◌, ◌||◌, ◌⊎◌, Bool, false, if◌then◌else◌, List, [], ◌∷◌, Option, Some, None, IfSome, Result, MatchResult}
use Rattle.trace_model.specs.declared.entry.Entry.{Entry}
use Rattle.ivs_machine.specs.declared.vehicle.Ivs.{Ivs}
use Rattle.ivs_machine.specs.IvsStands.{IvsStandsFor}
use Rattle.ivs_machine.specs.Vehicle.{Vehicle}
use Rattle.ivs_machine.specs.VehicleRows as vehicle
use Rattle.psap_machine.specs.declared.session.Session.{Session}
use Rattle.psap_machine.specs.Point.{Point}
use Rattle.psap_machine.specs.PointRows as point
use Rattle.psap_machine.specs.SessionStands.{SessionStandsFor, AtRest}
use Rattle.channel_sim.specs.declared.calls.call.Call as kept_call
use Rattle.channel_sim.specs.declared.channel.Channel as kept_channel
use Rattle.channel_sim.specs.World.{Call, World, Step}
use Rattle.trace_fit.specs.Seats.{left_by}
use Rattle.channel_sim.specs.Tidy.{IsTidy}

-- the session that is kept is so many ticks behind this one, which did nothing in them and is not over
pub record SessionLags (n : ℕ) (kept : Session) (s : Point) : Type 0 where
  pub was : Point
  pub stands : SessionStandsFor kept was
  pub aged : s ≡ point.aged n was
  pub quiet : IfSome (point.due_of was) (λ due. n < due)
  pub live : left_by s ≡ Some s

-- the vehicle that is kept is so many ticks behind this one, which did nothing in them
pub record VehicleLags (n : ℕ) (kept : Ivs) (v : Vehicle) : Type 0 where
  pub was : Vehicle
  pub stands : IvsStandsFor kept was
  pub aged : v ≡ vehicle.aged n was
  pub quiet : IfSome (vehicle.due_of was) (λ due. n < due)

abbrev pub SeatLags : ℕ → Option Session → Option Point → Type 0
SeatLags n None None = Unit {0}
SeatLags n None (Some s) = ⊥
SeatLags n (Some k) None = ⊥
SeatLags n (Some k) (Some s) = SessionLags n k s

-- How far the ends were passed at least: sessions that are settled, and all others and the vehicle.
pub record LeastPassed : Type 0 where
  pub settled : ℕ
  pub waking : ℕ

abbrev pub IsFrom : LeastPassed → kept_call.Call → Type 0
IsFrom floor kept = (floor.waking ≤ kept.passed) ⊎ ((floor.settled ≤ kept.passed) × AtRest kept.session)

pub record CallLags (floor : LeastPassed) (clock : ℕ) (kept : kept_call.Call) (k : Call) : Type 0 where
  pub number : k.number ≡ kept.number
  pub up : k.up ≡ kept.up
  pub down : k.down ≡ kept.down
  pub passed : kept.passed ≤ clock
  pub from : IsFrom floor kept
  pub session : SeatLags (clock - kept.passed) kept.session k.session

abbrev pub CallsLag : LeastPassed → (ℕ → ℕ) → List kept_call.Call → List Call → Type 0
CallsLag floor clock [] [] = Unit {0}
CallsLag floor clock [] (k ∷ ks) = ⊥
CallsLag floor clock (x ∷ xs) [] = ⊥
CallsLag floor clock (x ∷ xs) (k ∷ ks) = CallLags floor (clock k.number) x k × CallsLag floor clock xs ks

pub record StandsAt
    (ahead : ℕ) (floor : LeastPassed) (clock : ℕ → ℕ) (kept : kept_channel.Channel) (w : World)
    : Type 0 where
  pub tick : w.tick ≡ kept.tick
  pub drawn : w.drawn ≡ kept.drawn
  pub up_flow : w.up_flow ≡ kept.up_flow
  pub down_flow : w.down_flow ≡ kept.down_flow
  pub passed : kept.passed ≤ ahead
  pub from : floor.waking ≤ kept.passed
  pub vehicle : VehicleLags (ahead - kept.passed) kept.vehicle w.vehicle
  pub calls : CallsLag floor clock kept.calls w.calls
  pub tidy : IsTidy w

-- at a tick no end lags, but sessions that are settled may, from this tick on
abbrev pub level : (settled tick : ℕ) → LeastPassed
level settled tick = record { settled = settled; waking = tick }

-- Between lines.
abbrev pub StandsNow : (settled : ℕ) → kept_channel.Channel → World → Type 0
StandsNow settled kept w = StandsAt kept.tick (level settled kept.tick) (λ c. kept.tick) kept w

-- What a part of a step came to, with the ends passed up to these clocks.
abbrev pub CameAt :
    {Fault : Type 0}
    → (Grew Partly : List Entry → Type 0)
    → Result (Unit {0}) Fault
    → (ahead : ℕ) (floor : LeastPassed) (clock : ℕ → ℕ)
    → kept_channel.Channel
    → Step
    → Type 0
CameAt Grew Partly result ahead floor clock kept s =
    MatchResult result (λ _. Grew s.entries × StandsAt ahead floor clock kept s.world) (λ _. Partly s.entries)

-- The same between lines.
abbrev pub CameNow :
    {Fault : Type 0}
    → (Grew Partly : List Entry → Type 0)
    → Result (Unit {0}) Fault
    → (settled : ℕ)
    → kept_channel.Channel
    → Step
    → Type 0
CameNow Grew Partly result settled kept s =
    MatchResult result (λ _. Grew s.entries × StandsNow settled kept s.world) (λ _. Partly s.entries)

-- The clocks of the sessions in the midst of a unit tick: those of these calls were not passed yet.

abbrev pub waits : ℕ → List ℕ → Bool
waits c [] = false
waits c (n ∷ ns) = (n == c) || waits c ns

abbrev pub clock_of : ℕ → List ℕ → ℕ → ℕ
clock_of before waiting c = if waits c waiting then before else before + 1

-- these clocks differ for this call at most
abbrev pub AreSameBut : ℕ → (ℕ → ℕ) → (ℕ → ℕ) → Type 0
AreSameBut c before after = (d : ℕ) → (d ≡ c → ⊥) → before d ≡ after d
