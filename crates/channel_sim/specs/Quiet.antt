-- Quiet time: ticks in which no end does anything, and no flow hands a frame over. A reader of `ecall` need not believe
-- it: neither `step` nor `advance` cites it. Cited by the next moment of a `World`, and by private functions.
use Rattle.std.specs.Prelude.{◌≡◌, ◌≤◌, ◌<◌, ◌+◌, ◌⊎◌, ℕ, zero, suc, List, Some, IfSome, map}
use Rattle.std.specs.List.{AllByRecursion}
use Rattle.std.specs.Option.{option_map}
use Rattle.trace_model.specs.History.{Sent}
use Rattle.ivs_machine.specs.VehicleRows as vehicle
use Rattle.psap_machine.specs.Point.{Point}
use Rattle.psap_machine.specs.PointRows as point
use Rattle.channel_sim.specs.World.{Call, World}
use Rattle.trace_fit.specs.Seats.{left_by}

-- a session that isn't over, and isn't due in n ticks
pub record SessionRests (n : ℕ) (s : Point) : Type 0 where
  pub due : IfSome (point.due_of s) (λ due. n < due)
  pub live : left_by s ≡ Some s

abbrev pub CallRests : ℕ → Call → Type 0
CallRests n k = IfSome k.session (SessionRests n)

abbrev pub aged_call : ℕ → Call → Call
aged_call n k = record k { session = option_map (point.aged n) k.session }

-- none of these frames is due in the next n ticks; with a delay of 0 none ever is
abbrev pub FramesRest : (n delay tick : ℕ) → List Sent → Type 0
FramesRest n zero tick sends = Unit {0}
FramesRest n (suc d) tick sends =
    AllByRecursion (λ s. (s.tick + suc d ≤ tick) ⊎ (tick + n < s.tick + suc d)) sends

-- no end is due in the next n ticks
abbrev pub EndsRest : ℕ → World → Type 0
EndsRest n w = IfSome (vehicle.due_of w.vehicle) (λ due. n < due) × AllByRecursion (CallRests n) w.calls

-- no frame sent up, or down, is handed over in the next n ticks
abbrev pub UpRests : ℕ → World → Type 0
UpRests n w = AllByRecursion (λ k. FramesRest n w.up_flow w.tick k.up) w.calls

abbrev pub DownRests : ℕ → World → Type 0
DownRests n w = AllByRecursion (λ k. FramesRest n w.down_flow w.tick k.down) w.calls

-- The world n ticks on, and what keeps n ticks quiet.

abbrev pub aged_world : ℕ → World → World
aged_world n w =
    record w { tick = w.tick + n; vehicle = vehicle.aged n w.vehicle; calls = map (aged_call n) w.calls }

-- no end and no frame is due in the next n ticks
pub record QuietFor (n : ℕ) (w : World) : Type 0 where
  pub ends : EndsRest n w
  pub up : UpRests n w
  pub down : DownRests n w
