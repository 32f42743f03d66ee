-- What a happening does in the world: an event line with its numbers, as the code takes it apart. Cited by the private
-- functions of `World` alone.
use Rattle.std.specs.Prelude.{ℕ, true, false, [], ◌∷◌, ◌++◌, ◌+◌, length, slice_get, if◌then◌else◌}
use Rattle.link_frames.specs.declared.note.Why.TheVariants as why
use Rattle.ivs_machine.specs.Vehicle.{vehicle_call, is_dialling, is_reachable}
use Rattle.ivs_machine.specs.VehicleRows as vehicle
use Rattle.psap_machine.specs.PointRows as point
use Rattle.channel_sim.specs.declared.channel.Passing.{Passing}
use Rattle.channel_sim.specs.declared.channel.Passing.TheVariants as passing
use Rattle.channel_sim.specs.declared.happening.Happening.{Happening}
use Rattle.channel_sim.specs.declared.happening.Happening.TheVariants as happening
use Rattle.channel_sim.specs.World.{World, Step, Hears, InCall, quiet_step, call_of, vehicle_is_in, point_is_in, units, ends}
use Rattle.channel_sim.specs.Lines.{Does, HandsUp, HandsDown, Answers, CallsBack, at_point, hands_one, in_its_call, or_nothing, point_resets, sent_down, sent_up, when}

abbrev pub happens : Happening → World → Step
happens (happening.Vehicle e) w = or_nothing (Does (Hears (vehicle.heard e)) ∷ []) w
happens (happening.Point c e) w = or_nothing (at_point c (point.heard e) w) w
happens happening.DropVehicle w = or_nothing (in_its_call (vehicle_call w.vehicle) vehicle.Lost) w
happens (happening.DropBoth c) w =
    or_nothing (when (vehicle_is_in c w) (Does (InCall c vehicle.Lost)) ++ at_point c (point.Ended why.Lost) w) w
happens happening.Answer w = or_nothing (when (is_dialling w.vehicle) Answers) w
happens happening.Callback w = or_nothing (when (is_reachable w.vehicle) CallsBack) w
happens (happening.Deliver true c place) w =
    or_nothing
    (if point_is_in c w then hands_one HandsUp c (slice_get (sent_up (call_of c w.calls)) place) else []) w
happens (happening.Deliver false c place) w =
    or_nothing
    (if vehicle_is_in c w then hands_one HandsDown c (slice_get (sent_down (call_of c w.calls)) place) else []) w
happens (happening.Flow true delay) w = quiet_step (record w { up_flow = delay })
happens (happening.Flow false delay) w = quiet_step (record w { down_flow = delay })
happens happening.ResetPoint w = point_resets w
happens (happening.Elapse n) w = units n w

-- from which tick on sessions that are settled may lag, behind a line of elapsed time and behind any happening

abbrev pub settled_by : Passing → (settled tick : ℕ) → ℕ
settled_by passing.All settled tick = tick
settled_by passing.Waking settled tick = settled

abbrev pub settled_behind : Happening → Passing → (settled tick : ℕ) → ℕ
settled_behind (happening.Elapse n) passed settled tick = settled_by passed settled tick
settled_behind _ passed settled tick = settled

-- where all ends are passed, this holds
abbrev pub IfAll : Passing → Type 0 → Type 0
IfAll passing.All Holds = Holds
IfAll passing.Waking Holds = Unit {0}

-- where only those are passed that aren't settled, this holds
abbrev pub IfWaking : Passing → Type 0 → Type 0
IfWaking passing.All Holds = Unit {0}
IfWaking passing.Waking Holds = Holds

-- a happening that may draw a call number
abbrev pub DrawsCall : Happening → Type 0
DrawsCall happening.Answer = Unit {0}
DrawsCall happening.Callback = Unit {0}
DrawsCall _ = ⊥

-- how often the ends are passed in a happening at most
abbrev pub happening_passes : Happening → World → ℕ
happening_passes (happening.Elapse n) w = length (units n w).entries + (units n w).handed + ends w
happening_passes _ w = 0
