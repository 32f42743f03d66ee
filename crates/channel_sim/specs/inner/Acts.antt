-- What it means that the session of a call did something: its items, and the calls behind it. Cited by the private
-- functions of `World` and on its calls alone.
use Rattle.std.specs.Prelude.{◌≡◌, ◌≤◌, ◌-◌, ◌⊎◌, ℕ, Bool, true, false, List, [], ◌∷◌, ◌++◌, Option, Some, None}
use Rattle.std.specs.List.{AllByRecursion}
use Rattle.std.specs.Option.{is_some}
use Rattle.link_frames.specs.declared.frame.End.{End}
use Rattle.link_frames.specs.declared.frame.End.TheVariants as «end»
use Rattle.link_frames.specs.declared.frame.Frame.{Frame}
use Rattle.link_frames.specs.declared.note.Note.{Note}
use Rattle.link_frames.specs.declared.note.Why.TheVariants as why
use Rattle.link_frames.specs.Row.{Row}
use Rattle.ivs_machine.specs.Vehicle.{Vehicle, vehicle_call}
use Rattle.ivs_machine.specs.VehicleRows as vehicle
use Rattle.psap_machine.specs.declared.session.Session as kept_session
use Rattle.psap_machine.specs.Point.{Point}
use Rattle.psap_machine.specs.SessionStands.{SessionStandsFor, AtRest}
use Rattle.psap_machine.specs.PointRows as point
use Rattle.trace_model.specs.History.{Sent}
use Rattle.channel_sim.specs.declared.calls.call.Call as kept_call
use Rattle.channel_sim.specs.declared.consequence.Consequence.{Consequence}
use Rattle.channel_sim.specs.declared.consequence.Consequence.TheVariants as consequence
use Rattle.channel_sim.specs.declared.channel.Channel as kept_channel
use Rattle.channel_sim.specs.World.{Act, Due, Session, InCall, Call, World, Step, due_in, each, seated, session_of}
use Rattle.trace_fit.specs.Seats.{is_number, left_by}
use Rattle.channel_sim.specs.Handing.{flow_way, hands_way, sent_way}
use Rattle.channel_sim.specs.Lag.{LeastPassed, VehicleLags, CallLags, CallsLag}
use Rattle.channel_sim.specs.Tidy.{AreAbove, HasLeg, CallInTime, numbers_of}

-- the call, in which this end sent one frame more
abbrev pub pushed : End → Sent → kept_call.Call → kept_call.Call
pushed «end».Vehicle sent k = record k { up = k.up ++ sent ∷ [] }
pushed «end».Point sent k = record k { down = k.down ++ sent ∷ [] }

-- what a session gives, if it is there, and what stays of it
abbrev pub seat_items : (Point → Row Point) → Option Point → List Note
seat_items row None = []
seat_items row (Some s) = (row s).items

abbrev pub seat_after : (Point → Row Point) → Option Point → Option Point
seat_after row None = None
seat_after row (Some s) = left_by (row s).new

-- the session of this call, if it is there, did this
pub record CallDid
    (floor : LeastPassed) (clock : ℕ) (done : Bool) (given : List Note) (new : kept_call.Call) (k : Call)
    (row : Point → Row Point)
    : Type 0 where
  pub items : given ≡ seat_items row k.session
  pub acts : done ≡ true → is_some k.session ≡ true
  pub rests : done ≡ false → is_some (seat_after row k.session) ≡ is_some k.session
  pub stands : CallLags floor clock new (record k { session = seat_after row k.session })

-- the session of the call of this number, if it is there, did this
pub record SessionDid
    (floor : LeastPassed) (clock : ℕ → ℕ) (done : Bool) (given : List Note) (new : List kept_call.Call) (c : ℕ)
    (row : Point → Row Point) (ks : List Call)
    : Type 0 where
  pub items : given ≡ seat_items row (session_of c ks)
  pub acts : done ≡ true → is_some (session_of c ks) ≡ true
  pub rests : done ≡ false → is_some (seat_after row (session_of c ks)) ≡ is_some (session_of c ks)
  pub stands : CallsLag floor clock new (seated c (seat_after row (session_of c ks)) ks)

-- a call was passed up to this tick, or its session is settled
abbrev pub IsUpTo : ℕ → kept_call.Call → Type 0
IsUpTo tick x = (x.passed ≡ tick) ⊎ AtRest x.session

-- the call of this number was passed up to its clock, or its session is settled
abbrev pub IsCaught : (ℕ → ℕ) → ℕ → List kept_call.Call → Type 0
IsCaught clock c xs = AllByRecursion (λ x. x.number ≡ c → IsUpTo (clock c) x) xs

-- whether a call is this one
abbrev pub OtherHasLeg : (in_call concerned : Option ℕ) → Call → Type 0
OtherHasLeg in_call concerned k = is_number k.number concerned ≡ false → HasLeg in_call k

-- An end did something: what is kept stands for this world with this vehicle and these calls, before it is told and
-- posted. Only the call that is concerned may have lost a leg.
pub record IsReady
    (ahead : ℕ) (floor : LeastPassed) (clock : ℕ → ℕ) (kept : kept_channel.Channel) (w : World) (v : Vehicle)
    (ks : List Call) (concerned : Option ℕ)
    : Type 0 where
  pub tick : w.tick ≡ kept.tick
  pub drawn : w.drawn ≡ kept.drawn
  pub up_flow : w.up_flow ≡ kept.up_flow
  pub down_flow : w.down_flow ≡ kept.down_flow
  pub passed : kept.passed ≤ ahead
  pub from : floor.waking ≤ kept.passed
  pub vehicle : VehicleLags (ahead - kept.passed) kept.vehicle v
  pub calls : CallsLag floor clock kept.calls ks
  pub numbers : AreAbove 0 (numbers_of ks)
  pub below : AllByRecursion (λ n. n ≤ w.drawn) (numbers_of ks)
  pub others : AllByRecursion (OtherHasLeg (vehicle_call v) concerned) ks
  pub frames : AllByRecursion (CallInTime w.tick) ks

-- what an end hears by a consequence
abbrev pub acts_of : Consequence → List Act
acts_of consequence.Nothing = []
acts_of (consequence.Releases c) = Session c (point.Ended why.Release) ∷ []
acts_of (consequence.HangsUp c) = InCall c vehicle.Hangup ∷ []

-- a session and these items are what this row gives, and the session is not over
pub record IsArrival (session : kept_session.Session) (given : List Note) (row : Row Point) : Type 0 where
  pub stands : SessionStandsFor session row.new
  pub live : left_by row.new ≡ Some row.new
  pub items : given ≡ row.items

-- the frame of a call, if there is one
abbrev pub due_by : ℕ → Option Frame → List Due
due_by c None = []
due_by c (Some f) = record { call = c; frame = f } ∷ []

-- what a flow hands over, up or down: `flows_up`, or `flows_down`
abbrev pub flows_by : (up : Bool) → World → Step
flows_by up w = each (hands_way up) (due_in (sent_way up) (flow_way up w) w.tick w.calls) w
