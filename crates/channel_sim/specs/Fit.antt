-- When a trace fits a world: what ties the state of both ends, and each frame in flight, to the entries written so far.
-- It holds at first and each step keeps it; from it follows that every trace is safe. It names no row of either end.
-- This project's profile. Cited by the laws of this crate and the contract of `World::step`.
use Rattle.std.specs.Prelude.{◌≡◌, ◌≤◌, ℕ, true, List, [], Option, IfSome}
use Rattle.std.specs.List.{AllByRecursion}
use Rattle.std.specs.Option.{is_some}
use Rattle.link_frames.specs.declared.frame.End.{End}
use Rattle.link_frames.specs.declared.frame.End.TheVariants as «end»
use Rattle.link_frames.specs.Legs.{owner}
use Rattle.link_frames.specs.Owes.{Seat, InTime}
use Rattle.ivs_machine.specs.Vehicle.{Vehicle, vehicle_call}
use Rattle.ivs_machine.specs.VehicleKept as vehicle
use Rattle.trace_model.specs.declared.entry.Entry.{Entry}
use Rattle.trace_model.specs.History.{sent_by, sets_of}
use Rattle.trace_model.specs.Safety.{leg_at, Safe, Finished}
use Rattle.channel_sim.specs.Tidy.{AreAbove, HasLeg, numbers_of}
use Rattle.channel_sim.specs.World.{World, Call, call_of, session_of}
use Rattle.trace_fit.specs.Links.{CallLinks}
use Rattle.trace_fit.specs.Order.{IsDrawn, Rises, OrderedFrom}
use Rattle.trace_fit.specs.Seats.{vehicle_seat, point_seat, LegFits, IsSessionOf}

-- Both ends as seats in their calls.

abbrev pub seats_of : Vehicle → List Call → End → ℕ → Option Seat
seats_of v calls «end».Vehicle c = vehicle_seat c v
seats_of v calls «end».Point c = point_seat (session_of c calls)

-- Frames in flight.

-- all that was sent in a call is what the entries say was sent
pub record FramesFit (entries : List Entry) (k : Call) : Type 0 where
  pub up : k.up ≡ sent_by «end».Vehicle k.number entries
  pub down : k.down ≡ sent_by «end».Point k.number entries

-- The calls with a leg up.

pub record IsCall (drawn : ℕ) (k : Call) : Type 0 where
  pub number : k.number ≤ drawn
  pub session : IfSome k.session (IsSessionOf k.number)

-- The entries fit the world, in eight parts: numbers and ticks; legs and voices; frames in flight; one set for each
-- request; shown behind sent; acknowledged behind shown; the bounds by phase; and safe and finished.
pub record Fit (w : World) (entries : List Entry) : Type 0 where
  -- each call number of an entry was drawn; ticks never fall, and none is above the world's
  pub drawn : AllByRecursion (λ x. IsDrawn w.drawn (owner x.note)) entries
  pub rises : Rises 0 entries w.tick
  -- each end is in each call as the entries say: its leg, its voice and since when, and the sets made, or shown, in it
  pub seats : (e : End) (c : ℕ) →
      LegFits w.tick (seats_of w.vehicle w.calls e c) (leg_at e c entries) (sets_of e c entries)
  -- the frames of a call are those that the entries say were sent; the calls are those with a leg up
  pub frames : AllByRecursion (FramesFit entries) w.calls
  pub legs : AllByRecursion (HasLeg (vehicle_call w.vehicle)) w.calls
  pub listed : IfSome (vehicle_call w.vehicle) (λ c. is_some (call_of c w.calls) ≡ true)
  -- there is one set for each request of a call: it is sent, then shown, and then acknowledged
  pub links : (c : ℕ) → CallLinks entries c
  pub ordered : OrderedFrom [] entries
  -- Both ends keep what their states keep: the bounds of the ticks by phase, the requests obeyed rise, each request is
  -- shown once, and the request of a phase was obeyed, or shown.
  pub vehicle : vehicle.IsKept w.vehicle
  pub calls : AllByRecursion (IsCall w.drawn) w.calls
  pub in_order : AreAbove 0 (numbers_of w.calls)
  -- a muted voice has ticks left to its limit
  pub in_time : (e : End) (c : ℕ) → IfSome (seats_of w.vehicle w.calls e c) (InTime e)
  pub safe : Safe entries w.tick
  pub finished : Finished entries
