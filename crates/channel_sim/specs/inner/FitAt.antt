-- When a trace fits ends that were passed up to their clocks, which within a unit tick aren't all at one tick.
-- Scaffolding of the laws.
use Rattle.std.specs.Prelude.{◌≡◌, ◌≤◌, ℕ, true, List, ◌++◌, IfSome}
use Rattle.std.specs.List.{AllByRecursion}
use Rattle.std.specs.Option.{is_some}
use Rattle.link_frames.specs.declared.frame.End.TheVariants as «end»
use Rattle.ivs_machine.specs.Vehicle.{vehicle_call}
use Rattle.ivs_machine.specs.VehicleKept as vehicle
use Rattle.trace_model.specs.declared.entry.Entry.{Entry}
use Rattle.channel_sim.specs.World.{World, Step, call_of}
use Rattle.channel_sim.specs.Fit.{seats_of, FramesFit, IsCall}
use Rattle.channel_sim.specs.Tidy.{AreAbove, numbers_of, HasLeg}
use Rattle.trace_fit.specs.inner.FitAt.{Clocks, FitAt}

-- The world fits at a tick and a last call number, with both ends passed up to their clocks.
pub record FitsAt (clock : Clocks) (now last : ℕ) (w : World) (t : List Entry) : Type 0 where
  pub tick : w.tick ≡ now
  pub drawn : w.drawn ≡ last
  pub fit : FitAt clock (seats_of w.vehicle w.calls) now last t
  pub vehicle : vehicle.IsKept w.vehicle
  pub calls : AllByRecursion (IsCall last) w.calls
  pub frames : AllByRecursion (FramesFit t) w.calls
  pub legs : AllByRecursion (HasLeg (vehicle_call w.vehicle)) w.calls
  pub in_order : AreAbove 0 (numbers_of w.calls)
  pub listed : IfSome (vehicle_call w.vehicle) (λ c. is_some (call_of c w.calls) ≡ true)

-- a step goes to a world that fits
abbrev pub Goes : Clocks → (now last : ℕ) → Step → List Entry → Type 0
Goes clock now last s t = FitsAt clock now last s.world (t ++ s.entries)

-- all ends are passed up to this tick
abbrev pub all_at : ℕ → Clocks
all_at m e c = m

-- the ends were passed so far that consequences may come
pub record Settles (clock : Clocks) (now : ℕ) : Type 0 where
  pub vehicle : (c : ℕ) → clock «end».Vehicle c ≡ now
  pub point : (c : ℕ) → clock «end».Point c ≤ now
