-- Which worlds of the definitions a `World` stands for: where they agree in the tick, the last call number and the
-- flows, where its vehicle stands for that world's vehicle, and its calls, in order, for that world's calls, with all
-- that was sent in them. This project's profile. Cited by the contracts of `World`, and by what stands on it.
use Rattle.std.specs.Prelude.{◌≡◌, ℕ, List, [], ◌∷◌, Option, Some, None, Result, MatchResult}
use Rattle.trace_model.specs.declared.entry.Entry.{Entry}
use Rattle.trace_model.specs.declared.event.Event.{Event}
use Rattle.trace_model.specs.declared.event.Event.TheVariants as event
use Rattle.ivs_machine.specs.IvsStands.{IvsStandsFor}
use Rattle.psap_machine.specs.declared.session.Session.{Session}
use Rattle.psap_machine.specs.Point.{Point}
use Rattle.psap_machine.specs.SessionStands.{SessionStandsFor}
use Rattle.channel_sim.specs.declared.calls.call.Call as kept_call
use Rattle.channel_sim.specs.declared.channel.Channel as kept_channel
use Rattle.channel_sim.specs.declared.world.World as kept_world
use Rattle.channel_sim.specs.World.{Call, World, Step}
use Rattle.trace_fit.specs.Seats.{left_by}
use Rattle.channel_sim.specs.Tidy.{IsTidy}

-- there is a session on both sides, and it stands for the other, or there is none on either
abbrev pub FoundStandsFor : Option Session → Option Point → Type 0
FoundStandsFor None None = Unit {0}
FoundStandsFor None (Some p) = ⊥
FoundStandsFor (Some s) None = ⊥
FoundStandsFor (Some s) (Some p) = SessionStandsFor s p × (left_by p ≡ Some p)

-- A call is the other: its session stands for the other's, and it was passed up to this tick.
pub record CallStandsFor (tick : ℕ) (kept : kept_call.Call) (k : Call) : Type 0 where
  pub number : k.number ≡ kept.number
  pub up : k.up ≡ kept.up
  pub down : k.down ≡ kept.down
  pub session : FoundStandsFor kept.session k.session
  pub passed : kept.passed ≡ tick

-- these calls are these, in order
abbrev pub CallsStandFor : ℕ → List kept_call.Call → List Call → Type 0
CallsStandFor tick [] [] = Unit {0}
CallsStandFor tick [] (k ∷ ks) = ⊥
CallsStandFor tick (x ∷ xs) [] = ⊥
CallsStandFor tick (x ∷ xs) (k ∷ ks) = CallStandsFor tick x k × CallsStandFor tick xs ks

-- What is kept of the world is the world: all but the room that is used again.
pub record ChannelStandsFor (kept : kept_channel.Channel) (w : World) : Type 0 where
  pub tick : w.tick ≡ kept.tick
  pub drawn : w.drawn ≡ kept.drawn
  pub up_flow : w.up_flow ≡ kept.up_flow
  pub down_flow : w.down_flow ≡ kept.down_flow
  pub vehicle : IvsStandsFor kept.vehicle w.vehicle
  pub passed : kept.passed ≡ kept.tick
  pub calls : CallsStandFor kept.tick kept.calls w.calls
  -- what every world of the definitions keeps
  pub tidy : IsTidy w

abbrev pub WorldStandsFor : kept_world.World → World → Type 0
WorldStandsFor kept w = ChannelStandsFor kept.channel w

-- lines that may draw a call number
abbrev pub NeedsCall : Event → Type 0
NeedsCall event.Answer = Unit {0}
NeedsCall event.Callback = Unit {0}
NeedsCall _ = ⊥

-- of a line of elapsed ticks, this holds of their number
abbrev pub TicksIn : Event → (ℕ → Type 0) → Type 0
TicksIn (event.Tick n) Fits = Fits n
TicksIn _ Fits = Unit {0}

-- the last call number drawn, as it is kept
abbrev pub calls_drawn : kept_world.World → ℕ
calls_drawn kept = kept.channel.drawn

-- the ticks that elapsed so far, as they are kept
abbrev pub ticks_reached : kept_world.World → ℕ
ticks_reached kept = kept.channel.tick

-- What a step came to. Done, the listener grew by exactly the step's entries and the world stands for the one behind
-- the step; failed, the listener is partly of these entries.
abbrev pub CameTo :
    {Fault : Type 0} → (Grew Partly : List Entry → Type 0) → Result kept_world.World Fault → Step → Type 0
CameTo Grew Partly result s =
    MatchResult result (λ kept. Grew s.entries × WorldStandsFor kept s.world) (λ _. Partly s.entries)

-- The same of a world in place.
abbrev pub CameInPlace :
    {Done Fault : Type 0}
    → (Grew Partly : List Entry → Type 0)
    → Result Done Fault
    → kept_world.World
    → Step
    → Type 0
CameInPlace Grew Partly result kept s =
    MatchResult result (λ _. Grew s.entries × WorldStandsFor kept s.world) (λ _. Partly s.entries)
