-- Which worlds of the definitions a `Play` stands for: as a `World` does, but sessions that are settled may lag, from
-- any tick on. This project's profile. Cited by the contracts of `Play`, and by what stands on it.
use Rattle.std.specs.Prelude.{ℕ, List, Result, MatchResult}
use Rattle.trace_model.specs.declared.entry.Entry.{Entry}
use Rattle.channel_sim.specs.declared.play.Play.{Play}
use Rattle.channel_sim.specs.World.{World, Step}
use Rattle.channel_sim.specs.Lag.{StandsNow}

abbrev pub PlayStandsFor : Play → World → Type 0
PlayStandsFor kept w = StandsNow 0 kept.channel w

-- the last call number drawn, as it is kept
abbrev pub calls_drawn : Play → ℕ
calls_drawn kept = kept.channel.drawn

-- the ticks that elapsed so far, as they are kept
abbrev pub ticks_reached : Play → ℕ
ticks_reached kept = kept.channel.tick

-- What a step came to. Done, the listener grew by exactly the step's entries and what is kept stands for the world
-- behind the step; failed, the listener is partly of these entries.
abbrev pub CameInPlace :
    {Done Fault : Type 0} → (Grew Partly : List Entry → Type 0) → Result Done Fault → Play → Step → Type 0
CameInPlace Grew Partly result kept s =
    MatchResult result (λ _. Grew s.entries × PlayStandsFor kept s.world) (λ _. Partly s.entries)
