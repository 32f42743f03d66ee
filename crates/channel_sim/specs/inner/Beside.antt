-- What is kept beside the calls: the turns of all sessions that aren't settled, and when all frames were sent that a
-- flow may hand over. Cited by the model of the calls that are kept, and by the private functions on elapsed time.
use Rattle.std.specs.Prelude.{◌≤◌, ◌-◌, ℕ, List, Option, None, map}
use Rattle.std.specs.List.{AllByRecursion}
use Rattle.channel_sim.specs.declared.calls.call.Call.{Call}
use Rattle.channel_sim.specs.declared.calls.turns.Turn.{Turn}
use Rattle.channel_sim.specs.Tidy.{AreAbove}
use Rattle.channel_sim.specs.inner.Seats.{DueLater}
use Rattle.channel_sim.specs.inner.Sendings.{SentSince, IsNotedCall}
use Rattle.channel_sim.specs.inner.Turns.{IsBelow, IsWatched}

abbrev pub numbers : List Call → List ℕ
numbers calls = map (λ k. k.number) calls

-- what is kept beside these calls holds of them
pub record CallsStand (turns : List Turn) (up down : SentSince) (calls : List Call) : Type 0 where
  pub numbers : AreAbove 0 (numbers calls)
  pub watched : AllByRecursion (IsWatched turns) calls
  pub noted : AllByRecursion (IsNotedCall up down) calls

-- up to this tick the session of this call, if it is there, does nothing
abbrev pub Waits : ℕ → Call → Type 0
Waits tick k = DueLater (tick - k.passed) k.session

-- a call with one of these numbers waits up to this tick, where it wasn't passed further
abbrev pub WaitsBetween : (from : ℕ) (to : Option ℕ) (tick : ℕ) → Call → Type 0
WaitsBetween from to tick k = from ≤ k.number → IsBelow k.number to → k.passed ≤ tick → Waits tick k

-- the call without what its session is, and how far it was passed
abbrev pub bare : Call → Call
bare k = record k { session = None; passed = 0 }
