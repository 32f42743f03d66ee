-- The turns of calls: before a turn's tick the session of its call does nothing. Cited by the model of the turns that
-- are kept, by that of the calls, and by the private functions on them.
use Rattle.std.specs.Prelude.{◌≡◌, ◌<◌, ◌+◌, ◌⊎◌, ℕ, List, [], ◌∷◌, Option, Some, None, map, take, drop}
use Rattle.std.specs.List.{AllByRecursion}
use Rattle.channel_sim.specs.declared.calls.call.Call.{Call}
use Rattle.channel_sim.specs.declared.calls.turns.Turn.{Turn}
use Rattle.psap_machine.specs.SessionStands.{AtRest}
use Rattle.channel_sim.specs.Tidy.{AreAbove}
use Rattle.channel_sim.specs.inner.Seats.{DueLater}

-- among these is a turn of this call at this tick
abbrev pub HasTurn : (call tick : ℕ) → List Turn → Type 0
HasTurn c n [] = ⊥
HasTurn c n (t ∷ ts) = ((t.call ≡ c) × (t.tick ≡ n)) ⊎ HasTurn c n ts

-- the calls of turns
abbrev pub calls_of : List Turn → List ℕ
calls_of ts = map (λ t. t.call) ts

-- each number is above the one before it
abbrev pub Rise : List ℕ → Type 0
Rise [] = Unit {0}
Rise (n ∷ ns) = AreAbove n ns

-- a number is among these
abbrev pub IsAmong : ℕ → List ℕ → Type 0
IsAmong n [] = ⊥
IsAmong n (m ∷ ms) = (m ≡ n) ⊎ IsAmong n ms

-- a number that isn't among these, and belongs at a place: those before it are below, and those from it on above
pub record IsGap (n place : ℕ) (ns : List ℕ) : Type 0 where
  pub before : AllByRecursion (λ m. m < n) (take place ns)
  pub behind : AllByRecursion (λ m. n < m) (drop place ns)

-- all turns but those of this call stay
abbrev pub OthersStay : (call : ℕ) (old new : List Turn) → Type 0
OthersStay call old new = (c n : ℕ) → HasTurn c n old → (c ≡ call) ⊎ HasTurn c n new

-- a number below the one that was found, or any where none was
abbrev pub IsBelow : ℕ → Option ℕ → Type 0
IsBelow n None = Unit {0}
IsBelow n (Some m) = n < m

-- the session of a call, if it is there, is settled
abbrev pub Sleeps : Call → Type 0
Sleeps k = AtRest k.session

-- before this tick the session of this call, if it is there, does nothing
abbrev pub WaitsUntil : ℕ → Call → Type 0
WaitsUntil tick k = (n : ℕ) → k.passed + n < tick → DueLater n k.session

-- a call has its turn: before it the session does nothing
pub record HasItsTurn (turns : List Turn) (k : Call) : Type 0 where
  pub tick : ℕ
  pub turn : HasTurn k.number tick turns
  pub waits : WaitsUntil tick k

-- each session that isn't settled has its turn
abbrev pub IsWatched : List Turn → Call → Type 0
IsWatched turns k = Sleeps k ⊎ HasItsTurn turns k

-- each session that isn't settled has a turn
abbrev pub IsListed : List Turn → Call → Type 0
IsListed turns k = Sleeps k ⊎ IsAmong k.number (calls_of turns)
