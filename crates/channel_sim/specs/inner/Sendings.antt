-- When frames were sent, and in which calls: all of one direction from some tick on. Cited by the model of what is kept
-- of them, by that of the calls, and by the private functions on flows.
use Rattle.std.specs.Prelude.{◌≡◌, ◌≤◌, ◌<◌, ◌⊎◌, ℕ, List, [], ◌∷◌, Option, Some, None, take, drop}
use Rattle.std.specs.List.{AllByRecursion}
use Rattle.trace_model.specs.History.{Sent}
use Rattle.channel_sim.specs.declared.calls.call.Call.{Call}
use Rattle.channel_sim.specs.declared.calls.sendings.Sending.{Sending}

-- the sendings from a tick on, in the order of their ticks
pub record SentSince : Type 0 where
  pub since : ℕ
  pub list : List Sending

-- among these is one in this call at this tick
abbrev pub HasSending : (call tick : ℕ) → List Sending → Type 0
HasSending c n [] = ⊥
HasSending c n (s ∷ ss) = ((s.call ≡ c) × (s.tick ≡ n)) ⊎ HasSending c n ss

-- a frame sent in this call at this tick is among these, or older than all
abbrev pub IsNoted : (call tick : ℕ) → SentSince → Type 0
IsNoted c n sent = (n < sent.since) ⊎ HasSending c n sent.list

-- a tick that was found, and that is none later than this one
abbrev pub IsFoundBy : ℕ → Option ℕ → Type 0
IsFoundBy n None = ⊥
IsFoundBy n (Some m) = m ≤ n

-- each of these frames of a call is noted
abbrev pub AreNoted : SentSince → (call : ℕ) → List Sent → Type 0
AreNoted sent c frames = AllByRecursion (λ s. IsNoted c s.tick sent) frames

-- each frame of this call, up and down, is noted
pub record IsNotedCall (sent_up sent_down : SentSince) (k : Call) : Type 0 where
  pub up : AreNoted sent_up k.number k.up
  pub down : AreNoted sent_down k.number k.down

-- those before a place came by this tick, and those from it on later
pub record IsPlaceBehind (tick place : ℕ) (ticks : List ℕ) : Type 0 where
  pub before : AllByRecursion (λ t. t ≤ tick) (take place ticks)
  pub behind : AllByRecursion (λ t. tick < t) (drop place ticks)
