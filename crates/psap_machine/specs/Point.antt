-- The state of the answering point's session of one call: what it waits for, the lists of all that it asked and showed,
-- newest first, and its sums of ticks. After EN 16062; the numbers are this project's profile. Cited by the contracts
-- of `Session`, and by the world.
use Rattle.std.specs.Prelude.{ℕ, List, [], ◌∷◌, map, max}
use Rattle.link_frames.specs.Legs.{Kept}

-- What the point waits for, with its request. The voice is open in Talking alone.
pub data Phase : Type 0 where
  Listening : Phase
  Asking : (request : ℕ) → Phase
  Telling : (request : ℕ) → Phase
  Talking : Phase
  Clearing : (request : ℕ) → Phase
  Over : Phase

pub record Point : Type 0 where
  pub call : ℕ
  pub phase : Phase
  -- the requests asked
  pub asked : List ℕ
  -- the sets shown, each with its request
  pub shown : List Kept
  -- the ticks in the phase
  pub in_phase : ℕ
  -- the ticks for which the voice has been muted, or open
  pub voice_for : ℕ

-- the greatest request of these, 0 where there is none
abbrev pub greatest : List ℕ → ℕ
greatest [] = 0
greatest (r ∷ rs) = max r (greatest rs)

-- the requests of these sets
abbrev pub requests_of : List Kept → List ℕ
requests_of sets = map (λ set. set.0) sets
