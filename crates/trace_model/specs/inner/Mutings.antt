-- What the stretches of muting say of all voices, and what is noted of a new one. Scaffolding: cited by the contracts
-- of private functions alone.
use Rattle.std.specs.Prelude.{◌≡◌, ◌≤◌, ◌&&◌, ◌||◌, ◌==◌, ◌++◌, ℕ, Bool, true, false, not, List, [], ◌∷◌, Option, Some, None}
use Rattle.trace_model.specs.declared.legs.Muting.{Muting}
use Rattle.trace_model.specs.declared.voice.Voice.{Voice}

-- the voice is muted since this tick
abbrev pub is_muted_since : Option Voice → ℕ → Bool
is_muted_since None since = false
is_muted_since (Some v) since = not v.talks && (v.since == since)

-- no voice is muted, or it is muted since this tick at the earliest, and one is
abbrev pub IsOldest : (ℕ → Option Voice) → Option ℕ → Type 0
IsOldest voices None = (c : ℕ) (v : Voice) → voices c ≡ Some v → v.talks ≡ false → ⊥
IsOldest voices (Some since) =
    ((c : ℕ) × (v : Voice) × (voices c ≡ Some v) × (v.talks ≡ false) × (v.since ≡ since))
    × ((c : ℕ) (v : Voice) → voices c ≡ Some v → v.talks ≡ false → since ≤ v.since)

-- what is noted where the voice of a call becomes this one: nothing where it talks, or was muted since that tick; else
-- that it is muted
pub record NotesMuting (call : ℕ) (before : Option Voice) (v : Voice) (old new : List Muting) : Type 0 where
  pub still : v.talks || is_muted_since before v.since ≡ true → new ≡ old
  pub noted : v.talks || is_muted_since before v.since ≡ false
      → new ≡ old ++ (record { call = call; since = v.since }) ∷ []
