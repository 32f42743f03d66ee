-- What stands for the legs of one end in all calls: of each leg that is up its voice, and the stretches of muting in
-- the order in which they began. This project's profile. Cited by the relation of `Rules` to a trace.
use Rattle.std.specs.Prelude.{◌≡◌, ◌≤◌, ◌⊎◌, ℕ, true, false, List, [], ◌∷◌, nat_eq, Option, Some, None}
use Rattle.std.specs.List.{AllByRecursion}
use Rattle.std.specs.HashMap.{get}
use Rattle.link_frames.specs.declared.frame.End.{End}
use Rattle.trace_model.specs.declared.entry.Entry.{Entry}
use Rattle.trace_model.specs.Safety.{Leg, leg_at}
use Rattle.trace_model.specs.declared.legs.Legs.{Legs}
use Rattle.trace_model.specs.declared.legs.Muting.{Muting}
use Rattle.trace_model.specs.declared.voice.Voice.{Voice}
use Rattle.trace_model.specs.Tallies.{last_tick}

-- the voice that is kept of a call's leg; there is none where the leg isn't up
abbrev pub voice_at : Legs → ℕ → Option Voice
voice_at legs c = get nat_eq legs.up c

-- It is the voice of this leg, where it is up.
abbrev pub IsVoiceOf : Option Voice → Leg → Type 0
IsVoiceOf None leg = leg.up ≡ false
IsVoiceOf (Some v) leg = (leg.up ≡ true) × (leg.talks ≡ v.talks) × (leg.since ≡ v.since)

-- among these stretches of muting is one of this call that began at this tick
abbrev pub IsQueued : ℕ → (since : ℕ) → List Muting → Type 0
IsQueued c since [] = ⊥
IsQueued c since (m ∷ ms) = ((m.call ≡ c) × (m.since ≡ since)) ⊎ IsQueued c since ms

-- They stand in the order in which they began, and none began behind this tick.
abbrev pub AreInOrder : List Muting → (now : ℕ) → Type 0
AreInOrder [] now = Unit {0}
AreInOrder (m ∷ ms) now = (m.since ≤ now) × AllByRecursion (λ n. m.since ≤ n.since) ms × AreInOrder ms now

-- Each muted voice is among the stretches of muting, which stand in order.
pub record Keeps (voices : ℕ → Option Voice) (muted : List Muting) (now : ℕ) : Type 0 where
  pub queued : (c : ℕ) (v : Voice) → voices c ≡ Some v → v.talks ≡ false → IsQueued c v.since muted
  pub order : AreInOrder muted now

pub record LegsStandFor (e : End) (legs : Legs) (entries : List Entry) : Type 0 where
  pub voices : (c : ℕ) → IsVoiceOf (voice_at legs c) (leg_at e c entries)
  pub keeps : Keeps (voice_at legs) legs.muted.items (last_tick entries)
