-- The traces of two ends that ran apart, joined by ticks, and when the two fit each other. This project's profile.
-- Cited by the law of joint traces.
use Rattle.std.specs.Prelude.{◌≡◌, ◌<◌, ℕ, zero, suc, min, List, [], ◌∷◌, ◌++◌, ◌⊎◌, ◌==◌, IfSome, if◌then◌else◌}
use Rattle.std.specs.List.{AllByRecursion}
use Rattle.link_frames.specs.declared.frame.End.{End}
use Rattle.link_frames.specs.declared.frame.End.TheVariants as «end»
use Rattle.link_frames.specs.declared.note.Note.TheVariants as note
use Rattle.trace_model.specs.declared.entry.Entry.{Entry}
use Rattle.live_link.specs.Runs.{Run}
use Rattle.live_link.specs.Turns.{Carried, Turn, entries_of}

-- the entries of a tick
abbrev pub at_tick : ℕ → List Entry → List Entry
at_tick n [] = []
at_tick n (x ∷ xs) = if x.tick == n then x ∷ at_tick n xs else at_tick n xs

-- the entries of both up to a tick, by tick, at one tick the point's first
abbrev pub joint : ℕ → (vehicle point : List Entry) → List Entry
joint zero v p = at_tick 0 p ++ at_tick 0 v
joint (suc n) v p = joint n v p ++ (at_tick (suc n) p ++ at_tick (suc n) v)

-- among these entries of an end is one, before a tick, that sends this frame in its call
abbrev pub SentBefore : End → Carried → ℕ → List Entry → Type 0
SentBefore e k now [] = ⊥
SentBefore e k now (x ∷ xs) = ((x.tick < now) × (x.note ≡ note.Send e k.call k.frame)) ⊎ SentBefore e k now xs

-- if a frame was heard in a turn, that end sent it before, whole and in that call
abbrev pub CameFrom : End → List Entry → Turn → Type 0
CameFrom e entries t = IfSome t.came (λ k. SentBefore e k t.tick entries)

-- each frame that one end heard in a call, the other end sent in that call at an earlier tick
pub record Fits (vehicle point : List Turn) : Type 0 where
  pub up : AllByRecursion (CameFrom «end».Vehicle (entries_of vehicle)) point
  pub down : AllByRecursion (CameFrom «end».Point (entries_of point)) vehicle

-- the rounds that both runs had, whole
abbrev pub joint_rounds : (vehicle point : Run) → ℕ
joint_rounds v p = min v.rounds p.rounds

-- the entries of both runs up to there
abbrev pub joint_trace : (vehicle point : Run) → List Entry
joint_trace v p = joint (joint_rounds v p) (entries_of v.turns) (entries_of p.turns)

abbrev pub RunsFit : (vehicle point : Run) → Type 0
RunsFit v p = Fits v.turns p.turns
