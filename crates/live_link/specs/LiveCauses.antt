-- What the answer of an end of a live link says of the counts of faults of its two sources, the script and the other
-- end, and of its two sinks, the trace and what goes to the other end; and what holds of a link that may not be there.
-- This project's profile. Cited by the contracts of `live_vehicle`, `live_point` and `live`.
use Rattle.std.specs.Prelude.{◌≡◌, ℕ, ◌⊎◌, Option, Some, None}
use Rattle.call_io.specs.Counts.{Rose}
use Rattle.link_frames.specs.declared.frame.End.{End}
use Rattle.link_frames.specs.declared.frame.End.TheVariants as «end»
use Rattle.live_link.specs.declared.answer.Link.{Link}
use Rattle.live_link.specs.declared.answer.Live.{Live}
use Rattle.live_link.specs.declared.answer.Live.TheVariants as live_end
use Rattle.live_link.specs.declared.answer.LiveStatus.{LiveStatus}
use Rattle.live_link.specs.declared.answer.LiveStatus.TheVariants as status

-- one of two counts rose
abbrev pub AnyRose : (old new other_old other_new : ℕ) → Type 0
AnyRose old new other_old other_new = Rose old new ⊎ Rose other_old other_new

-- of the two sources: a read of one failed, or else none did
abbrev pub LiveReadCause : LiveStatus → (old new other_old other_new : ℕ) → Type 0
LiveReadCause status.ReadFault old new other_old other_new = AnyRose old new other_old other_new
LiveReadCause _ old new other_old other_new = (new ≡ old) × (other_new ≡ other_old)

-- of the two sinks: a write of one failed, or else none did
abbrev pub LiveWriteCause : LiveStatus → (old new other_old other_new : ℕ) → Type 0
LiveWriteCause status.WriteFault old new other_old other_new = AnyRose old new other_old other_new
LiveWriteCause _ old new other_old other_new = (new ≡ old) × (other_new ≡ other_old)

-- which end is asked for
abbrev pub end_of : Live → End
end_of (live_end.Vehicle port) = «end».Vehicle
end_of (live_end.Point port) = «end».Point

-- An end that has its link never answers that there is none, nor the vehicle that the other end's script ended first.
abbrev pub IsAnswerOf : End → LiveStatus → Type 0
IsAnswerOf e status.NoLink = ⊥
IsAnswerOf «end».Vehicle status.PeerEnded = ⊥
IsAnswerOf e _ = Unit {0}

-- What holds of a link that was handed in, before and after; without one, this.
abbrev pub WithLink : {I P : Type 0} → (none : Type 0) → (some : (from from' : I) (to to' : P) → Type 0)
    → (old new : Option (Link I P)) → Type 0
WithLink none some None None = none
WithLink none some (Some old) (Some new) = some old.from new.from old.to new.to
WithLink none some _ _ = ⊥
