-- What an item does to the voice that is kept of its leg, and which leg it moves. This project's profile. Cited by the
-- contracts of `Legs` and `leg_of`.
use Rattle.std.specs.Prelude.{◌≡◌, ◌+◌, ◌≤◌, ◌&&◌, ◌==◌, ℕ, Bool, false, Option, Some, None, if◌then◌else◌}
use Rattle.std.specs.Bool.{beq}
use Rattle.link_frames.specs.declared.frame.End.{End}
use Rattle.link_frames.specs.declared.note.Note.{Note}
use Rattle.link_frames.specs.declared.note.Note.TheVariants as note
use Rattle.trace_model.specs.declared.moved.LegOf.{LegOf}
use Rattle.trace_model.specs.declared.voice.Voice.{Voice}

-- a leg that comes up is muted at first; one that is up stays as it is
abbrev pub raised : Option Voice → (now : ℕ) → Voice
raised None now = record { talks = false; since = now }
raised (Some v) now = v

-- a voice that stays as it was goes on
abbrev pub turned : Option Voice → (talks : Bool) → (now : ℕ) → Option Voice
turned None talks now = None
turned (Some v) talks now = Some (if beq v.talks talks then v else record { talks = talks; since = now })

-- what an item of its leg makes of a voice
abbrev pub voice_behind : Option Voice → Note → (now : ℕ) → Option Voice
voice_behind v (note.Up e c) now = Some (raised v now)
voice_behind v (note.Down e c why) now = None
voice_behind v (note.Voice e c up down) now = turned v (up && down) now
voice_behind v _ now = v

-- the item raises or ends this end's leg of this call, or turns its voice
abbrev pub Moves : End → ℕ → Note → Type 0
Moves e c (note.Up f d) = (f ≡ e) × (d ≡ c)
Moves e c (note.Down f d why) = (f ≡ e) × (d ≡ c)
Moves e c (note.Voice f d up down) = (f ≡ e) × (d ≡ c)
Moves e c _ = ⊥

-- the item moves no leg
abbrev pub MovesNone : Note → Type 0
MovesNone (note.Up f d) = ⊥
MovesNone (note.Down f d why) = ⊥
MovesNone (note.Voice f d up down) = ⊥
MovesNone _ = Unit {0}

-- the leg that an item moves, if it moves one
abbrev pub IsMoved : Option LegOf → Note → Type 0
IsMoved None n = MovesNone n
IsMoved (Some l) n = Moves l.of l.call n

-- the voices with that of one call changed
abbrev pub changed : (ℕ → Option Voice) → ℕ → Option Voice → ℕ → Option Voice
changed voices c v q = if c == q then v else voices q

-- no voice is muted for longer than the limit
abbrev pub AreWithin : (ℕ → Option Voice) → (now limit : ℕ) → Type 0
AreWithin voices now limit = (c : ℕ) (v : Voice) → voices c ≡ Some v → v.talks ≡ false → now ≤ v.since + limit
