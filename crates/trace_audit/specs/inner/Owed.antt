-- Which opening an item owes, and whether one turns a voice muted too soon, by what is kept of the legs. This project's
-- profile. Cited by the contracts of the private functions of `Rules`.
use Rattle.std.specs.Prelude.{◌-◌, ◌&&◌, ℕ, Bool, false, not, nat_lt, Option, Some, None, if◌then◌else◌}
use Rattle.link_frames.specs.declared.frame.End.{End}
use Rattle.link_frames.specs.declared.frame.End.TheVariants as «end»
use Rattle.link_frames.specs.declared.note.Note.{Note}
use Rattle.link_frames.specs.declared.note.Note.TheVariants as note
use Rattle.link_frames.specs.Legs.{is_data_timer}
use Rattle.trace_model.specs.declared.moved.LegOf.{LegOf}
use Rattle.trace_audit.specs.declared.rules.Rules.{Rules}
use Rattle.trace_model.specs.declared.voice.Voice.{Voice}
use Rattle.trace_model.specs.LegsStand.{voice_at}

-- the voice that is kept of an end's leg of a call
abbrev pub voice_of : Rules → End → ℕ → Option Voice
voice_of rules «end».Vehicle c = voice_at rules.vehicle c
voice_of rules «end».Point c = voice_at rules.point c

-- a voice that was open for less than the least ticks
abbrev pub is_fresh : Option Voice → (now : ℕ) → Bool
is_fresh None now = false
is_fresh (Some v) now = v.talks && nat_lt (now - v.since) 20

-- an item turns a voice muted within the least ticks of its opening
abbrev pub is_too_soon : (End → ℕ → Option Voice) → Note → (now : ℕ) → Bool
is_too_soon voices (note.Voice e c up down) now = not (up && down) && is_fresh (voices e c) now
is_too_soon voices _ now = false

abbrev pub owed_if_muted : Option Voice → End → ℕ → Option LegOf
owed_if_muted None e c = None
owed_if_muted (Some v) e c = if v.talks then None else Some (record { of = e; call = c })

-- the opening that is owed behind an item
abbrev pub owed_behind : (End → ℕ → Option Voice) → Note → Option LegOf
owed_behind voices (note.Ended e c timer) = if is_data_timer timer then owed_if_muted (voices e c) e c else None
owed_behind voices (note.Fault e c) = owed_if_muted (voices e c) e c
owed_behind voices _ = None
