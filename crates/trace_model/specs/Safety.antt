-- What is safe in a trace, said of its entries alone and of neither machine: each acknowledged set was shown earlier;
-- where a wait for data ends, or a fault comes, a muted voice opens at once; and no voice is muted for too long, or too
-- soon. After EN 16062 (the voice is open wherever no data is sent); the numbers are this project's profile. Cited by
-- the laws of `channel_sim` and the contract of `ecall`.
use Rattle.std.specs.Prelude.{◌≡◌, ◌≤◌, ℕ, ◌+◌, Bool, true, false, Option, Some, None, List, [], ◌∷◌, ◌++◌, ◌⊎◌, ◌==◌, ◌&&◌, not, if◌then◌else◌}
use Rattle.link_frames.specs.declared.frame.End.{End}
use Rattle.link_frames.specs.declared.frame.End.TheVariants as «end»
use Rattle.link_frames.specs.declared.note.Note.{Note}
use Rattle.link_frames.specs.declared.note.Note.TheVariants as note
use Rattle.link_frames.specs.Legs.{through, owner, is_data_timer, muting_limit, least_opening}
use Rattle.trace_model.specs.declared.entry.Entry.{Entry}

-- whether the two are the same end
abbrev pub same_end : End → End → Bool
same_end «end».Vehicle «end».Vehicle = true
same_end «end».Vehicle «end».Point = false
same_end «end».Point «end».Vehicle = false
same_end «end».Point «end».Point = true

-- whether an item is about this end's leg of this call
abbrev pub is_leg : End → ℕ → End → ℕ → Bool
is_leg e c f d = same_end e f && (c == d)

abbrev pub is_owned : End → ℕ → Option (End × ℕ) → Bool
is_owned e c None = false
is_owned e c (Some o) = is_leg e c o.0 o.1

-- whether the item is this end's own, in this call
abbrev pub is_own : End → ℕ → Note → Bool
is_own e c n = is_owned e c (owner n)

-- a step that the entries of this end and call alone take
abbrev pub own : {H : Type 0} → (H → Entry → H) → End → ℕ → H → Entry → H
own step e c h x = if is_own e c x.note then step h x else h

-- What the entries so far say of the leg of an end in a call.
pub record Leg : Type 0 where
  pub up : Bool
  -- whether the voice is open both ways
  pub talks : Bool
  -- the tick at which this unbroken stretch of an open or a muted voice began
  pub since : ℕ

abbrev pub first_leg : Leg
first_leg = record { up = false; talks = false; since = 0 }

-- A voice that stays as it was goes on.
abbrev pub revoiced : Leg → (now : ℕ) → (was will : Bool) → Leg
revoiced leg now true true = leg
revoiced leg now false false = leg
revoiced leg now true false = record { up = leg.up; talks = false; since = now }
revoiced leg now false true = record { up = leg.up; talks = true; since = now }

-- The leg behind an item of its own. A leg that comes up is muted at first; one that is up doesn't come up again.
abbrev pub leg_moved : Leg → (now : ℕ) → Note → Leg
leg_moved leg now (note.Up e c) = if leg.up then leg else record { up = true; talks = false; since = now }
leg_moved leg now (note.Down e c why) = record { up = false; talks = leg.talks; since = leg.since }
leg_moved leg now (note.Voice e c up down) = revoiced leg now leg.talks (up && down)
leg_moved leg now _ = leg

abbrev pub leg_step : Leg → Entry → Leg
leg_step leg x = leg_moved leg x.tick x.note

-- the leg behind one more entry
abbrev pub leg_behind : End → ℕ → Leg → Entry → Leg
leg_behind e c leg x = own leg_step e c leg x

-- the leg behind all these entries
abbrev pub leg_at : End → ℕ → List Entry → Leg
leg_at e c entries = through (own leg_step e c) first_leg entries

-- It holds of each entry, with the leg in front of that entry and the entries behind it.
abbrev pub AtEach : (Leg → Entry → List Entry → Type 0) → End → ℕ → Leg → List Entry → Type 0
AtEach P e c leg [] = Unit {0}
AtEach P e c leg (x ∷ xs) = P leg x xs × AtEach P e c (leg_behind e c leg x) xs

-- Agreed: each acknowledged set was shown.

-- the item shows these octets for this request of this call
abbrev pub IsShown : ℕ → ℕ → List ℕ → Note → Type 0
IsShown call request octets (note.Shown c r o) = (c ≡ call) × (r ≡ request) × (o ≡ octets)
IsShown call request octets _ = ⊥

-- among these entries is one that shows these octets for this request of this call
abbrev pub WasShown : ℕ → ℕ → List ℕ → List Entry → Type 0
WasShown call request octets [] = ⊥
WasShown call request octets (x ∷ xs) = IsShown call request octets x.note ⊎ WasShown call request octets xs

-- where an item acknowledges a set, it was shown before for that call and request, octet for octet
abbrev pub IsShownFirst : List Entry → Note → Type 0
IsShownFirst before (note.Acked c r o) = WasShown c r o before
IsShownFirst before _ = Unit {0}

-- whichever of these entries acknowledges a set, it was shown in front of that entry
abbrev pub AgreedFrom : List Entry → List Entry → Type 0
AgreedFrom before [] = Unit {0}
AgreedFrom before (x ∷ xs) = IsShownFirst before x.note × AgreedFrom (before ++ x ∷ []) xs

-- Every acknowledged set was shown earlier by the point for that call, octet for octet.
abbrev pub Agreed : List Entry → Type 0
Agreed entries = AgreedFrom [] entries

-- Opened: the voice opens where a wait for data ends, or a fault comes.

-- a wait for data ends by its timer, or by the bound on all muting, or a fault comes
abbrev pub ends_wait : Note → Bool
ends_wait (note.Ended e c timer) = is_data_timer timer
ends_wait (note.Fault e c) = true
ends_wait _ = false

-- At this entry the leg's voice must open: its wait for data ends, or a fault comes, while it is up and muted.
pub record MustOpen (e : End) (c : ℕ) (leg : Leg) (x : Entry) : Type 0 where
  pub own : is_own e c x.note ≡ true
  pub ends : ends_wait x.note ≡ true
  pub up : leg.up ≡ true
  pub muted : leg.talks ≡ false

-- the next entry, where there is one, opens this leg's voice both ways
abbrev pub OpensNext : End → ℕ → List Entry → Type 0
OpensNext e c [] = Unit {0}
OpensNext e c (x ∷ xs) = x.note ≡ note.Voice e c true true

-- Whichever entry's leg must open its voice, the entry after it, where there is one, opens it.
abbrev pub Opened : List Entry → Type 0
Opened entries =
    (e : End) (c : ℕ) → AtEach (λ leg x next. MustOpen e c leg x → OpensNext e c next) e c first_leg entries

-- the last of these entries leaves this leg with its voice still to be opened
abbrev pub OwesOpening : End → ℕ → Leg → List Entry → Type 0
OwesOpening e c leg [] = ⊥
OwesOpening e c leg (x ∷ []) = MustOpen e c leg x
OwesOpening e c leg (x ∷ y ∷ xs) = OwesOpening e c (leg_behind e c leg x) (y ∷ xs)

-- No voice is still to be opened.
abbrev pub Finished : List Entry → Type 0
Finished entries = (e : End) (c : ℕ) → OwesOpening e c first_leg entries → ⊥

-- Bounded: no voice is muted for too long, or too soon.

-- a leg that is up and muted has been so for at most its end's limit
abbrev pub IsWithin : End → (now : ℕ) → Leg → Type 0
IsWithin e now leg = leg.up ≡ true → leg.talks ≡ false → now ≤ leg.since + muting_limit e

-- a voice is muted in one direction at least
abbrev pub mutes : Note → Bool
mutes (note.Voice e c up down) = not (up && down)
mutes _ = false

-- this entry turns the leg's voice from open to muted
pub record TurnsMuted (e : End) (c : ℕ) (leg : Leg) (x : Entry) : Type 0 where
  pub own : is_own e c x.note ≡ true
  pub mutes : mutes x.note ≡ true
  pub up : leg.up ≡ true
  pub talks : leg.talks ≡ true

-- at this entry the leg's voice is muted for no longer than its limit, and isn't muted too soon
pub record IsBounded (e : End) (c : ℕ) (leg : Leg) (x : Entry) : Type 0 where
  pub within : IsWithin e x.tick leg
  pub late : TurnsMuted e c leg x → leg.since + least_opening ≤ x.tick

pub record IsBoundedLeg (e : End) (c : ℕ) (entries : List Entry) (now : ℕ) : Type 0 where
  pub each : AtEach (λ leg x next. IsBounded e c leg x) e c first_leg entries
  pub last : IsWithin e now (leg_at e c entries)

-- At each entry, and behind them all at a tick, no end's voice is muted for longer than its limit; and none is muted
-- within the least ticks for which it must be open.
abbrev pub Bounded : List Entry → (now : ℕ) → Type 0
Bounded entries now = (e : End) (c : ℕ) → IsBoundedLeg e c entries now

-- The trace is safe up to this tick.
pub record Safe (entries : List Entry) (now : ℕ) : Type 0 where
  pub agreed : Agreed entries
  pub opened : Opened entries
  pub bounded : Bounded entries now
