-- What stands behind what in a trace: ticks, drawn call numbers, and a set behind its sending and its showing. This
-- project's profile. Cited by the invariant of the world and by the laws of joint traces.
use Rattle.std.specs.Prelude.{◌≡◌, ◌≤◌, ℕ, List, [], ◌∷◌, ◌++◌, ◌⊎◌, Option, Some, None}
use Rattle.link_frames.specs.declared.frame.End.{End}
use Rattle.link_frames.specs.declared.frame.End.TheVariants as «end»
use Rattle.link_frames.specs.declared.frame.Frame.TheVariants as frame
use Rattle.link_frames.specs.declared.note.Note.{Note}
use Rattle.link_frames.specs.declared.note.Note.TheVariants as note
use Rattle.trace_model.specs.declared.entry.Entry.{Entry}
use Rattle.trace_model.specs.Safety.{WasShown}

-- an item is of no call whose number wasn't drawn
abbrev pub IsDrawn : (drawn : ℕ) → Option (End × ℕ) → Type 0
IsDrawn drawn None = Unit {0}
IsDrawn drawn (Some o) = o.1 ≤ drawn

-- ticks never fall, from the first of these two to the second
abbrev pub Rises : (from : ℕ) → List Entry → (to : ℕ) → Type 0
Rises from [] to = from ≤ to
Rises from (x ∷ xs) to = (from ≤ x.tick) × Rises x.tick xs to

-- the item sends these octets for this request of this call
abbrev pub IsSent : ℕ → ℕ → List ℕ → Note → Type 0
IsSent call request octets (note.Send «end».Vehicle c (frame.Content r attempt o)) =
    (c ≡ call) × (r ≡ request) × (o ≡ octets)
IsSent call request octets _ = ⊥

-- among these entries is one that sends these octets for this request of this call
abbrev pub WasSent : ℕ → ℕ → List ℕ → List Entry → Type 0
WasSent call request octets [] = ⊥
WasSent call request octets (x ∷ xs) = IsSent call request octets x.note ⊎ WasSent call request octets xs

-- some set was shown for this request of this call
abbrev pub SomeShown : ℕ → ℕ → List Entry → Type 0
SomeShown call request entries = (octets : List ℕ) × WasShown call request octets entries

-- A set is shown behind its sending, and acknowledged, by either layer, behind its showing.
abbrev pub ComesBehind : (before : List Entry) → Note → Type 0
ComesBehind before (note.Shown c r octets) = WasSent c r octets before
ComesBehind before (note.Send «end».Point c (frame.Ack r)) = SomeShown c r before
ComesBehind before (note.Send «end».Point c (frame.App r answer)) = SomeShown c r before
ComesBehind before _ = Unit {0}

abbrev pub OrderedFrom : (before : List Entry) → List Entry → Type 0
OrderedFrom before [] = Unit {0}
OrderedFrom before (x ∷ xs) = ComesBehind before x.note × OrderedFrom (before ++ x ∷ []) xs
