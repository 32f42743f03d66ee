-- Sets made, shown and acknowledged in a call: what ties the frames that were sent in it to the sets. This project's
-- profile. Cited by the invariant of the world and by the laws of joint traces.
use Rattle.std.specs.Prelude.{◌≡◌, ℕ, List, Some}
use Rattle.std.specs.List.{AllByRecursion}
use Rattle.link_frames.specs.declared.frame.End.TheVariants as «end»
use Rattle.link_frames.specs.declared.frame.Frame.{Frame}
use Rattle.link_frames.specs.declared.frame.Frame.TheVariants as frame
use Rattle.link_frames.specs.Legs.{Kept}
use Rattle.link_frames.specs.Owes.{set_for, HasSet}
use Rattle.trace_model.specs.declared.entry.Entry.{Entry}
use Rattle.trace_model.specs.History.{Sent, sent_by, sets_of}

-- a set in a frame is the one made for its request
abbrev pub CarriesMade : (made : List Kept) → Frame → Type 0
CarriesMade made (frame.Content r attempt octets) = set_for r made ≡ Some octets
CarriesMade made _ = Unit {0}

-- an acknowledgement of either layer is of a request whose set was shown
abbrev pub ConfirmsShown : (shown : List Kept) → Frame → Type 0
ConfirmsShown shown (frame.Ack r) = HasSet r shown
ConfirmsShown shown (frame.App r answer) = HasSet r shown
ConfirmsShown shown _ = Unit {0}

-- Each set that the vehicle sent, by whichever attempt, is the one set made for its request; so is each set shown; and
-- each acknowledgement is of a set shown.
pub record Links (made shown : List Kept) (up down : List Sent) : Type 0 where
  pub carried : AllByRecursion (λ s. CarriesMade made s.frame) up
  pub same : (r : ℕ) (octets : List ℕ) → set_for r shown ≡ Some octets → set_for r made ≡ Some octets
  pub confirmed : AllByRecursion (λ s. ConfirmsShown shown s.frame) down

abbrev pub CallLinks : List Entry → ℕ → Type 0
CallLinks entries c =
    Links (sets_of «end».Vehicle c entries) (sets_of «end».Point c entries) (sent_by «end».Vehicle c entries)
    (sent_by «end».Point c entries)
