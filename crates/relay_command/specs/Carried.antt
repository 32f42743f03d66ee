-- What is safe in a trace with a relay desk, said of its entries and items alone: a set that the second point shows was
-- sent by the vehicle and shown by the point before, in the same call and for the same request, octet for octet; the
-- set of no desk request is shown there twice; and no desk request is done before its set was shown there. This
-- project's profile. Cited by the laws of this crate and by the contract of `ecall`.
use Rattle.std.specs.Prelude.{◌≡◌, ℕ, List, [], ◌∷◌, ◌++◌, ◌⊎◌}
use Rattle.trace_fit.specs.Order.{WasSent}
use Rattle.trace_model.specs.Safety.{WasShown}
use Rattle.relay_desk.specs.declared.event.RelayNote.TheVariants as note
use Rattle.relay_text.specs.ItemLine.{RelayEntry, OfDesk}
use Rattle.relay_command.specs.OfRun.{of_world}

-- the second point shows the set of this desk request
abbrev pub IsShownThere : ℕ → RelayEntry → Type 0
IsShownThere q (OfDesk tick (note.Shown desk c r o)) = desk ≡ q
IsShownThere q _ = ⊥

-- among these is such an item
abbrev pub WasShownThere : ℕ → List RelayEntry → Type 0
WasShownThere q [] = ⊥
WasShownThere q (x ∷ xs) = IsShownThere q x ⊎ WasShownThere q xs

-- These octets may be shown at the second point as the set of this desk request.
pub record MayBeShown (before : List RelayEntry) (q c r : ℕ) (octets : List ℕ) : Type 0 where
  pub sent : WasSent c r octets (of_world before)
  pub shown : WasShown c r octets (of_world before)
  pub once : ¬ WasShownThere q before

-- what must stand in front of an item
abbrev pub ComesBehind : List RelayEntry → RelayEntry → Type 0
ComesBehind before (OfDesk tick (note.Shown q c r octets)) = MayBeShown before q c r octets
ComesBehind before (OfDesk tick (note.Done q)) = WasShownThere q before
ComesBehind before _ = Unit {0}

abbrev pub CarriedFrom : List RelayEntry → List RelayEntry → Type 0
CarriedFrom before [] = Unit {0}
CarriedFrom before (x ∷ xs) = ComesBehind before x × CarriedFrom (before ++ x ∷ []) xs

abbrev pub IsCarried : List RelayEntry → Type 0
IsCarried trace = CarriedFrom [] trace
