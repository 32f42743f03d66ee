-- What is safe at a relay desk, said of what an observer sees of it, and of neither end of its link: the second point
-- shows a set that the point showed before, octet for octet, and each desk request's once; and the desk takes a request
-- for done when its set was shown there. What the desk keeps fits what was seen so far; this holds at first, and each
-- event keeps it, whatever the link loses, repeats or reorders. This project's profile. Cited by the contracts of
-- `Relay`.
use Rattle.std.specs.Prelude.{◌≡◌, ℕ, true, List, [], ◌∷◌, ◌++◌, ◌⊎◌, ◌↔◌, IfSome, map}
use Rattle.std.specs.List.{AllByRecursion}
use Rattle.relay_desk.specs.declared.event.RelayEvent.{RelayEvent}
use Rattle.relay_desk.specs.declared.event.RelayEvent.TheVariants as event
use Rattle.relay_desk.specs.declared.event.RelayNote.{RelayNote}
use Rattle.relay_desk.specs.declared.event.RelayNote.TheVariants as note
use Rattle.relay_desk.specs.Desk.{Desk, Message}

-- What an observer sees: a set that the point shows, or an item.
pub data Sight : Type 0 where
  Showed : (call request : ℕ) → (octets : List ℕ) → Sight
  Gave : RelayNote → Sight

-- what is seen of an event that gives these items
abbrev pub sights_of : RelayEvent → List RelayNote → List Sight
sights_of (event.Shown c r o) items = Showed c r o ∷ map Gave items
sights_of _ items = map Gave items

-- the point shows these octets for this request of this call
abbrev pub IsShowing : ℕ → ℕ → List ℕ → Sight → Type 0
IsShowing c r o (Showed call request octets) = (call ≡ c) × (request ≡ r) × (octets ≡ o)
IsShowing c r o (Gave item) = ⊥

-- the point did
abbrev pub WasShown : ℕ → ℕ → List ℕ → List Sight → Type 0
WasShown c r o [] = ⊥
WasShown c r o (x ∷ xs) = IsShowing c r o x ⊎ WasShown c r o xs

-- the second point shows the set of this desk request
abbrev pub IsShowingThere : ℕ → Sight → Type 0
IsShowingThere q (Gave (note.Shown desk c r o)) = desk ≡ q
IsShowingThere q _ = ⊥

-- the second point did
abbrev pub WasShownThere : ℕ → List Sight → Type 0
WasShownThere q [] = ⊥
WasShownThere q (x ∷ xs) = IsShowingThere q x ⊎ WasShownThere q xs

-- what is shown at the second point was shown by the point, and not there before; what is done was shown there
abbrev pub ComesBehind : List Sight → Sight → Type 0
ComesBehind before (Gave (note.Shown q c r o)) = WasShown c r o before × ¬ WasShownThere q before
ComesBehind before (Gave (note.Done q)) = WasShownThere q before
ComesBehind before _ = Unit {0}

abbrev pub CarriedFrom : List Sight → List Sight → Type 0
CarriedFrom before [] = Unit {0}
CarriedFrom before (x ∷ xs) = ComesBehind before x × CarriedFrom (before ++ x ∷ []) xs

abbrev pub Carried : List Sight → Type 0
Carried seen = CarriedFrom [] seen

-- the set of this message was shown by the point
abbrev pub IsOfShown : List Sight → Message → Type 0
IsOfShown seen m = WasShown m.call m.set.request m.set.octets seen

-- What the desk keeps fits what was seen: each set that it knows of was shown by the point in that call; the desk
-- requests whose set the second point showed are those that it keeps; and each message back is of one of these.
pub record Fits (d : Desk) (seen : List Sight) : Type 0 where
  pub carried : Carried seen
  pub last : (c : ℕ) → IfSome (d.last c) (λ s. WasShown c s.request s.octets seen)
  pub forth : AllByRecursion (IsOfShown seen) d.forth
  pub pending : AllByRecursion (λ p. IsOfShown seen p.message) d.pending
  pub second : (q : ℕ) → (d.second q ≡ true) ↔ WasShownThere q seen
  pub back : AllByRecursion (λ q. WasShownThere q seen) d.back
