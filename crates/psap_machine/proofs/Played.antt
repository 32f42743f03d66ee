-- The table plays the point's part of some calls: the items come at the ticks, and in the order, that the protocol's
-- description gives, for every call number and every set.
use Rattle.std.specs.Prelude.{◌≡◌, ℕ, zero, suc, true, false, List, [], ◌∷◌, ◌++◌, ◌+◌, refl}
use Rattle.link_frames.specs.declared.frame.Answer.TheVariants as answer
use Rattle.link_frames.specs.declared.frame.End.TheVariants as «end»
use Rattle.link_frames.specs.declared.frame.Frame.{Frame}
use Rattle.link_frames.specs.declared.frame.Frame.TheVariants as frame
use Rattle.link_frames.specs.declared.note.Note.{Note}
use Rattle.link_frames.specs.declared.note.Note.TheVariants as note
use Rattle.link_frames.specs.declared.note.Timer.TheVariants as timer
use Rattle.link_frames.specs.declared.note.Why.TheVariants as why
use Rattle.psap_machine.specs.Point.{Point}
use Rattle.psap_machine.specs.PointRows.{Heard, Arrives, Damaged, Request, Clear, Fault, Hangup, Ended, arriving, called, point_row, unit_row}

-- What happens in a call, in order.
data Happening : Type 0 where
  Hears : Heard → Happening
  Passes : (ticks : ℕ) → Happening

-- an item at a tick
abbrev Told : Type 0
Told = ℕ × Note

abbrev told : ℕ → List Note → List Told
told now [] = []
told now (n ∷ ns) = (now, n) ∷ told now ns

-- the items of so many unit ticks, from a tick on, and then what follows
abbrev passes : ℕ → ℕ → Point → (ℕ → Point → List Told) → List Told
passes zero now s then = then now s
passes (suc n) now s then = told (now + 1) (unit_row s).items ++ passes n (now + 1) (unit_row s).new then

abbrev plays : List Happening → ℕ → Point → List Told
plays [] now s = []
plays (Hears e ∷ hs) now s = told now (point_row s e).items ++ plays hs now (point_row s e).new
plays (Passes n ∷ hs) now s = passes n now s (plays hs)

abbrev sent : ℕ → Frame → Note
sent c f = note.Send «end».Point c f

abbrev opened : ℕ → Note
opened c = note.Voice «end».Point c true true

abbrev muted : ℕ → Note
muted c = note.Voice «end».Point c false false

-- these happenings, from a state on, give these items
abbrev Plays : Point → List Happening → List Told → Type 0
Plays s hs items = plays hs 0 s ≡ items

-- a frame that is sent so many times, every 5 ticks
abbrev repeated : (times : ℕ) → (now : ℕ) → Note → List Told
repeated zero now n = []
repeated (suc k) now n = (now, n) ∷ repeated k (now + 5) n

abbrev initiated : Happening
initiated = Hears (Arrives frame.Init)

abbrev brought : ℕ → List ℕ → Happening
brought r octets = Hears (Arrives (frame.Content r 0 octets))

abbrev starts : ℕ → ℕ → Note
starts c r = sent c (frame.Start r)

abbrev confirms : ℕ → ℕ → Note
confirms c r = sent c (frame.App r answer.Positive)

abbrev clears : ℕ → ℕ → Note
clears c r = sent c (frame.App r answer.Clear)

abbrev shows : ℕ → ℕ → ℕ → List ℕ → List Told
shows now c r octets = (now, note.Shown c r octets) ∷ (now, sent c (frame.Ack r)) ∷ (now, confirms c r) ∷ []

-- no initiation comes
in_vain : (c : ℕ)
    → Plays (arriving c).new (Passes 100 ∷ Hears Hangup ∷ [])
    ((50, note.Ended «end».Point c timer.T4) ∷ (50, opened c) ∷ (100, note.Down «end».Point c why.Hangup) ∷ [])
in_vain c = refl

-- a call in which each frame is three ticks under way
abbrev first_call : List ℕ → List Happening
first_call octets =
    Passes 3 ∷ initiated ∷ Passes 5 ∷ initiated ∷ Passes 1 ∷ brought 1 octets ∷ Passes 91 ∷ []

abbrev first_items : ℕ → List ℕ → List Told
first_items c octets =
    repeated 2 3 (starts c 1) ++ shows 9 c 1 octets ++ repeated 4 14 (confirms c 1) ++ (34, opened c) ∷ []

first_call_plays : (c : ℕ) (octets : List ℕ) → Plays (arriving c).new (first_call octets) (first_items c octets)
first_call_plays c octets = refl

-- the desk asks again, once at a time
asks_again : (c : ℕ) (octets other : List ℕ)
    → Plays (arriving c).new
    (first_call octets ++ Hears Request ∷ Hears Request ∷ brought 2 other ∷ [])
    (first_items c octets
    ++ ((100, muted c) ∷ (100, starts c 2) ∷ (100, note.Busy c) ∷ [])
    ++ shows 100 c 2 other)
asks_again c octets other = refl

-- the desk lets go, and the vehicle releases the call
lets_go : (c : ℕ) (octets : List ℕ)
    → Plays (arriving c).new
    (first_call octets ++ Hears Clear ∷ Passes 3 ∷ Hears (Ended why.Release) ∷ Passes 7 ∷ [])
    (first_items c octets
    ++ (100, muted c)
    ∷ (100, clears c 1)
    ∷ (103, note.Down «end».Point c why.Release)
    ∷ [])
lets_go c octets = refl

-- it doesn't release it: the point does so itself
lets_go_alone : (c : ℕ) (octets : List ℕ)
    → Plays (arriving c).new
    (first_call octets ++ Hears Clear ∷ Passes 100 ∷ [])
    (first_items c octets
    ++ (100, muted c)
    ∷ repeated 5 100 (clears c 1)
    ++ (125, note.Down «end».Point c why.Release)
    ∷ [])
lets_go_alone c octets = refl

-- the set comes at once
comes_at_once : (c : ℕ) (octets : List ℕ)
    → Plays (arriving c).new
    (initiated ∷ brought 1 octets ∷ Passes 200 ∷ [])
    ((0, starts c 1) ∷ shows 0 c 1 octets ++ repeated 4 5 (confirms c 1) ++ (25, opened c) ∷ [])
comes_at_once c octets = refl

-- no set comes: the wait ends before the repeat of that tick, and the desk asks again once the voice was open for long
no_set_comes : (c : ℕ)
    → Plays (arriving c).new
    (initiated ∷ Passes 220 ∷ Hears Request ∷ Passes 100 ∷ [])
    (repeated 40 0 (starts c 1)
    ++ (200, note.Ended «end».Point c timer.T8)
    ∷ (200, opened c)
    ∷ (220, muted c)
    ∷ repeated 21 220 (starts c 2))
no_set_comes c = refl

-- the leg is lost
is_lost : (c : ℕ) (octets : List ℕ)
    → Plays (arriving c).new
    (initiated ∷ Hears (Ended why.Lost) ∷ brought 1 octets ∷ Passes 200 ∷ [])
    ((0, starts c 1) ∷ (0, note.Down «end».Point c why.Lost) ∷ [])
is_lost c octets = refl

-- the point calls the vehicle back, and asks
calls_back : (c : ℕ)
    → Plays (called c).new (Passes 20 ∷ Hears Request ∷ []) ((20, muted c) ∷ (20, starts c 1) ∷ [])
calls_back c = refl

-- a damaged set, and a fault
is_damaged : (c : ℕ)
    → Plays (arriving c).new
    (initiated ∷ Hears Damaged ∷ Hears Fault ∷ Hears Damaged ∷ [])
    ((0, starts c 1)
    ∷ (0, sent c (frame.Nack 1))
    ∷ (0, note.Fault «end».Point c)
    ∷ (0, opened c)
    ∷ (0, note.Nothing)
    ∷ [])
is_damaged c = refl

-- the desk asks so often that the numbers of requests are spent
abbrev again : ℕ → List Happening → List Happening
again zero hs = hs
again (suc n) hs = Hears Request ∷ Hears Fault ∷ Passes 20 ∷ again n hs

abbrev last_told : List Told → List Told
last_told [] = []
last_told (x ∷ []) = x ∷ []
last_told (x ∷ xs) = last_told xs

is_spent : (c : ℕ)
    → last_told (plays (Passes 70 ∷ again 255 (Hears Request ∷ [])) 0 (arriving c).new) ≡ (5170, note.Spent c) ∷ []
is_spent c = refl
