-- A run of one end, seen from outside: where it is in a call, and what each of its turns owes.
use Rattle.std.specs.Prelude.{◌≡◌, ◌≤◌, ◌<◌, ◌+◌, ℕ, List, [], ◌∷◌, ◌⊎◌, Option, Some, None, IfSome, ◌==◌, if◌then◌else◌}
use Rattle.link_frames.specs.declared.frame.End.{End}
use Rattle.link_frames.specs.declared.frame.Frame.{Frame}
use Rattle.link_frames.specs.Owes.{Seat, elapsed, Owes, OwesArrival}
use Rattle.live_link.specs.Turns.{Carried, Turn}

-- Up to which tick the end was passed, the number of the call that it is in, or 0, its seat there, if it is in one, and
-- a number that none of its calls so far is above.
pub record Place : Type 0 where
  pub clock : ℕ
  pub call : ℕ
  pub seat : Option Seat
  pub high : ℕ

-- the place before anything happened
abbrev pub first_place : Place
first_place = record { clock = 0; call = 0; seat = None; high = 0 }

-- the seat of an end in a call, if it is in it
abbrev pub seat_for : ℕ → Place → Option Seat
seat_for c p = if p.call == c then p.seat else None

abbrev pub frame_of : Option Carried → Option Frame
frame_of None = None
frame_of (Some k) = Some k.frame

-- an end that is still in a call is in the same one, and its number isn't above
pub record Stays (p q : Place) : Type 0 where
  pub call : IfSome q.seat (λ k. q.call ≡ p.call)
  pub high : q.high ≡ p.high
  pub low : q.call ≤ q.high

-- it hears something in its call, or outside a call
pub record HearsTurn (e : End) (p : Place) (t : Turn) (q : Place) : Type 0 where
  pub now : t.tick ≡ p.clock
  pub clock : q.clock ≡ p.clock
  pub stays : Stays p q
  pub came : IfSome t.came (λ k. k.call ≡ p.call)
  pub owes : Owes e p.call (frame_of t.came) p.seat t.items q.seat

-- a call comes up whose number is above those of all its calls before
pub record ComesUpTurn (e : End) (p : Place) (t : Turn) (q : Place) : Type 0 where
  pub now : t.tick ≡ p.clock
  pub clock : q.clock ≡ p.clock
  pub out : p.seat ≡ None
  pub above : p.high < q.call
  pub high : q.high ≡ q.call
  pub owes : OwesArrival e q.call t.items q.seat

-- it passes one tick
pub record PassesTurn (e : End) (p : Place) (t : Turn) (q : Place) : Type 0 where
  pub now : t.tick ≡ p.clock + 1
  pub clock : q.clock ≡ p.clock + 1
  pub stays : Stays p q
  pub owes : Owes e p.call None (elapsed p.seat) t.items q.seat

abbrev pub EventTurn : End → Place → Turn → Place → Type 0
EventTurn e p t q = HearsTurn e p t q ⊎ ComesUpTurn e p t q

-- Each of these turns owes what it must, from a place on, and at their end at least n ticks were passed.
abbrev pub OwedFrom : End → (n : ℕ) → Place → List Turn → Type 0
OwedFrom e n p [] = n ≤ p.clock
OwedFrom e n p (t ∷ ts) = (q : Place) × (EventTurn e p t q ⊎ PassesTurn e p t q) × OwedFrom e n q ts

-- events alone, from one place to another
abbrev pub Events : End → Place → List Turn → Place → Type 0
Events e p [] q = p ≡ q
Events e p (t ∷ ts) q = (r : Place) × EventTurn e p t r × Events e r ts q

-- what comes behind the events of a tick: nothing more, or the next tick passes
abbrev pub Later : End → (n : ℕ) → Place → List Turn → Type 0
Later e n p [] = n ≤ p.clock
Later e n p (t ∷ ts) = (q : Place) × PassesTurn e p t q × OwedFrom e n q ts
