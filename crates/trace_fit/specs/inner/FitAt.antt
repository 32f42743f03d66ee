-- When a trace fits ends that were passed up to their clocks, which within a unit tick aren't all at one tick.
-- Scaffolding of the laws.
use Rattle.std.specs.Prelude.{◌≡◌, ◌≤◌, ◌+◌, ℕ, true, false, List, [], ◌∷◌, ◌++◌, Option, Some, None, IfSome}
use Rattle.std.specs.List.{AllByRecursion}
use Rattle.std.specs.Option.{is_some}
use Rattle.link_frames.specs.declared.frame.End.{End}
use Rattle.link_frames.specs.declared.frame.End.TheVariants as «end»
use Rattle.link_frames.specs.declared.frame.Frame.{Frame}
use Rattle.link_frames.specs.declared.note.Note.{Note}
use Rattle.link_frames.specs.declared.note.Note.TheVariants as note
use Rattle.link_frames.specs.Legs.{Kept, owner}
use Rattle.link_frames.specs.Owes.{Seat, InTime, IsOf, SaysSeated}
use Rattle.ivs_machine.specs.Vehicle.{vehicle_call}
use Rattle.ivs_machine.specs.VehicleKept as vehicle
use Rattle.trace_model.specs.declared.entry.Entry.{Entry}
use Rattle.trace_model.specs.History.{sets_of}
use Rattle.trace_model.specs.Safety.{is_leg, Leg, first_leg, leg_at, AtEach, IsShownFirst, AgreedFrom, MustOpen, IsBounded}
use Rattle.trace_fit.specs.Links.{CarriesMade, ConfirmsShown, CallLinks}
use Rattle.trace_fit.specs.Order.{IsDrawn, Rises, ComesBehind, OrderedFrom}

-- An end is in a call as the entries say, where `K` says how the tick at which a stretch of its voice began and the
-- length of that stretch go together.
pub record SeatedBy (K : ℕ → Type 0) (k : Seat) (leg : Leg) (had : List Kept) : Type 0 where
  pub up : leg.up ≡ true
  pub talks : leg.talks ≡ k.talks
  pub time : K (leg.since + k.ticks)
  pub sets : had ≡ k.sets

abbrev pub SeatBy : (ℕ → Type 0) → Option Seat → Leg → List Kept → Type 0
SeatBy K None leg sets = leg.up ≡ false
SeatBy K (Some k) leg sets = SeatedBy K k leg sets

-- the sets of a seat are these
abbrev pub SetsFit : Option Seat → List Kept → Type 0
SetsFit None sets = Unit {0}
SetsFit (Some k) sets = sets ≡ k.sets

-- what an item says of sets, where the end is so
abbrev pub Tells : End → ℕ → Option Frame → Option Seat → Note → List Note → Type 0
Tells e c came s n ns = IsOf e c n × SaysSeated e came s n

-- what a frame that comes keeps to, at its receiver
abbrev pub CameBy : End → (made shown : List Kept) → Frame → Type 0
CameBy «end».Vehicle made shown f = ConfirmsShown shown f
CameBy «end».Point made shown f = CarriesMade made f

abbrev pub Came : End → ℕ → List Entry → Frame → Type 0
Came e c t f = CameBy e (sets_of «end».Vehicle c t) (sets_of «end».Point c t) f

-- the entry that comes next opens the voice
abbrev pub OpensSoon : End → ℕ → List Entry → Type 0
OpensSoon e c [] = ⊥
OpensSoon e c (x ∷ xs) = x.note ≡ note.Voice e c true true

-- an entry is safe for this leg, and leaves no voice to be opened
pub record SafeAt (e : End) (c : ℕ) (leg : Leg) (x : Entry) (next : List Entry) : Type 0 where
  pub opened : MustOpen e c leg x → OpensSoon e c next
  pub bounded : IsBounded e c leg x

abbrev pub SafeFrom : End → ℕ → Leg → List Entry → Type 0
SafeFrom e c leg t = AtEach (SafeAt e c) e c leg t

-- what an item says comes behind what it rests on
abbrev pub FollowsFrom : (before : List Entry) → List Entry → Type 0
FollowsFrom before [] = Unit {0}
FollowsFrom before (x ∷ xs) =
    (IsShownFirst before x.note × ComesBehind before x.note) × FollowsFrom (before ++ x ∷ []) xs

-- both ends of all calls, where they are in them
abbrev pub Seats : Type 0
Seats = End → ℕ → Option Seat

abbrev pub Clocks : Type 0
Clocks = End → ℕ → ℕ

pub record FitAt (clock : Clocks) (seat : Seats) (tick last : ℕ) (t : List Entry) : Type 0 where
  pub seats : (e : End) (c : ℕ) → SeatBy (λ n. n ≡ clock e c) (seat e c) (leg_at e c t) (sets_of e c t)
  pub in_time : (e : End) (c : ℕ) → IfSome (seat e c) (InTime e)
  pub near : (e : End) (c : ℕ) → tick ≤ clock e c + 1
  pub links : (c : ℕ) → CallLinks t c
  pub drawn : AllByRecursion (λ x. IsDrawn last (owner x.note)) t
  pub rises : Rises 0 t tick
  pub agreed : AgreedFrom [] t
  pub ordered : OrderedFrom [] t
  pub safe : (e : End) (c : ℕ) → SafeFrom e c first_leg t

-- One leg moved, and no other end or clock.
pub record Moves (clock clock' : Clocks) (seat seat' : Seats) (e : End) (c : ℕ) (new : Option Seat) : Type 0 where
  pub here : seat' e c ≡ new
  pub others : (f : End) (d : ℕ) → is_leg f d e c ≡ false → seat' f d ≡ seat f d
  pub clocks : (f : End) (d : ℕ) → is_leg f d e c ≡ false → clock' f d ≡ clock f d
