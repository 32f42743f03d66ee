-- A row keeps a trace that fits.
use Rattle.std.specs.Prelude.{◌≡◌, ◌≤◌, ◌<◌, ◌+◌, ℕ, ◌==◌, Bool, true, false, List, [], ◌∷◌, ◌++◌, Option, Some, None, IfSome}
use Rattle.std.specs.List.{AllByRecursion}
use Rattle.std.proofs.Common.{refl, sym, ap, subst, ◌∙◌, arith, append_assoc}
use Rattle.std.proofs.lemmas.Bool.{eqb-true, false≢true}
use Rattle.std.proofs.lemmas.List.{append-nil}
use Rattle.link_frames.specs.declared.frame.End.{End}
use Rattle.link_frames.specs.declared.frame.End.TheVariants as «end»
use Rattle.link_frames.specs.declared.note.Note.{Note}
use Rattle.link_frames.specs.declared.frame.Frame.{Frame}
use Rattle.link_frames.specs.Legs.{Kept, through, owner, muting_limit}
use Rattle.link_frames.specs.Owes.{Seat, seat_moved, OwnedBy, Along, InTime}
use Rattle.trace_model.specs.declared.entry.Entry.{Entry}
use Rattle.trace_model.specs.History.{told, sent_by, sets_step, sets_of}
use Rattle.trace_model.specs.Safety.{is_leg, is_owned, own, Leg, first_leg, leg_step, leg_behind, leg_at, AgreedFrom, IsWithin}
use Rattle.trace_model.proofs.Folds.{each_leg, through_append, AllOf, not_of, passed_over, sent_append, sent_over}
use Rattle.trace_fit.specs.Links.{CallLinks}
use Rattle.trace_fit.specs.Order.{IsDrawn, Rises, OrderedFrom}
use Rattle.trace_fit.specs.inner.FitAt.{SeatBy, SetsFit, Tells, Came, OpensSoon, SafeFrom, FollowsFrom, Seats, Clocks, FitAt, Moves}
use Rattle.trace_fit.proofs.Lists.{all_append}
use Rattle.trace_fit.proofs.LinksRow.{RowTells, vehicle_tells, point_tells}

-- another leg's history is as it was
pub over : {H : Type 0} (step : H → Entry → H) (h : H) (e f : End) (c d now : ℕ) (t : List Entry) (ns : List Note) →
    is_leg f d e c ≡ false → AllOf e c ns →
    through (own step f d) h (t ++ told now ns) ≡ through (own step f d) h t
over step h e f c d now t ns apart a =
    through_append (own step f d) h t (told now ns)
    ∙ passed_over step e f c d now (through (own step f d) h t) apart ns a

-- and it sent nothing
pub unsent : (e f : End) (c d now : ℕ) (t : List Entry) (ns : List Note) → is_leg f d e c ≡ false → AllOf e c ns →
    sent_by f d (t ++ told now ns) ≡ sent_by f d t
unsent e f c d now t ns apart a =
    sent_append f d t (told now ns) ∙ ap (λ z. sent_by f d t ++ z) (sent_over e f c d now apart ns a)
    ∙ append-nil (sent_by f d t)

pub along_into : (P Q : Option Seat → Note → List Note → Type 0) (e : End) →
    ((s : Option Seat) (n : Note) (ns : List Note) → P s n ns → Q s n ns) → (s : Option Seat) (ns : List Note) →
    Along P e s ns → Along Q e s ns
along_into P Q e f s [] a = tt
along_into P Q e f s (n ∷ ns) a = (f s n ns a.0, along_into P Q e f (seat_moved e s n) ns a.1)

pub along_of : (e : End) (c : ℕ) (came : Option Frame) (s : Option Seat) (ns : List Note) → Along (Tells e c came) e s ns →
    AllOf e c ns
along_of e c came s [] a = tt
along_of e c came s (n ∷ ns) a = (a.0.0, along_of e c came (seat_moved e s n) ns a.1)

opens_append : (e : End) (c : ℕ) → (xs ys : List Entry) → OpensSoon e c xs → OpensSoon e c (xs ++ ys)
opens_append e c [] ys h = absurd h
opens_append e c (x ∷ xs) ys h = h

pub safe_append : (e : End) (c : ℕ) (leg : Leg) (xs ys : List Entry) → SafeFrom e c leg xs →
    SafeFrom e c (through (own leg_step e c) leg xs) ys → SafeFrom e c leg (xs ++ ys)
safe_append e c leg [] ys a b = b
safe_append e c leg (x ∷ xs) ys a b = (
  record { opened = λ d. opens_append e c xs ys (a.0.opened d); bounded = a.0.bounded },
  safe_append e c (leg_behind e c leg x) xs ys a.1 b,
)

-- items of another leg are safe for a leg that isn't muted for too long
safe_over : (e f : End) (c d now : ℕ) (leg : Leg) → is_leg f d e c ≡ false → IsWithin f now leg → (ns : List Note) →
    AllOf e c ns → SafeFrom f d leg (told now ns)
safe_over e f c d now leg apart within [] a = tt
safe_over e f c d now leg apart within (n ∷ ns) a =
    let x : Entry = record { tick = now; note = n } in
    let off : is_owned f d (owner n) ≡ false = not_of e f c d apart (owner n) a.0 in
    let same : own leg_step f d leg x ≡ leg = rw off refl in (
      record {
        opened = λ m. absurd (false≢true (sym off ∙ m.own));
        bounded = record { within = within; late = λ m. absurd (false≢true (sym off ∙ m.own)) };
      },
      subst (λ (z : Leg). SafeFrom f d z (told now ns)) (sym same) (safe_over e f c d now leg apart within ns a.1),
    )

-- a leg that fits isn't muted for too long
pub within_of : (e : End) (tick clock : ℕ) (leg : Leg) (sets : List Kept) → (s : Option Seat) →
    SeatBy (λ n. n ≡ clock) s leg sets → IfSome s (InTime e) → tick ≤ clock + 1 → IsWithin e tick leg
within_of e tick clock leg sets None h timely near = λ up talks. absurd (false≢true (sym h ∙ up))
within_of e tick clock leg sets (Some k) h timely near =
    λ up talks.
    let a : k.ticks < muting_limit e = timely (sym h.talks ∙ talks) in
    let b : leg.since + k.ticks ≡ clock = h.time in
    omega arith

-- what the row says of the sets of its call
row_tells : (e : End) (c now : ℕ) (came : Option Frame) (s : Option Seat) (ns : List Note) (t : List Entry) →
    IfSome came (Came e c t) → SetsFit s (sets_of e c t) → Along (Tells e c came) e s ns → CallLinks t c →
    RowTells c t (told now ns)
row_tells «end».Vehicle c now came s ns t brought fit a h = vehicle_tells came c now s ns t brought fit a h
row_tells «end».Point c now came s ns t brought fit a h = point_tells came c now s ns t brought fit a h

apart_call : (e f : End) (c d : ℕ) → (d == c) ≡ false → is_leg f d e c ≡ false
apart_call «end».Vehicle «end».Vehicle c d h = h
apart_call «end».Vehicle «end».Point c d h = refl
apart_call «end».Point «end».Vehicle c d h = refl
apart_call «end».Point «end».Point c d h = h

links_all : (e : End) (c now : ℕ) (ns : List Note) (t : List Entry) → AllOf e c ns → ((d : ℕ) → CallLinks t d) →
    CallLinks (t ++ told now ns) c → (d : ℕ) → CallLinks (t ++ told now ns) d
links_all e c now ns t a old here d = at (d == c) refl
  where
    at : (b : Bool) → (d == c) ≡ b → CallLinks (t ++ told now ns) d
    at true h = subst (λ (z : ℕ). CallLinks (t ++ told now ns) z) (sym (eqb-true d c h)) here
    at false h =
        rw (over (sets_step «end».Vehicle) [] e «end».Vehicle c d now t ns (apart_call e «end».Vehicle c d h) a, over (sets_step «end».Point) [] e «end».Point c d now t ns (apart_call e «end».Point c d h) a, unsent e «end».Vehicle c d now t ns (apart_call e «end».Vehicle c d h) a, unsent e «end».Point c d now t ns (apart_call e «end».Point c d h) a)
        (old d)

drawn_one : (e : End) (c last : ℕ) → c ≤ last → (o : Option (End × ℕ)) → OwnedBy e c o → IsDrawn last o
drawn_one e c last below None a = tt
drawn_one e c last below (Some o) a = subst (λ (z : ℕ). z ≤ last) (sym a.1) below

drawn_told : (e : End) (c last now : ℕ) → c ≤ last → (ns : List Note) → AllOf e c ns →
    AllByRecursion (λ x. IsDrawn last (owner x.note)) (told now ns)
drawn_told e c last now below [] a = tt
drawn_told e c last now below (n ∷ ns) a = (drawn_one e c last below (owner n) a.0, drawn_told e c last now below ns a.1)

pub rises_told : (now : ℕ) → (ns : List Note) → Rises now (told now ns) now
rises_told now [] = omega arith
rises_told now (n ∷ ns) = (omega arith, rises_told now ns)

rises_from : (a b c : ℕ) → a ≤ b → (ys : List Entry) → Rises b ys c → Rises a ys c
rises_from a b c h [] k = omega (arith, h, k)
rises_from a b c h (y ∷ ys) k = (omega (arith, h, k.0), k.1)

pub rises_append : (a b c : ℕ) (xs ys : List Entry) → Rises a xs b → Rises b ys c → Rises a (xs ++ ys) c
rises_append a b c [] ys h k = rises_from a b c h ys k
rises_append a b c (x ∷ xs) ys h k = (h.0, rises_append x.tick b c xs ys h.1 k)

agreed_append : (before xs ys : List Entry) → AgreedFrom before xs → FollowsFrom (before ++ xs) ys →
    AgreedFrom before (xs ++ ys)
agreed_append before [] ys a b = all before ys (rw append-nil at b)
  where
    all : (before ys : List Entry) → FollowsFrom before ys → AgreedFrom before ys
    all before [] h = tt
    all before (y ∷ ys) h = (h.0.0, all (before ++ y ∷ []) ys h.1)
agreed_append before (x ∷ xs) ys a b = (
  a.0,
  agreed_append (before ++ x ∷ []) xs ys a.1
      (subst (λ (h : List Entry). FollowsFrom h ys) (sym (append_assoc before (x ∷ []) xs)) b),
)

ordered_append : (before xs ys : List Entry) → OrderedFrom before xs → FollowsFrom (before ++ xs) ys →
    OrderedFrom before (xs ++ ys)
ordered_append before [] ys a b = all before ys (rw append-nil at b)
  where
    all : (before ys : List Entry) → FollowsFrom before ys → OrderedFrom before ys
    all before [] h = tt
    all before (y ∷ ys) h = (h.0.1, all (before ++ y ∷ []) ys h.1)
ordered_append before (x ∷ xs) ys a b = (
  a.0,
  ordered_append (before ++ x ∷ []) xs ys a.1
      (subst (λ (h : List Entry). FollowsFrom h ys) (sym (append_assoc before (x ∷ []) xs)) b),
)

-- A row, where what it does to its own leg is known, keeps a trace that fits.
pub row_kept : (clock clock' : Clocks) (seat seat' : Seats) (tick last : ℕ) (t : List Entry) (e : End) (c : ℕ)
    (came : Option Frame) (s : Option Seat) (ns : List Note) (new : Option Seat)
    → FitAt clock seat tick last t
    → c ≤ last
    → IfSome came (Came e c t)
    → SetsFit s (sets_of e c t)
    → Along (Tells e c came) e s ns
    → SafeFrom e c (leg_at e c t) (told tick ns)
    → SeatBy (λ n. n ≡ clock' e c) new (leg_at e c (t ++ told tick ns)) (sets_of e c (t ++ told tick ns))
    → IfSome new (InTime e)
    → tick ≤ clock' e c + 1
    → Moves clock clock' seat seat' e c new
    → FitAt clock' seat' tick last (t ++ told tick ns)
row_kept clock clock' seat seat' tick last t e c came s ns new fit below brought sets tells safe here timely near moves =
    let a : AllOf e c ns = along_of e c came s ns tells in
    let u : List Entry = told tick ns in
    let says : RowTells c t (told tick ns) = row_tells e c tick came s ns t brought sets tells (fit.links c) in
    record {
      seats =
          each_leg (λ f d. SeatBy (λ n. n ≡ clock' f d) (seat' f d) (leg_at f d (t ++ u)) (sets_of f d (t ++ u))) e c
          (rw moves.here here)
          (λ f d apart.
          rw (moves.others f d apart, moves.clocks f d apart, over leg_step first_leg e f c d tick t ns apart a, over (sets_step f) [] e f c d tick t ns apart a)
          (fit.seats f d));
      in_time =
          each_leg (λ f d. IfSome (seat' f d) (InTime f)) e c (rw moves.here timely)
          (λ f d apart. rw (moves.others f d apart) (fit.in_time f d));
      near =
          each_leg (λ f d. tick ≤ clock' f d + 1) e c near
          (λ f d apart. rw (moves.clocks f d apart) (fit.near f d));
      links = links_all e c tick ns t a fit.links says.0;
      drawn = all_append (λ x. IsDrawn last (owner x.note)) t u fit.drawn (drawn_told e c last tick below ns a);
      rises = rises_append 0 tick tick t u fit.rises (rises_told tick ns);
      agreed = agreed_append [] t u fit.agreed says.1;
      ordered = ordered_append [] t u fit.ordered says.1;
      safe =
          each_leg (λ f d. SafeFrom f d first_leg (t ++ u)) e c
          (safe_append e c first_leg t u (fit.safe e c) safe)
          (λ f d apart.
          safe_append f d first_leg t u (fit.safe f d)
          (safe_over e f c d tick (leg_at f d t) apart (within_of f tick (clock f d) (leg_at f d t) (sets_of f d t) (seat f d) (fit.seats f d) (fit.in_time f d) (fit.near f d)) ns a));
    }
