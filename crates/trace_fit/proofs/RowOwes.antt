-- A row that owes keeps a trace that fits: at an event, at the end of a call, at a unit tick, and as a leg comes up.
use Rattle.std.specs.Prelude.{◌≡◌, ◌≤◌, ◌+◌, ℕ, true, false, List, [], ◌∷◌, ◌++◌, Option, Some, None, IfSome}
use Rattle.std.proofs.Common.{refl, sym, ap, subst, ◌∙◌, arith, add-zero}
use Rattle.std.proofs.lemmas.Bool.{false≢true}
use Rattle.link_frames.specs.declared.frame.End.{End}
use Rattle.link_frames.specs.declared.frame.End.TheVariants as «end»
use Rattle.link_frames.specs.declared.note.Note.{Note}
use Rattle.link_frames.specs.declared.note.Note.TheVariants as note
use Rattle.link_frames.specs.declared.frame.Frame.{Frame}
use Rattle.link_frames.specs.Legs.{Kept, through}
use Rattle.link_frames.specs.Owes.{Seat, fresh_seat, elapsed, seat_moved, IsOf, Along, MayGive, Safely, Says, Owes, OwesArrival}
use Rattle.trace_model.specs.declared.entry.Entry.{Entry}
use Rattle.trace_model.specs.History.{told, sets_step, sets_of}
use Rattle.trace_model.specs.Safety.{own, Leg, first_leg, leg_step, leg_at, IsWithin}
use Rattle.trace_model.proofs.Folds.{through_append, own_leg, own_sets}
use Rattle.trace_fit.specs.inner.FitAt.{SeatBy, SetsFit, Tells, Came, SafeAt, SafeFrom, Seats, Clocks, FitAt, Moves}
use Rattle.trace_fit.proofs.LegRow.{leg_row}
use Rattle.trace_fit.proofs.RowKept.{along_into, within_of, row_kept}

seat_into : (K L : ℕ → Type 0) → (s : Option Seat) → IfSome s (λ k. (n : ℕ) → K n → L n) → (leg : Leg) (sets : List Kept) → SeatBy K s leg sets → SeatBy L s leg sets
seat_into K L None f leg sets h = h
seat_into K L (Some k) f leg sets h = record { up = h.up; talks = h.talks; time = f (leg.since + k.ticks) h.time; sets = h.sets }

seat_sets : (K : ℕ → Type 0) (s : Option Seat) (leg : Leg) (sets : List Kept) → SeatBy K s leg sets → SetsFit s sets
seat_sets K None leg sets h = tt
seat_sets K (Some k) leg sets h = h.sets

safely : (e : End) (c : ℕ) (came : Option Frame) (s : Option Seat) (ns : List Note) → Along (MayGive e c came) e s ns → Along (λ s n ns. IsOf e c n × Safely e c s n ns) e s ns
safely e c came s ns a = along_into _ _ e (λ s n ns h. (h.0, h.1)) s ns a

tells : (e : End) (c : ℕ) (came : Option Frame) (s : Option Seat) (ns : List Note) → Along (MayGive e c came) e s ns → Along (Tells e c came) e s ns
tells e c came s ns a = along_into _ _ e (λ s n ns h. (h.0, h.2)) s ns a

pub row_owes : (K : ℕ → Type 0) (clock clock' : Clocks) (seat seat' : Seats) (tick last : ℕ) (t : List Entry) (e : End) (c : ℕ) (came : Option Frame) (s : Option Seat) (ns : List Note) (new : Option Seat)
    → FitAt clock seat tick last t
    → c ≤ last
    → IfSome came (Came e c t)
    → K tick
    → ((n : ℕ) → K n → n ≤ tick)
    → SeatBy K s (leg_at e c t) (sets_of e c t)
    → IsWithin e tick (leg_at e c t)
    → IfSome new (λ k. (n : ℕ) → K n → n ≡ clock' e c)
    → tick ≤ clock' e c + 1
    → Owes e c came s ns new
    → Moves clock clock' seat seat' e c new
    → FitAt clock' seat' tick last (t ++ told tick ns)
row_owes K clock clock' seat seat' tick last t e c came s ns new fit below brought start past h within exact near owes moves =
    let r = leg_row K e c tick start past s ns (leg_at e c t) (sets_of e c t) h within (safely e c came s ns owes.given) in
    let k : SeatBy K new (leg_at e c (t ++ told tick ns)) (sets_of e c (t ++ told tick ns)) =
    rw (owes.seat, through_append (own leg_step e c) first_leg t (told tick ns), through_append (own (sets_step e) e c) [] t (told tick ns)) r.0 in
    row_kept clock clock' seat seat' tick last t e c came s ns new fit below brought (seat_sets K s (leg_at e c t) (sets_of e c t) h) (tells e c came s ns owes.given) r.1
    (seat_into K (λ n. n ≡ clock' e c) new exact _ _ k) owes.in_time near moves

-- an event, at an end that was passed up to this tick
pub event_kept : (clock : Clocks) (seat seat' : Seats) (tick last : ℕ) (t : List Entry) (e : End) (c : ℕ) (came : Option Frame) (ns : List Note) (new : Option Seat)
    → FitAt clock seat tick last t
    → c ≤ last
    → IfSome came (Came e c t)
    → clock e c ≡ tick
    → Owes e c came (seat e c) ns new
    → Moves clock clock seat seat' e c new
    → FitAt clock seat' tick last (t ++ told tick ns)
event_kept clock seat seat' tick last t e c came ns new fit below brought passed owes moves =
    row_owes (λ n. n ≡ clock e c) clock clock seat seat' tick last t e c came (seat e c) ns new fit below brought (sym passed) (λ n k. omega (arith, k, passed)) (fit.seats e c)
    (within_of e tick (clock e c) _ _ (seat e c) (fit.seats e c) (fit.in_time e c) (fit.near e c))
    (always new) (fit.near e c) owes moves
  where
    always : (s : Option Seat) → IfSome s (λ k. (n : ℕ) → n ≡ clock e c → n ≡ clock e c)
    always None = tt
    always (Some k) = λ n h. h

-- the end of a call, at an end that wasn't passed up to this tick yet
pub end_kept : (clock : Clocks) (seat seat' : Seats) (tick last : ℕ) (t : List Entry) (e : End) (c : ℕ) (came : Option Frame) (ns : List Note)
    → FitAt clock seat tick last t
    → c ≤ last
    → IfSome came (Came e c t)
    → clock e c ≤ tick
    → Owes e c came (seat e c) ns None
    → Moves clock clock seat seat' e c None
    → FitAt clock seat' tick last (t ++ told tick ns)
end_kept clock seat seat' tick last t e c came ns fit below brought passed owes moves =
    row_owes (λ n. n ≤ tick) clock clock seat seat' tick last t e c came (seat e c) ns None fit below brought (omega arith) (λ n k. k)
    (seat_into (λ n. n ≡ clock e c) (λ n. n ≤ tick) (seat e c) (earlier (seat e c)) _ _ (fit.seats e c))
    (within_of e tick (clock e c) _ _ (seat e c) (fit.seats e c) (fit.in_time e c) (fit.near e c))
    tt (fit.near e c) owes moves
  where
    earlier : (s : Option Seat) → IfSome s (λ k. (n : ℕ) → n ≡ clock e c → n ≤ tick)
    earlier None = tt
    earlier (Some k) = λ n h. omega (arith, h, passed)

-- a unit tick of one end
elapse : (clock tick : ℕ) → clock + 1 ≡ tick → (s : Option Seat) (leg : Leg) (sets : List Kept) → SeatBy (λ n. n ≡ clock) s leg sets → SeatBy (λ n. n ≡ tick) (elapsed s) leg sets
elapse clock tick next None leg sets h = h
elapse clock tick next (Some k) leg sets h =
    record { up = h.up; talks = h.talks; time = (let a : leg.since + k.ticks ≡ clock = h.time in omega arith); sets = h.sets }

pub unit_kept : (clock clock' : Clocks) (seat seat' : Seats) (tick last : ℕ) (t : List Entry) (e : End) (c : ℕ) (ns : List Note) (new : Option Seat)
    → FitAt clock seat tick last t
    → c ≤ last
    → clock e c + 1 ≡ tick
    → clock' e c ≡ tick
    → Owes e c None (elapsed (seat e c)) ns new
    → Moves clock clock' seat seat' e c new
    → FitAt clock' seat' tick last (t ++ told tick ns)
unit_kept clock clock' seat seat' tick last t e c ns new fit below next passed owes moves =
    row_owes (λ n. n ≡ tick) clock clock' seat seat' tick last t e c None (elapsed (seat e c)) ns new fit below tt refl (λ n k. omega (arith, k)) (elapse (clock e c) tick next (seat e c) _ _ (fit.seats e c))
    (within_of e tick (clock e c) _ _ (seat e c) (fit.seats e c) (fit.in_time e c) (fit.near e c))
    (same new) (omega (arith, passed)) owes moves
  where
    same : (s : Option Seat) → IfSome s (λ k. (n : ℕ) → n ≡ tick → n ≡ clock' e c)
    same None = tt
    same (Some k) = λ n h. h ∙ sym passed

up_says : (e : End) (c : ℕ) → Says e None [] (note.Up e c)
up_says «end».Vehicle c = tt
up_says «end».Point c = tt

-- a leg that comes up, of which nothing was told
pub arrival_kept : (clock : Clocks) (seat seat' : Seats) (tick last : ℕ) (t : List Entry) (e : End) (c : ℕ) (ns : List Note) (new : Option Seat)
    → FitAt clock seat tick last t
    → c ≤ last
    → leg_at e c t ≡ first_leg
    → sets_of e c t ≡ []
    → clock e c ≡ tick
    → OwesArrival e c ns new
    → Moves clock clock seat seat' e c new
    → FitAt clock seat' tick last (t ++ told tick ns)
arrival_kept clock seat seat' tick last t e c ns new fit below no_leg no_sets passed arrival moves =
    subst (λ (z : List Note). FitAt clock seat' tick last (t ++ told tick z)) (sym arrival.up)
    (row_kept clock clock seat seat' tick last t e c None (Some fresh_seat) ns' new fit below tt no_sets ((((refl, refl), up_says e c), tells e c None (Some fresh_seat) arrival.rest arrival.owes.given)) safe here arrival.owes.in_time (fit.near e c) moves)
  where
    ns' : List Note
    ns' = note.Up e c ∷ arrival.rest

    up : Leg
    up = record { up = true; talks = false; since = tick }

    x : Entry
    x = record { tick = tick; note = note.Up e c }

    came_up : own leg_step e c (leg_at e c t) x ≡ up
    came_up = ap (λ z. own leg_step e c z x) no_leg ∙ own_leg e c tick first_leg (note.Up e c) (refl, refl)

    no_sets_yet : own (sets_step e) e c (sets_of e c t) x ≡ []
    no_sets_yet = ap (λ z. own (sets_step e) e c z x) no_sets ∙ own_sets e c tick [] (note.Up e c) (refl, refl)

    r : SeatBy (λ n. n ≡ tick) (through (seat_moved e) (Some fresh_seat) arrival.rest) (through (own leg_step e c) up (told tick arrival.rest)) (through (own (sets_step e) e c) [] (told tick arrival.rest)) × SafeFrom e c up (told tick arrival.rest)
    r =
        leg_row (λ n. n ≡ tick) e c tick refl (λ n k. omega (arith, k)) (Some fresh_seat) arrival.rest up []
        (record { up = refl; talks = refl; time = add-zero tick; sets = refl })
        (λ p q. omega arith) (safely e c None (Some fresh_seat) arrival.rest arrival.owes.given)

    k : SeatBy (λ n. n ≡ clock e c) new (leg_at e c (t ++ told tick ns')) (sets_of e c (t ++ told tick ns'))
    k =
        rw (arrival.owes.seat, passed, through_append (own leg_step e c) first_leg t (told tick ns'), through_append (own (sets_step e) e c) [] t (told tick ns'))
        (subst (λ (z : Leg). SeatBy (λ n. n ≡ tick) (through (seat_moved e) (Some fresh_seat) arrival.rest) (through (own leg_step e c) z (told tick arrival.rest)) (through (own (sets_step e) e c) (own (sets_step e) e c (sets_of e c t) x) (told tick arrival.rest))) (sym came_up)
        (subst (λ (z : List Kept). SeatBy (λ n. n ≡ tick) (through (seat_moved e) (Some fresh_seat) arrival.rest) (through (own leg_step e c) up (told tick arrival.rest)) (through (own (sets_step e) e c) z (told tick arrival.rest))) (sym no_sets_yet) r.0))

    here : SeatBy (λ n. n ≡ clock e c) new (leg_at e c (t ++ told tick ns')) (sets_of e c (t ++ told tick ns'))
    here = k

    first : SafeAt e c (leg_at e c t) x (told tick arrival.rest)
    first =
        record {
          opened = λ m. absurd (false≢true m.ends);
          bounded =
              record {
                within = λ p. absurd (false≢true (sym (ap (λ z. z.up) no_leg) ∙ p));
                late = λ m. absurd (false≢true m.mutes);
              };
        }

    safe : SafeFrom e c (leg_at e c t) (told tick ns')
    safe = (first, subst (λ (z : Leg). SafeFrom e c z (told tick arrival.rest)) (sym came_up) r.1)
