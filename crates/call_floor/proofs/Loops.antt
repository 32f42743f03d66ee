-- Turns one behind the other, of those that act: one more, all, and where one fails.
use Rattle.std.proofs.Common.{◌≡◌, ℕ, zero, suc, Bool, List, [], ◌∷◌, ◌++◌, ◌+◌, ◌<◌, ◌≤◌, length, get_or, take, drop, refl, ap, sym, ◌∙◌, subst, arith, append_assoc, append-nil, add_assoc, add-zero, length-append}
use Rattle.channel_sim.specs.declared.calls.due.Due as kept_due
use Rattle.channel_sim.specs.Handing.{due_of, hands_way}
use Rattle.channel_sim.specs.World.{World, Step, session_passes, vehicle_passes}
use Rattle.call_floor.specs.declared.entry.FloorEntry.{FloorEntry}
use Rattle.call_floor.specs.declared.listener.Tagged.{Tagged}
use Rattle.call_floor.specs.declared.live.Live as kept_live
use Rattle.call_floor.specs.declared.seat.Seat as kept_seat
use Rattle.call_floor.specs.Floor.{Floor, FloorStep, Stand, Turn, and_then, quiet_floor, vehicle_turns}
use Rattle.call_floor.specs.Tagged.{heard, FloorGrew}
use Rattle.call_floor.specs.inner.FloorAt.{FloorIs, Relation, listed_turns, numbers_of, passes_of, plays_if, turn_if}
use Rattle.call_floor.proofs.Apart.{plays_numbers}
use Rattle.call_floor.proofs.Gone.{Named, named_turns}
use Rattle.call_floor.proofs.LiveCalls.{live_named}
use Rattle.call_floor.proofs.Sleeping.{followed_by, quiet_first, plays_kept, kept_turns}

quiet_behind : (s : FloorStep) → and_then s quiet_floor ≡ s
quiet_behind s =
    ap (λ es. record { entries = es; floor = s.floor; handed = s.handed + 0 }) (append-nil s.entries)
    ∙ ap (λ n. record { entries = s.entries; floor = s.floor; handed = n }) (add-zero s.handed)

then_assoc : (s t u : FloorStep) → followed_by (followed_by s t) u ≡ followed_by s (followed_by t u)
then_assoc s t u =
    ap (λ es. record { entries = es; floor = u.floor; handed = (s.handed + t.handed) + u.handed }) (append_assoc s.entries t.entries u.entries)
    ∙ ap (λ n. record { entries = s.entries ++ (t.entries ++ u.entries); floor = u.floor; handed = n }) (add_assoc s.handed t.handed u.handed)

-- one turn more
plays_more : (acts : ℕ → Bool) (ts : List Turn) (i : ℕ) (d : Turn) (w : Floor) → i < length ts → plays_if acts (take (suc i) ts) w ≡ and_then (plays_if acts (take i ts) w) (turn_if acts (get_or ts i d).vehicle (get_or ts i d).act)
plays_more acts [] i d w low = absurd (omega arith)
plays_more acts (t ∷ ts) zero d w low =
    quiet_behind (turn_if acts t.vehicle t.act w) ∙ sym (quiet_first w (turn_if acts t.vehicle t.act))
plays_more acts (t ∷ ts) (suc i) d w low =
    let one : FloorStep = turn_if acts t.vehicle t.act w in
    let x : Turn = get_or ts i d in
    ap (followed_by one) (plays_more acts ts i d one.floor (omega arith))
    ∙ sym (then_assoc one (plays_if acts (take i ts) one.floor) (turn_if acts x.vehicle x.act (plays_if acts (take i ts) one.floor).floor))

pub taken_all : {A : Type 0} (ts : List A) (i : ℕ) → length ts ≤ i → take i ts ≡ ts
taken_all [] zero low = refl
taken_all [] (suc i) low = refl
taken_all (t ∷ ts) zero low = absurd (omega arith)
taken_all (t ∷ ts) (suc i) low = ap (λ l. t ∷ l) (taken_all ts i (omega arith))

plays_split : (acts : ℕ → Bool) (ts : List Turn) (k : ℕ) (w : Floor) → plays_if acts ts w ≡ and_then (plays_if acts (take k ts) w) (plays_if acts (drop k ts))
plays_split acts [] zero w = sym (quiet_first w quiet_floor)
plays_split acts [] (suc k) w = sym (quiet_first w quiet_floor)
plays_split acts (t ∷ ts) zero w = sym (quiet_first w (plays_if acts (t ∷ ts)))
plays_split acts (t ∷ ts) (suc k) w =
    let one : FloorStep = turn_if acts t.vehicle t.act w in
    ap (followed_by one) (plays_split acts ts k one.floor)
    ∙ sym (then_assoc one (plays_if acts (take k ts) one.floor) (plays_if acts (drop k ts) (plays_if acts (take k ts) one.floor).floor))

pub numbers_if : (acts : ℕ → Bool) (ts : List Turn) (w : Floor) → numbers_of (plays_if acts ts w).floor.stands ≡ numbers_of w.stands
numbers_if acts ts w =
    ap (λ (s : FloorStep). numbers_of s.floor.stands) (plays_kept acts ts w) ∙ plays_numbers (kept_turns acts ts) w

-- How often ends are passed.

pub passes_then : (s : FloorStep) (f : Floor → FloorStep) → passes_of (and_then s f) ≡ passes_of s + passes_of (f s.floor)
passes_then s f =
    let t : FloorStep = f s.floor in
    let e : length (s.entries ++ t.entries) ≡ length s.entries + length t.entries = length-append s.entries t.entries in
    omega arith

pub passes_more : (s : FloorStep) (f : Floor → FloorStep) (m before after : ℕ) → before ≤ m + passes_of s → after ≤ before + passes_of (f s.floor) → after ≤ m + passes_of (and_then s f)
passes_more s f m before after first second = let sum = passes_then s f in omega (arith, sum, first, second)

pub passes_front : (s : FloorStep) (f : Floor → FloorStep) (m after : ℕ) → after ≤ m + passes_of s → after ≤ m + passes_of (and_then s f)
passes_front s f m after few = let sum = passes_then s f in omega (arith, sum, few)

-- One turn more in a loop over turns.
module _ (acts : ℕ → Bool) (ts : List Turn) (i : ℕ) (d : Turn) (w : Floor) (v : ℕ) (act : World → Step) (low : i < length ts) (is : get_or ts i d ≡ record { vehicle = v; act = act }) where
  more : plays_if acts (take (suc i) ts) w ≡ and_then (plays_if acts (take i ts) w) (turn_if acts v act)
  more = plays_more acts ts i d w low ∙ ap (λ (t : Turn). and_then (plays_if acts (take i ts) w) (turn_if acts t.vehicle t.act)) is

  pub went_on : {H : Type 0} (grew : H → H → List FloorEntry → Type 0) → ((a b c : H) (s t : List FloorEntry) → grew a b s → grew b c t → grew a c (s ++ t)) → (R : Relation) (ys : List kept_seat.Seat) (a b c : Tagged H) → FloorGrew grew a b (plays_if acts (take i ts) w).entries → FloorGrew grew b c (turn_if acts v act (plays_if acts (take i ts) w).floor).entries × FloorIs R ys (turn_if acts v act (plays_if acts (take i ts) w).floor).floor → FloorGrew grew a c (plays_if acts (take (i + 1) ts) w).entries × FloorIs R ys (plays_if acts (take (i + 1) ts) w).floor
  went_on grew twice R ys a b c so_far did =
      let same : i + 1 ≡ suc i = omega arith in
      subst (λ n. FloorGrew grew a c (plays_if acts (take n ts) w).entries × FloorIs R ys (plays_if acts (take n ts) w).floor) (sym same)
      (subst (λ (s : FloorStep). FloorGrew grew a c s.entries × FloorIs R ys s.floor) (sym more)
      ((did.0.0 ∙ so_far.0, twice (heard a) (heard b) (heard c) (plays_if acts (take i ts) w).entries (turn_if acts v act (plays_if acts (take i ts) w).floor).entries so_far.1 did.0.1), did.1))

  pub cut_short : {H : Type 0} (grew partly : H → H → List FloorEntry → Type 0) → ((a b c : H) (s t : List FloorEntry) → grew a b s → partly b c t → partly a c (s ++ t)) → ((a b : H) (s t : List FloorEntry) → partly a b s → partly a b (s ++ t)) → (a b c : Tagged H) → FloorGrew grew a b (plays_if acts (take i ts) w).entries → FloorGrew partly b c (turn_if acts v act (plays_if acts (take i ts) w).floor).entries → FloorGrew partly a c (plays_if acts ts w).entries
  cut_short grew partly then_partly longer a b c so_far part =
      let Partly : List FloorEntry → Type 0 = partly (heard a) (heard c) in
      let front : Partly (plays_if acts (take (suc i) ts) w).entries = subst (λ (s : FloorStep). Partly s.entries) (sym more) (then_partly (heard a) (heard b) (heard c) (plays_if acts (take i ts) w).entries (turn_if acts v act (plays_if acts (take i ts) w).floor).entries so_far.1 part.1) in
      (part.0 ∙ so_far.0, subst (λ (s : FloorStep). Partly s.entries) (sym (plays_split acts ts (suc i) w)) (longer (heard a) (heard c) (plays_if acts (take (suc i) ts) w).entries (plays_if acts (drop (suc i) ts) (plays_if acts (take (suc i) ts) w).floor).entries front))

  pub passed_on : (m before after : ℕ) → before ≤ m + passes_of (plays_if acts (take i ts) w) → after ≤ before + passes_of (turn_if acts v act (plays_if acts (take i ts) w).floor) → after ≤ m + passes_of (plays_if acts (take (i + 1) ts) w)
  passed_on m before after first second =
      let same : i + 1 ≡ suc i = omega arith in
      subst (λ n. after ≤ m + passes_of (plays_if acts (take n ts) w)) (sym same)
      (subst (λ (s : FloorStep). after ≤ m + passes_of s) (sym more) (passes_more (plays_if acts (take i ts) w) (turn_if acts v act) m before after first second))

  pub passed_short : (m before after : ℕ) → before ≤ m + passes_of (plays_if acts (take i ts) w) → after ≤ before + passes_of (turn_if acts v act (plays_if acts (take i ts) w).floor) → after ≤ m + passes_of (plays_if acts ts w)
  passed_short m before after first second =
      let front : after ≤ m + passes_of (plays_if acts (take (suc i) ts) w) = subst (λ (s : FloorStep). after ≤ m + passes_of s) (sym more) (passes_more (plays_if acts (take i ts) w) (turn_if acts v act) m before after first second) in
      subst (λ (s : FloorStep). after ≤ m + passes_of s) (sym (plays_split acts ts (suc i) w)) (passes_front (plays_if acts (take (suc i) ts) w) (plays_if acts (drop (suc i) ts)) m after front)

-- Which turn is at a place.

pub no_turn : Turn
no_turn = record { vehicle = 0; act = vehicle_passes }

pub vehicle_at : (ss : List Stand) (i : ℕ) → i < length ss → get_or (vehicle_turns ss) i no_turn ≡ record { vehicle = get_or (numbers_of ss) i 0; act = vehicle_passes }
vehicle_at [] i low = absurd (omega arith)
vehicle_at (s ∷ ss) zero low = refl
vehicle_at (s ∷ ss) (suc i) low = vehicle_at ss i (omega arith)

pub vehicles_length : (ss : List Stand) → length (vehicle_turns ss) ≡ length ss
vehicles_length [] = refl
vehicles_length (s ∷ ss) = ap suc (vehicles_length ss)

pub live_at : (ns : List ℕ) (ls : List kept_live.Live) (i : ℕ) (l : kept_live.Live) → i < length ls → l ≡ get_or ls i l → get_or (named_turns (live_named ns ls)) i no_turn ≡ record { vehicle = get_or ns l.place 0; act = session_passes l.call }
live_at ns [] i l low at = absurd (omega arith)
live_at ns (q ∷ qs) zero l low at = ap (λ (z : kept_live.Live). record { vehicle = get_or ns z.place 0; act = session_passes z.call }) (sym at)
live_at ns (q ∷ qs) (suc i) l low at = live_at ns qs i l (omega arith) at

pub live_length : (ns : List ℕ) (ls : List kept_live.Live) → length (named_turns (live_named ns ls)) ≡ length ls
live_length ns [] = refl
live_length ns (l ∷ ls) = ap suc (live_length ns ls)

pub named_at : (ns : List ℕ) (ls : List kept_live.Live) (i : ℕ) (l : kept_live.Live) (d : Named) → i < length ls → l ≡ get_or ls i l → get_or (live_named ns ls) i d ≡ record { vehicle = get_or ns l.place 0; number = l.call }
named_at ns [] i l d low at = absurd (omega arith)
named_at ns (q ∷ qs) zero l d low at = ap (λ (z : kept_live.Live). record { vehicle = get_or ns z.place 0; number = z.call }) (sym at)
named_at ns (q ∷ qs) (suc i) l d low at = named_at ns qs i l d (omega arith) at

pub named_length : (ns : List ℕ) (ls : List kept_live.Live) → length (live_named ns ls) ≡ length ls
named_length ns [] = refl
named_length ns (l ∷ ls) = ap suc (named_length ns ls)

pub listed_at : (ns : List ℕ) (up : Bool) (ps : List ℕ) (ds : List kept_due.Due) (i : ℕ) (x : kept_due.Due) → length ps ≡ length ds → i < length ds → x ≡ get_or ds i x → get_or (listed_turns ns up ps ds) i no_turn ≡ record { vehicle = get_or ns (get_or ps i 0) 0; act = hands_way up (due_of x) }
listed_at ns up [] [] i x same low at = absurd (omega arith)
listed_at ns up [] (d ∷ ds) i x same low at = absurd (omega (arith, same))
listed_at ns up (p ∷ ps) [] i x same low at = absurd (omega arith)
listed_at ns up (p ∷ ps) (d ∷ ds) zero x same low at = ap (λ (z : kept_due.Due). record { vehicle = get_or ns p 0; act = hands_way up (due_of z) }) (sym at)
listed_at ns up (p ∷ ps) (d ∷ ds) (suc i) x same low at = listed_at ns up ps ds i x (omega (arith, same)) (omega arith) at

pub listed_length : (ns : List ℕ) (up : Bool) (ps : List ℕ) (ds : List kept_due.Due) → length ps ≡ length ds → length (listed_turns ns up ps ds) ≡ length ds
listed_length ns up [] [] same = refl
listed_length ns up [] (d ∷ ds) same = absurd (omega (arith, same))
listed_length ns up (p ∷ ps) [] same = absurd (omega (arith, same))
listed_length ns up (p ∷ ps) (d ∷ ds) same = ap suc (listed_length ns up ps ds (omega (arith, same)))
