-- The turns of sessions, and one that changes.
use Rattle.std.proofs.Common.{◌≡◌, ℕ, zero, suc, ◌+◌, ◌-◌, ◌<◌, ◌≤◌, ◌==◌, ◌⊎◌, inl, inr, Bool, true, false, Option, Some, None, Result, Ok, Err, IfOk, IfErr, IfSome, List, [], ◌∷◌, length, get_or, slice_get, take, drop, ltb, min, refl, ap, sym, ◌∙◌, subst, arith, length-drop}
use Rattle.std.proofs.Math.ListN.{set}
use Rattle.std.proofs.Math.Seq.{map-set_same}
use Rattle.std.proofs.lemmas.Bool.{eqb-true, eqb-false, ltb-true, ltb-false}
use Rattle.std.proofs.lemmas.Bool.Decides.{nat_tests}
use Rattle.std.proofs.lemmas.Cmp.{ranked}
use Rattle.std.proofs.lemmas.List.{drop-map, take_more, take_more_set}
use Rattle.std.specs.List.{AllByRecursion, insert, items_where_true, remove}
use Rattle.std.specs.List.Retain.{IsFiltered, ReturnsInTurn}
use Rattle.std.specs.List.Sorted.{IsBinarySearchResult, IsNonDecreasingBy, IsPartitionPoint, IsSearchInRange}
use Rattle.std.specs.Ordering.{nat_cmp, ordering_index}
use Rattle.std.specs.declared.cmp.Ordering.TheVariants.{Less, Equal, Greater}
use Rattle.trace_fit.proofs.Lists.{all_append, all_into}
use Rattle.channel_sim.specs.declared.calls.call.Call as kept
use Rattle.channel_sim.specs.declared.calls.turns.Turn.{Turn}
use Rattle.channel_sim.specs.Tidy.{AreAbove}
use Rattle.channel_sim.specs.inner.Beside.{WaitsBetween, numbers}
use Rattle.channel_sim.specs.inner.Places.{place_of}
use Rattle.channel_sim.specs.inner.Turns.{HasTurn, HasItsTurn, IsAmong, IsBelow, IsGap, IsListed, IsWatched, OthersStay, Rise, Sleeps, WaitsUntil, calls_of}
use Rattle.channel_sim.proofs.AsleepLemmas.{due_later}
use Rattle.channel_sim.proofs.PlaceLemmas.{above_at, above_less, next_place-none, next_place-some, place_behind, place_first}
use Rattle.channel_sim.proofs.StepLemmas.{take_all}

-- Turns of other calls.

-- a call of another number is watched as before
pub turn_stays : (ts us : List Turn) (call : ℕ) (k : kept.Call) → OthersStay call ts us → (k.number ≡ call → ⊥) → IsWatched ts k → IsWatched us k
turn_stays ts us call k others ne (inl sleeps) = inl sleeps
turn_stays ts us call k others ne (inr h) = at (others k.number h.tick h.turn)
  where
    at : (k.number ≡ call) ⊎ HasTurn k.number h.tick us → IsWatched us k
    at (inl e) = absurd (ne e)
    at (inr turn) = inr (record { tick = h.tick; turn = turn; waits = h.waits })

-- and so are all calls of higher numbers
above_stay : (ts us : List Turn) (n call : ℕ) (xs : List kept.Call) → AreAbove n (numbers xs) → call ≤ n → OthersStay call ts us → AllByRecursion (IsWatched ts) xs → AllByRecursion (IsWatched us) xs
above_stay ts us n call [] above low others all = tt
above_stay ts us n call (x ∷ xs) above low others all =
    let least : n < x.number = above.0 in (
      turn_stays ts us call x others (λ e. absurd (omega arith)) all.0,
      above_stay ts us x.number call xs above.1 (omega arith) others all.1,
    )

-- the same where one call of these changes, and its turn
set_above : (n : ℕ) (ts us : List Turn) (xs : List kept.Call) (i : ℕ) (d y : kept.Call) → AreAbove n (numbers xs) → i < length xs → y.number ≡ (get_or xs i d).number → OthersStay (get_or xs i d).number ts us → IsWatched us y → AllByRecursion (IsWatched ts) xs → AllByRecursion (IsWatched us) (set xs i y)
set_above n ts us [] i d y above inside same others new all = absurd (omega arith)
set_above n ts us (x ∷ xs) zero d y above inside same others new all =
    (new, above_stay ts us x.number x.number xs above.1 (omega arith) others all.1)
set_above n ts us (x ∷ xs) (suc i) d y above inside same others new all =
    let low : x.number < (get_or xs i d).number = above_at x.number xs i d above.1 (omega arith) in (
      turn_stays ts us (get_or xs i d).number x others (λ e. absurd (omega arith)) all.0,
      set_above x.number ts us xs i d y above.1 (omega arith) same others new all.1,
    )

-- one call changes, and its turn: all are watched
pub watched_set : (ts us : List Turn) (xs : List kept.Call) (i : ℕ) (d y : kept.Call) → AreAbove 0 (numbers xs) → i < length xs → y.number ≡ (get_or xs i d).number → OthersStay (get_or xs i d).number ts us → IsWatched us y → AllByRecursion (IsWatched ts) xs → AllByRecursion (IsWatched us) (set xs i y)
watched_set ts us xs i d y above inside same others new all = set_above 0 ts us xs i d y above inside same others new all

-- one call of these is gone, and its turn
removed_above : (n : ℕ) (ts us : List Turn) (xs : List kept.Call) (i : ℕ) (d : kept.Call) → AreAbove n (numbers xs) → i < length xs → OthersStay (get_or xs i d).number ts us → AllByRecursion (IsWatched ts) xs → AllByRecursion (IsWatched us) (remove xs i)
removed_above n ts us [] i d above inside others all = absurd (omega arith)
removed_above n ts us (x ∷ xs) zero d above inside others all = above_stay ts us x.number x.number xs above.1 (omega arith) others all.1
removed_above n ts us (x ∷ xs) (suc i) d above inside others all =
    let low : x.number < (get_or xs i d).number = above_at x.number xs i d above.1 (omega arith) in (
      turn_stays ts us (get_or xs i d).number x others (λ e. absurd (omega arith)) all.0,
      removed_above x.number ts us xs i d above.1 (omega arith) others all.1,
    )

pub watched_removed : (ts us : List Turn) (xs : List kept.Call) (i : ℕ) (d : kept.Call) → AreAbove 0 (numbers xs) → i < length xs → OthersStay (get_or xs i d).number ts us → AllByRecursion (IsWatched ts) xs → AllByRecursion (IsWatched us) (remove xs i)
watched_removed ts us xs i d above inside others all = removed_above 0 ts us xs i d above inside others all

-- Turns whose numbers rise.

-- behind the first they rise, too
rise_rest : (n : ℕ) (ns : List ℕ) → AreAbove n ns → Rise ns
rise_rest n [] h = tt
rise_rest n (m ∷ ns) h = h.1

-- and from any place on
rise_drop : (i : ℕ) (ns : List ℕ) → Rise ns → Rise (drop i ns)
rise_drop zero ns h = h
rise_drop (suc i) [] h = tt
rise_drop (suc i) (n ∷ ns) h = rise_drop i ns (rise_rest n ns h)

-- each is above what the first is above
turn_above : (n : ℕ) (ts : List Turn) (i : ℕ) (d : Turn) → AreAbove n (calls_of ts) → i < length ts → n < (get_or ts i d).call
turn_above n [] i d h inside = absurd (omega arith)
turn_above n (t ∷ ts) zero d h inside = h.0
turn_above n (t ∷ ts) (suc i) d h inside =
    let further : t.call < (get_or ts i d).call = turn_above t.call ts i d h.1 (omega arith) in omega (arith, h.0)

-- each turn is of a call above what the first is above
has_above : (m c n : ℕ) (ts : List Turn) → AreAbove m (calls_of ts) → HasTurn c n ts → m < c
has_above m c n [] above h = absurd h
has_above m c n (t ∷ ts) above (inl h) = omega (arith, above.0, h.0)
has_above m c n (t ∷ ts) above (inr h) = let further : t.call < c = has_above t.call c n ts above.1 h in omega (arith, above.0)

-- none is below what the first is above
least_from : (n c : ℕ) (ns : List ℕ) → AreAbove n ns → c ≤ n → AllByRecursion (λ x. c ≤ x) ns
least_from n c [] h low = tt
least_from n c (x ∷ ns) h low = let least : n < x = h.0 in (omega arith, least_from x c ns h.1 (omega arith))

-- up to a turn of a call below a number, all are of lower numbers
pub low_front : (c : ℕ) (ts : List Turn) (i : ℕ) (d : Turn) → Rise (calls_of ts) → i < length ts → (get_or ts i d).call < c → AllByRecursion (λ x. x < c) (take (suc i) (calls_of ts))
low_front c [] i d rise inside low = absurd (omega arith)
low_front c (t ∷ ts) zero d rise inside low = (low, tt)
low_front c (t ∷ ts) (suc i) d rise inside low =
    let lower : t.call < (get_or ts i d).call = turn_above t.call ts i d rise (omega arith) in
    (omega arith, low_front c ts i d (rise_rest t.call (calls_of ts) rise) (omega arith) low)

-- and from one on whose call isn't, none is
pub high_back : (c : ℕ) (ts : List Turn) (i : ℕ) (d : Turn) → Rise (calls_of ts) → i < length ts → c ≤ (get_or ts i d).call → AllByRecursion (λ x. c ≤ x) (drop i (calls_of ts))
high_back c [] i d rise inside high = absurd (omega arith)
high_back c (t ∷ ts) zero d rise inside high = (high, least_from t.call c (calls_of ts) rise high)
high_back c (t ∷ ts) (suc i) d rise inside high = high_back c ts i d (rise_rest t.call (calls_of ts) rise) (omega arith) high

-- none stands before the first
pub none_front : (P : ℕ → Type 0) (ns : List ℕ) → AllByRecursion P (take 0 ns)
none_front P [] = tt
none_front P (n ∷ ns) = tt

-- numbers that rise never fall
pub never_fall : (ts : List Turn) → Rise (calls_of ts) → IsNonDecreasingBy (λ (t : Turn). t.call) ts
never_fall [] h i j d le inside = absurd (omega arith)
never_fall (t ∷ ts) h zero zero d le inside = omega arith
never_fall (t ∷ ts) h zero (suc j) d le inside =
    let higher : t.call < (get_or ts j d).call = turn_above t.call ts j d h (omega arith) in omega arith
never_fall (t ∷ ts) h (suc i) zero d le inside = absurd (omega arith)
never_fall (t ∷ ts) h (suc i) (suc j) d le inside = never_fall ts (rise_rest t.call (calls_of ts) h) i j d (omega arith) (omega arith)

-- a number that rises compares higher
compares : (c : ℕ) (ts : List Turn) → Rise (calls_of ts) → IsNonDecreasingBy (λ (t : Turn). ordering_index (nat_cmp t.call c)) ts
compares c [] h i j d le inside = absurd (omega arith)
compares c (t ∷ ts) h zero zero d le inside = omega arith
compares c (t ∷ ts) h zero (suc j) d le inside =
    let higher : t.call < (get_or ts j d).call = turn_above t.call ts j d h (omega arith) in grind (arith, nat_tests)
compares c (t ∷ ts) h (suc i) zero d le inside = absurd (omega arith)
compares c (t ∷ ts) h (suc i) (suc j) d le inside = compares c ts (rise_rest t.call (calls_of ts) h) i j d (omega arith) (omega arith)

-- what holds of each call up to a place holds of all of these
all_front : (P : ℕ → Type 0) (i : ℕ) (ts : List Turn) → ((j : ℕ) (d : Turn) → 0 ≤ j → j < i → P (get_or ts j d).call) → AllByRecursion P (take i (calls_of ts))
all_front P zero [] h = tt
all_front P (suc i) [] h = tt
all_front P zero (t ∷ ts) h = tt
all_front P (suc i) (t ∷ ts) h = (h 0 t (omega arith) (omega arith), all_front P i ts (λ j d low up. h (suc j) d (omega arith) (omega arith)))

-- and from a place on
all_back : (P : ℕ → Type 0) (i : ℕ) (ts : List Turn) → ((j : ℕ) (d : Turn) → i ≤ j → j < length ts → P (get_or ts j d).call) → AllByRecursion P (drop i (calls_of ts))
all_back P zero [] h = tt
all_back P (suc i) [] h = tt
all_back P zero (t ∷ ts) h = (h 0 t (omega arith) (omega arith), all_back P zero ts (λ j d low up. h (suc j) d (omega arith) (omega arith)))
all_back P (suc i) (t ∷ ts) h = all_back P i ts (λ j d low up. h (suc j) d (omega arith) (omega arith))

-- up to a place all are of lower numbers
pub parted_below : (from i : ℕ) (ts : List Turn) → IsPartitionPoint (λ (t : Turn). ltb t.call from ≡ true) (λ (t : Turn). ltb t.call from ≡ false) ts i → AllByRecursion (λ x. x < from) (take i (calls_of ts))
parted_below from i ts h = all_front (λ x. x < from) i ts (λ j d low up. ltb-true (get_or ts j d).call from (h.0 j d low up))

-- and from it on none is
pub parted_behind : (from i : ℕ) (ts : List Turn) → IsPartitionPoint (λ (t : Turn). ltb t.call from ≡ true) (λ (t : Turn). ltb t.call from ≡ false) ts i → AllByRecursion (λ x. from ≤ x) (drop i (calls_of ts))
parted_behind from i ts h = all_back (λ x. from ≤ x) i ts (λ j d low up. ltb-false (get_or ts j d).call from (h.1 j d low up))

-- the call at a place
call_at : (ts : List Turn) (i : ℕ) (d : Turn) → i < length ts → slice_get (calls_of ts) i ≡ Some (get_or ts i d).call
call_at [] i d inside = absurd (omega arith)
call_at (t ∷ ts) zero d inside = refl
call_at (t ∷ ts) (suc i) d inside = call_at ts i d (omega arith)

-- what a search by number finds
pub turn_found : (c : ℕ) (ts : List Turn) (r : Result ℕ ℕ) → IsSearchInRange r (length ts) → IsBinarySearchResult (λ (t : Turn). nat_cmp t.call c) ts r → IfOk r (λ i. slice_get (calls_of ts) i ≡ Some c)
turn_found c [] (Ok i) inside here = absurd (omega arith)
turn_found c (t ∷ ts) (Ok i) inside here = call_at (t ∷ ts) i t inside ∙ ap Some (ranked (get_or (t ∷ ts) i t).call c Equal (sym (here t)))
turn_found c ts (Err i) inside parts = tt

-- where a search by number finds none, its place is a gap
pub turn_gap : (c : ℕ) (ts : List Turn) (r : Result ℕ ℕ) → Rise (calls_of ts) → IsBinarySearchResult (λ (t : Turn). nat_cmp t.call c) ts r → IfErr r (λ i. IsGap c i (calls_of ts))
turn_gap c ts (Ok i) rise here = tt
turn_gap c ts (Err i) rise parts =
    let both = parts (compares c ts rise) in
    record {
      before = all_front (λ x. x < c) i ts (λ j d low up. ranked (get_or ts j d).call c Less (sym (both.0 j d low up)));
      behind = all_back (λ x. c < x) i ts (λ j d low up. ranked (get_or ts j d).call c Greater (sym (both.1 j d low up)));
    }

-- The first turn by a tick.

-- the turn at a place is of one of the calls
pub among_at : (ts : List Turn) (i : ℕ) (d : Turn) → i < length ts → IsAmong (get_or ts i d).call (calls_of ts)
among_at [] i d inside = absurd (omega arith)
among_at (t ∷ ts) zero d inside = inl refl
among_at (t ∷ ts) (suc i) d inside = inr (among_at ts i d (omega arith))

-- where those before one come later, so do those of lower numbers
pub lower_later : (tick : ℕ) (ts : List Turn) (i : ℕ) (d : Turn) (c n : ℕ) → Rise (calls_of ts) → AllByRecursion (λ (t : Turn). tick < t.tick) (take i ts) → i < length ts → HasTurn c n ts → c < (get_or ts i d).call → tick < n
lower_later tick [] i d c n rise late inside h low = absurd (omega arith)
lower_later tick (t ∷ ts) zero d c n rise late inside (inl h) low = absurd (omega (arith, h.0))
lower_later tick (t ∷ ts) zero d c n rise late inside (inr h) low = absurd (omega (arith, has_above t.call c n ts rise h))
lower_later tick (t ∷ ts) (suc i) d c n rise late inside (inl h) low = omega (arith, h.1, late.0)
lower_later tick (t ∷ ts) (suc i) d c n rise late inside (inr h) low = lower_later tick ts i d c n (rise_rest t.call (calls_of ts) rise) late.1 (omega arith) h low

-- where all come later than a tick, each does
pub all_later : (tick : ℕ) (ts : List Turn) (c n : ℕ) → AllByRecursion (λ (t : Turn). tick < t.tick) ts → HasTurn c n ts → tick < n
all_later tick [] c n late h = absurd h
all_later tick (t ∷ ts) c n late (inl h) = omega (arith, h.1, late.0)
all_later tick (t ∷ ts) c n late (inr h) = all_later tick ts c n late.1 h

-- where none comes before a tick, no one does
pub all_least : (least : ℕ) (ts : List Turn) (c n : ℕ) → AllByRecursion (λ (t : Turn). least ≤ t.tick) ts → HasTurn c n ts → least ≤ n
all_least least [] c n low h = absurd h
all_least least (t ∷ ts) c n low (inl h) = omega (arith, h.1, low.0)
all_least least (t ∷ ts) c n low (inr h) = all_least least ts c n low.1 h

-- what holds of all holds of one among them
among_from : (P : ℕ → Type 0) (c : ℕ) (ns : List ℕ) → AllByRecursion P ns → IsAmong c ns → P c
among_from P c [] all h = absurd h
among_from P c (n ∷ ns) all (inl e) = subst P e all.0
among_from P c (n ∷ ns) all (inr h) = among_from P c ns all.1 h

-- a turn that isn't before a place is behind it
has_behind : (from i c n : ℕ) (ts : List Turn) → AllByRecursion (λ x. x < from) (take i (calls_of ts)) → from ≤ c → HasTurn c n ts → HasTurn c n (drop i ts)
has_behind from zero c n ts front at h = h
has_behind from (suc i) c n [] front at h = absurd h
has_behind from (suc i) c n (t ∷ ts) front at (inl h) = absurd (omega (arith, h.0, front.0))
has_behind from (suc i) c n (t ∷ ts) front at (inr h) = has_behind from i c n ts front.1 at h

-- A turn that comes, and one that is noted.

-- a number in its gap
above_inserted : (m n : ℕ) (ns : List ℕ) (i : ℕ) → m < n → AreAbove m ns → AllByRecursion (λ x. x < n) (take i ns) → AllByRecursion (λ x. n < x) (drop i ns) → AreAbove m (insert ns i n)
above_inserted m n [] zero low rise before behind = (low, tt)
above_inserted m n [] (suc i) low rise before behind = (low, tt)
above_inserted m n (x ∷ ns) zero low rise before behind = (low, (behind.0, rise.1))
above_inserted m n (x ∷ ns) (suc i) low rise before behind = (rise.0, above_inserted x n ns i before.0 rise.1 before.1 behind)

rise_inserted : (n : ℕ) (ns : List ℕ) (i : ℕ) → Rise ns → IsGap n i ns → Rise (insert ns i n)
rise_inserted n [] zero rise gap = tt
rise_inserted n [] (suc i) rise gap = tt
rise_inserted n (x ∷ ns) zero rise gap = (gap.behind.0, rise)
rise_inserted n (x ∷ ns) (suc i) rise gap = above_inserted x n ns i gap.before.0 rise gap.before.1 gap.behind

-- the calls of turns, one of which is new
calls_inserted : (ts : List Turn) (i : ℕ) (t : Turn) → calls_of (insert ts i t) ≡ insert (calls_of ts) i t.call
calls_inserted [] zero t = refl
calls_inserted [] (suc i) t = refl
calls_inserted (x ∷ ts) zero t = refl
calls_inserted (x ∷ ts) (suc i) t = ap (λ ns. x.call ∷ ns) (calls_inserted ts i t)

-- a turn in its place
pub woken_rise : (ts : List Turn) (i : ℕ) (t : Turn) → Rise (calls_of ts) → IsGap t.call i (calls_of ts) → Rise (calls_of (insert ts i t))
woken_rise ts i t rise gap = subst Rise (sym (calls_inserted ts i t)) (rise_inserted t.call (calls_of ts) i rise gap)

-- and it is at its place
pub woken_at : (ts : List Turn) (i : ℕ) (t : Turn) → i ≤ length ts → slice_get (calls_of (insert ts i t)) i ≡ Some t.call
woken_at [] zero t inside = refl
woken_at [] (suc i) t inside = absurd (omega arith)
woken_at (x ∷ ts) zero t inside = refl
woken_at (x ∷ ts) (suc i) t inside = woken_at ts i t (omega arith)

-- the others stay
pub has_woken : (ts : List Turn) (i : ℕ) (t : Turn) (c n : ℕ) → HasTurn c n ts → HasTurn c n (insert ts i t)
has_woken [] i t c n h = absurd h
has_woken (x ∷ ts) zero t c n h = inr h
has_woken (x ∷ ts) (suc i) t c n (inl h) = inl h
has_woken (x ∷ ts) (suc i) t c n (inr h) = inr (has_woken ts i t c n h)

-- the turn at the place of a call is of this call
pub call_of : (ts : List Turn) (i : ℕ) (d : Turn) (c : ℕ) → slice_get (calls_of ts) i ≡ Some c → (get_or ts i d).call ≡ c
call_of [] i d c e = cc
call_of (t ∷ ts) zero d c e = cc
call_of (t ∷ ts) (suc i) d c e = call_of ts i d c e

-- a turn that is noted is there
pub has_noted : (ts : List Turn) (i : ℕ) (t : Turn) (c n : ℕ) → slice_get (calls_of ts) i ≡ Some c → t.call ≡ c → t.tick ≡ n → HasTurn c n (set ts i t)
has_noted [] i t c n e here at = cc
has_noted (x ∷ ts) zero t c n e here at = inl (here, at)
has_noted (x ∷ ts) (suc i) t c n e here at = inr (has_noted ts i t c n e here at)

-- and the others stay
pub others_noted : (ts : List Turn) (i : ℕ) (t : Turn) (call : ℕ) → slice_get (calls_of ts) i ≡ Some call → OthersStay call ts (set ts i t)
others_noted [] i t call e c n h = absurd h
others_noted (x ∷ ts) zero t call e c n (inl h) = inl (let same : x.call ≡ call = cc in sym h.0 ∙ same)
others_noted (x ∷ ts) zero t call e c n (inr h) = inr (inr h)
others_noted (x ∷ ts) (suc i) t call e c n (inl h) = inr (inl h)
others_noted (x ∷ ts) (suc i) t call e c n (inr h) = further (others_noted ts i t call e c n h)
  where
    further : (c ≡ call) ⊎ HasTurn c n (set ts i t) → (c ≡ call) ⊎ HasTurn c n (x ∷ set ts i t)
    further (inl same) = inl same
    further (inr has) = inr (inr has)

-- Turns that are renewed.

-- what holds of the call at the place of a number holds of all calls of that number
pub at_place : (P : kept.Call → Type 0) (n c : ℕ) (xs : List kept.Call) (i : ℕ) (d : kept.Call) → AreAbove n (numbers xs) → place_of c (numbers xs) ≡ Some i → P (get_or xs i d) → AllByRecursion (λ k. k.number ≡ c → P k) xs
at_place P n c [] i d above e here = tt
at_place P n c (x ∷ xs) i d above e here = at (λ j at_j here. at_place P x.number c xs j d above.1 at_j here) (x.number == c) refl
  where
    behind : (m : ℕ) (ks : List kept.Call) → AreAbove m (numbers ks) → c ≤ m → AllByRecursion (λ k. k.number ≡ c → P k) ks
    behind m [] up low = tt
    behind m (k ∷ ks) up low = let least : m < k.number = up.0 in ((λ same. absurd (omega arith)), behind k.number ks up.1 (omega arith))

    at : ((j : ℕ) → place_of c (numbers xs) ≡ Some j → P (get_or xs j d) → AllByRecursion (λ k. k.number ≡ c → P k) xs) → (b : Bool) → (x.number == c) ≡ b → AllByRecursion (λ k. k.number ≡ c → P k) (x ∷ xs)
    at further true same =
        let first = place_first c x.number (numbers xs) same in
        let zeroth : 0 ≡ i = cc in
        ((λ e. subst (λ j. P (get_or (x ∷ xs) j d)) (sym zeroth) here), behind x.number xs above.1 (omega (arith, eqb-true x.number c same)))
    at further false other =
        let next = next_place-some (place_of c (numbers xs)) i (sym (place_behind c x.number (numbers xs) other) ∙ e) in (
          (λ same. absurd (eqb-false x.number c other same)),
          further next.0 next.1 (subst (λ j. P (get_or (x ∷ xs) j d)) next.2 here),
        )

-- a number that has no place is the number of no call
pub no_place : (P : kept.Call → Type 0) (c : ℕ) (xs : List kept.Call) → place_of c (numbers xs) ≡ None → AllByRecursion (λ k. k.number ≡ c → P k) xs
no_place P c [] none = tt
no_place P c (x ∷ xs) none = at (no_place P c xs) (x.number == c) refl
  where
    at : (place_of c (numbers xs) ≡ None → AllByRecursion (λ k. k.number ≡ c → P k) xs) → (b : Bool) → (x.number == c) ≡ b → AllByRecursion (λ k. k.number ≡ c → P k) (x ∷ xs)
    at further true same = let first = place_first c x.number (numbers xs) same in cc
    at further false other = (
      (λ same. absurd (eqb-false x.number c other same)),
      further (next_place-none (place_of c (numbers xs)) (sym (place_behind c x.number (numbers xs) other) ∙ none)),
    )

-- before its tick the session of its call does nothing
abbrev pub Holds : List kept.Call → Turn → Type 0
Holds calls t = AllByRecursion (λ k. k.number ≡ t.call → WaitsUntil t.tick k) calls

-- a turn that holds is a turn of its call
turn_of : (k : kept.Call) (ts : List Turn) → AllByRecursion (λ (t : Turn). k.number ≡ t.call → WaitsUntil t.tick k) ts → IsAmong k.number (calls_of ts) → HasItsTurn ts k
turn_of k [] all h = absurd h
turn_of k (t ∷ ts) all (inl e) = record { tick = t.tick; turn = inl (e, refl); waits = all.0 (sym e) }
turn_of k (t ∷ ts) all (inr h) = let rest = turn_of k ts all.1 h in record { tick = rest.tick; turn = inr rest.turn; waits = rest.waits }

-- where all turns hold, each call that was listed is watched
pub renewed : (calls : List kept.Call) (old new : List Turn) → calls_of new ≡ calls_of old → AllByRecursion (Holds calls) new → AllByRecursion (IsListed old) calls → AllByRecursion (IsWatched new) calls
renewed [] old new same holds listed = tt
renewed (k ∷ ks) old new same holds listed = (
  one listed.0,
  renewed ks old new same (all_into (Holds (k ∷ ks)) (Holds ks) (λ t h. h.1) new holds) listed.1,
)
  where
    one : IsListed old k → IsWatched new k
    one (inl sleeps) = inl sleeps
    one (inr among) =
        inr (turn_of k new (all_into (Holds (k ∷ ks)) (λ (t : Turn). k.number ≡ t.call → WaitsUntil t.tick k) (λ t h. h.0) new holds)
        (subst (IsAmong k.number) (sym same) among))

-- Turns that are left out.

-- what is left of numbers that rise still rises
left_above : (m : ℕ) (bs : List Bool) (ts : List Turn) → AreAbove m (calls_of ts) → AreAbove m (calls_of (items_where_true bs ts))
left_above m [] ts rise = tt
left_above m (b ∷ bs) [] rise = tt
left_above m (true ∷ bs) (t ∷ ts) rise = (rise.0, left_above t.call bs ts rise.1)
left_above m (false ∷ bs) (t ∷ ts) rise = let low : m < t.call = rise.0 in above_less t.call m (calls_of (items_where_true bs ts)) (left_above t.call bs ts rise.1) (omega arith)

left_rise : (bs : List Bool) (ts : List Turn) → Rise (calls_of ts) → Rise (calls_of (items_where_true bs ts))
left_rise [] ts rise = tt
left_rise (b ∷ bs) [] rise = tt
left_rise (true ∷ bs) (t ∷ ts) rise = left_above t.call bs ts rise
left_rise (false ∷ bs) (t ∷ ts) rise = left_rise bs ts (rise_rest t.call (calls_of ts) rise)

pub retained_rise : {F : Type 0} (R : F → Turn → Bool → F → Type 0) (f : F) (ts us : List Turn) → IsFiltered R f ts us → Rise (calls_of ts) → Rise (calls_of us)
retained_rise R f ts us h rise = subst (λ z. Rise (calls_of z)) (sym h.4) (left_rise h.0 ts rise)

-- the turn of a call stays, or the test was false of it
left_turn : {F : Type 0} (R : F → Turn → Bool → F → Type 0) (Q : Turn → Type 0) (f q : F) (says : (t : Turn) (b : Bool) (g : F) → R f t b g → (b ≡ false → Q t) × (g ≡ f)) (bs : List Bool) (ts : List Turn) (c n : ℕ) → length bs ≡ length ts → ReturnsInTurn R f bs ts q → HasTurn c n ts → HasTurn c n (items_where_true bs ts) ⊎ ((t : Turn) × (t.call ≡ c) × Q t)
left_turn R Q f q says bs [] c n len told h = absurd h
left_turn R Q f q says [] (t ∷ ts) c n len told h = absurd (omega arith)
left_turn R Q f q says (true ∷ bs) (t ∷ ts) c n len told (inl h) = inl (inl h)
left_turn R Q f q says (false ∷ bs) (t ∷ ts) c n len told (inl h) = inr (t, h.0, (says t false told.0 told.1).0 refl)
left_turn R Q f q says (b ∷ bs) (t ∷ ts) c n len told (inr h) =
    more b (left_turn R Q f q says bs ts c n (omega arith) (subst (λ g. ReturnsInTurn R g bs ts q) (says t b told.0 told.1).1 told.2) h)
  where
    more : (b : Bool) → HasTurn c n (items_where_true bs ts) ⊎ ((u : Turn) × (u.call ≡ c) × Q u) → HasTurn c n (items_where_true (b ∷ bs) (t ∷ ts)) ⊎ ((u : Turn) × (u.call ≡ c) × Q u)
    more true (inl has) = inl (inr has)
    more false (inl has) = inl has
    more b (inr lost) = inr lost

-- where the turns that are left out are of calls that sleep, each call is watched as before
pub retained_watched : {F : Type 0} (R : F → Turn → Bool → F → Type 0) (f : F) (calls : List kept.Call) (ts us : List Turn) → ((t : Turn) (b : Bool) (g : F) → R f t b g → (b ≡ false → AllByRecursion (λ k. k.number ≡ t.call → Sleeps k) calls) × (g ≡ f)) → IsFiltered R f ts us → AllByRecursion (IsWatched ts) calls → AllByRecursion (IsWatched us) calls
retained_watched R f [] ts us says h watched = tt
retained_watched R f (k ∷ ks) ts us says h watched = (
  one watched.0,
  retained_watched R f ks ts us (λ t b g called. let told = says t b g called in ((λ no. (told.0 no).1), told.1)) h watched.1,
)
  where
    one : IsWatched ts k → IsWatched us k
    one (inl sleeps) = inl sleeps
    one (inr its) = kept_or_not (left_turn R (λ (t : Turn). k.number ≡ t.call → Sleeps k) f h.1 (λ t b g called. let told = says t b g called in ((λ no. (told.0 no).0), told.1)) h.0 ts k.number its.tick h.2 h.3 its.turn)
      where
        kept_or_not : HasTurn k.number its.tick (items_where_true h.0 ts) ⊎ ((t : Turn) × (t.call ≡ k.number) × (k.number ≡ t.call → Sleeps k)) → IsWatched us k
        kept_or_not (inl has) = inr (record { tick = its.tick; turn = subst (HasTurn k.number its.tick) (sym h.4) has; waits = its.waits })
        kept_or_not (inr lost) = inl (lost.2 (sym lost.1))

-- What turns say of all calls.

-- before the first turn no session does anything
pub all_wait : (ts : List Turn) (least : ℕ) (calls : List kept.Call) → ((c n : ℕ) → HasTurn c n ts → least ≤ n) → AllByRecursion (IsWatched ts) calls → AllByRecursion (WaitsUntil least) calls
all_wait ts least [] low watched = tt
all_wait ts least (k ∷ ks) low watched = (one watched.0, all_wait ts least ks low watched.1)
  where
    one : IsWatched ts k → WaitsUntil least k
    one (inl sleeps) n early = due_later n k.session sleeps
    one (inr its) n early = let first : least ≤ its.tick = low k.number its.tick its.turn in its.waits n (omega arith)

-- calls that have no turn by a tick wait up to it
pub none_acts : (ts : List Turn) (from : ℕ) (to : Option ℕ) (tick : ℕ) (calls : List kept.Call) → ((c n : ℕ) → HasTurn c n ts → from ≤ c → IsBelow c to → tick < n) → AllByRecursion (IsWatched ts) calls → AllByRecursion (WaitsBetween from to tick) calls
none_acts ts from to tick [] later watched = tt
none_acts ts from to tick (k ∷ ks) later watched = (one watched.0, none_acts ts from to tick ks later watched.1)
  where
    one : IsWatched ts k → WaitsBetween from to tick k
    one (inl sleeps) low high passed = due_later (tick - k.passed) k.session sleeps
    one (inr its) low high passed = let late : tick < its.tick = later k.number its.tick its.turn low high in its.waits (tick - k.passed) (omega arith)

-- One more turn of those that a loop goes over.

-- what holds of those so far, and of one more
pub all_more : (P : Turn → Type 0) (ts : List Turn) (i : ℕ) (d : Turn) → i < length ts → AllByRecursion P (take i ts) → P (get_or ts i d) → AllByRecursion P (take (i + 1) ts)
all_more P ts i d inside all new = subst (AllByRecursion P) (sym (take_more ts i d inside)) (all_append P (take i ts) (get_or ts i d ∷ []) all (new, tt))

-- those so far are all
pub all_passed : (P : Turn → Type 0) (ts : List Turn) (i : ℕ) → length ts ≤ i → AllByRecursion P (take i ts) → AllByRecursion P ts
all_passed P ts i past all = subst (AllByRecursion P) (take_all i ts past) all

-- the least of one more
pub least_more : (old new : ℕ) (ts : List Turn) (i : ℕ) (d : Turn) → i < length ts → new ≡ min old (get_or ts i d).tick → AllByRecursion (λ (t : Turn). old ≤ t.tick) (take i ts) → AllByRecursion (λ (t : Turn). new ≤ t.tick) (take (i + 1) ts)
least_more old new ts i d inside e all =
    all_more (λ (t : Turn). new ≤ t.tick) ts i d inside (all_into (λ (t : Turn). old ≤ t.tick) (λ (t : Turn). new ≤ t.tick) (λ t low. omega arith) (take i ts) all) (omega arith)

-- the turn at a place has another tick
pub noted_rise : (ts : List Turn) (i : ℕ) (d t : Turn) → t.call ≡ (get_or ts i d).call → Rise (calls_of ts) → Rise (calls_of (set ts i t))
noted_rise ts i d t same rise = subst Rise (sym (map-set_same (λ (t : Turn). t.call) ts i t d same)) rise

-- one turn more holds, and the calls are as before
pub renewed_more : (calls : List kept.Call) (first ts : List Turn) (i : ℕ) (d t u : Turn) → i < length ts → t ≡ u → u.call ≡ (get_or ts i d).call → calls_of ts ≡ calls_of first → AllByRecursion (Holds calls) (take i ts) → Holds calls u → (calls_of (set ts i t) ≡ calls_of first) × AllByRecursion (Holds calls) (take (i + 1) (set ts i t))
renewed_more calls first ts i d t u inside is same before all new = (
  map-set_same (λ (t : Turn). t.call) ts i t d (ap (λ (t : Turn). t.call) is ∙ same) ∙ before,
  subst (AllByRecursion (Holds calls)) (sym (take_more_set ts i t inside)) (all_append (Holds calls) (take i ts) (t ∷ []) all (subst (Holds calls) (sym is) new, tt)),
)

-- The first turn from a number on.

-- the turns from a place on
abbrev pub from_place : ℕ → List Turn → List Turn
from_place first ts = take (length ts - first) (drop first ts)

-- none is left out of them
whole_rest : (first : ℕ) (ts : List Turn) → from_place first ts ≡ drop first ts
whole_rest first ts = take_all (length ts - first) (drop first ts) (omega (arith, length-drop first ts))

-- the call that is found among them is from the number on
pub next_from : (from first : ℕ) (ts : List Turn) (r : Option ℕ) → AllByRecursion (λ x. from ≤ x) (drop first (calls_of ts)) → IfSome r (λ c. IsAmong c (calls_of (from_place first ts))) → IfSome r (λ c. from ≤ c)
next_from from first ts None behind among = tt
next_from from first ts (Some c) behind among =
    among_from (λ x. from ≤ x) c (drop first (calls_of ts)) behind (subst (IsAmong c) (ap calls_of (whole_rest first ts) ∙ sym (drop-map (λ (t : Turn). t.call) first ts)) among)

-- those that come by a tick, and are from the number on, are not below it
pub next_others : (from first tick : ℕ) (ts : List Turn) (r : Option ℕ) → Rise (calls_of ts) → AllByRecursion (λ x. x < from) (take first (calls_of ts)) → (Rise (calls_of (from_place first ts)) → (c n : ℕ) → HasTurn c n (from_place first ts) → IsBelow c r → tick < n) → (c n : ℕ) → HasTurn c n ts → from ≤ c → IsBelow c r → tick < n
next_others from first tick ts r rise below others c n has at low =
    let rest_rise : Rise (calls_of (from_place first ts)) =
    subst Rise (drop-map (λ (t : Turn). t.call) first ts ∙ sym (ap calls_of (whole_rest first ts))) (rise_drop first (calls_of ts) rise) in
    others rest_rise c n (subst (HasTurn c n) (sym (whole_rest first ts)) (has_behind from first c n ts below at has)) low

forgotten_above : (n i : ℕ) (ts : List Turn) → AreAbove n (calls_of ts) → AreAbove n (calls_of (remove ts i))
forgotten_above n zero [] h = tt
forgotten_above n (suc i) [] h = tt
forgotten_above n zero (t ∷ ts) h = let low : n < t.call = h.0 in above_less t.call n (calls_of ts) h.1 (omega arith)
forgotten_above n (suc i) (t ∷ ts) h = (h.0, forgotten_above t.call i ts h.1)

-- the others rise still
pub forgotten_rise : (i : ℕ) (ts : List Turn) → Rise (calls_of ts) → Rise (calls_of (remove ts i))
forgotten_rise zero [] h = tt
forgotten_rise (suc i) [] h = tt
forgotten_rise zero (t ∷ ts) h = rise_rest t.call (calls_of ts) h
forgotten_rise (suc i) (t ∷ ts) h = forgotten_above t.call i ts h

-- and stay
pub forgotten_others : (i call c n : ℕ) (ts : List Turn) → slice_get (calls_of ts) i ≡ Some call → HasTurn c n ts → (c ≡ call) ⊎ HasTurn c n (remove ts i)
forgotten_others i call c n [] at has = absurd has
forgotten_others zero call c n (t ∷ ts) at (inl h) = let same : t.call ≡ call = cc in inl (sym h.0 ∙ same)
forgotten_others zero call c n (t ∷ ts) at (inr h) = inr h
forgotten_others (suc i) call c n (t ∷ ts) at (inl h) = inr (inl h)
forgotten_others (suc i) call c n (t ∷ ts) at (inr h) = further (forgotten_others i call c n ts at h)
  where
    further : (c ≡ call) ⊎ HasTurn c n (remove ts i) → (c ≡ call) ⊎ HasTurn c n (t ∷ remove ts i)
    further (inl same) = inl same
    further (inr has) = inr (inr has)
