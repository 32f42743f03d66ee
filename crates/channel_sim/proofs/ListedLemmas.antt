-- The calls of turns caught up: what stays of all calls, which are up to a tick, and how often sessions are passed.
use Rattle.std.proofs.Common.{◌≡◌, ℕ, zero, suc, ◌+◌, ◌<◌, ◌≤◌, ◌==◌, ◌⊎◌, if◌then◌else◌, Bool, true, false, inl, inr, Option, None, Some, List, [], ◌∷◌, ◌++◌, length, get_or, map, take, refl, ap, sym, ◌∙◌, subst, arith, add-one}
use Rattle.std.proofs.Math.ListN.{set}
use Rattle.std.proofs.lemmas.Bool.{eqb-true}
use Rattle.std.specs.List.{AllByRecursion}
use Rattle.std.specs.Option.{is_some}
use Rattle.psap_machine.specs.declared.session.Session.{Session}
use Rattle.channel_sim.specs.declared.calls.call.Call as kept
use Rattle.channel_sim.specs.declared.calls.turns.Turn.{Turn}
use Rattle.channel_sim.specs.World.{Call, session_count, session_of}
use Rattle.channel_sim.specs.Lag.{LeastPassed, CallLags, CallsLag, level}
use Rattle.channel_sim.specs.Tidy.{AreAbove, numbers_of}
use Rattle.channel_sim.specs.inner.Acts.{IsUpTo, IsCaught}
use Rattle.channel_sim.specs.inner.Beside.{bare, numbers}
use Rattle.channel_sim.specs.inner.Passes.{once_if}
use Rattle.channel_sim.specs.inner.Places.{place_of}
use Rattle.channel_sim.specs.inner.Sendings.{SentSince, IsNotedCall}
use Rattle.channel_sim.specs.inner.Turns.{HasTurn, Sleeps, IsWatched, IsListed, IsAmong, Rise, calls_of}
use Rattle.channel_sim.proofs.BoundLemmas.{call_at}
use Rattle.channel_sim.proofs.CallsLemmas.{same_numbers, session_first, session_behind, number_at, place_within}
use Rattle.channel_sim.proofs.CatchLemmas.{from_reached}
use Rattle.channel_sim.proofs.ChangeLemmas.{caught_set, nowhere_caught}
use Rattle.channel_sim.proofs.PlaceLemmas.{below_other}

-- what holds of the old call holds of the new one
pub all_set : (P : kept.Call → Type 0) (xs : List kept.Call) (i : ℕ) (d y : kept.Call) → (P (get_or xs i d) → P y) → AllByRecursion P xs → AllByRecursion P (set xs i y)
all_set P [] i d y step h = tt
all_set P (x ∷ xs) zero d y step h = (step h.0, h.1)
all_set P (x ∷ xs) (suc i) d y step h = (h.0, all_set P xs i d y step h.1)

-- only the session, and how far it was passed, is another
pub bare_set : (xs : List kept.Call) (i : ℕ) (d y : kept.Call) → i < length xs → bare y ≡ bare (get_or xs i d) → map bare (set xs i y) ≡ map bare xs
bare_set [] i d y inside e = refl
bare_set (x ∷ xs) zero d y inside e = ap (λ z. z ∷ map bare xs) e
bare_set (x ∷ xs) (suc i) d y inside e = ap (λ z. bare x ∷ z) (bare_set xs i d y (omega arith) e)

pub bare_same : (x y : kept.Call) (session : Option Session) (passed : ℕ) → y ≡ record x { session = session; passed = passed } → bare y ≡ bare x
bare_same x y session passed e = ap bare e

pub passed_same : (x y : kept.Call) (session : Option Session) (passed : ℕ) → y ≡ record x { session = session; passed = passed } → y.passed ≡ passed
passed_same x y session passed e = ap (λ z. z.passed) e

-- a call that sleeps still does, and has the same number
pub listed_still : (turns : List Turn) (x y : kept.Call) → bare y ≡ bare x → (Sleeps x → Sleeps y) → IsListed turns x → IsListed turns y
listed_still turns x y e step (inl sleeps) = inl (step sleeps)
listed_still turns x y e step (inr among) = inr (subst (λ n. IsAmong n (calls_of turns)) (sym (ap (λ z. z.number) e)) among)

-- The numbers of calls, and that their frames are noted, say nothing of sessions.

bare_numbers : (xs : List kept.Call) → numbers (map bare xs) ≡ numbers xs
bare_numbers [] = refl
bare_numbers (x ∷ xs) = ap (λ ns. x.number ∷ ns) (bare_numbers xs)

pub same_bare_numbers : (xs ys : List kept.Call) → map bare ys ≡ map bare xs → numbers ys ≡ numbers xs
same_bare_numbers xs ys e = sym (bare_numbers ys) ∙ ap numbers e ∙ bare_numbers xs

bared : (up down : SentSince) (xs : List kept.Call) → AllByRecursion (IsNotedCall up down) xs → AllByRecursion (IsNotedCall up down) (map bare xs)
bared up down [] h = tt
bared up down (x ∷ xs) h = (record { up = h.0.up; down = h.0.down }, bared up down xs h.1)

unbared : (up down : SentSince) (xs : List kept.Call) → AllByRecursion (IsNotedCall up down) (map bare xs) → AllByRecursion (IsNotedCall up down) xs
unbared up down [] h = tt
unbared up down (x ∷ xs) h = (record { up = h.0.up; down = h.0.down }, unbared up down xs h.1)

pub same_bare_noted : (up down : SentSince) (xs ys : List kept.Call) → map bare ys ≡ map bare xs → AllByRecursion (IsNotedCall up down) xs → AllByRecursion (IsNotedCall up down) ys
same_bare_noted up down xs ys e h = unbared up down ys (subst (AllByRecursion (IsNotedCall up down)) (sym e) (bared up down xs h))

-- The calls of turns, one behind the other.

pub calls_more : (turns : List Turn) (i : ℕ) (t : Turn) → i < length turns → calls_of (take (i + 1) turns) ≡ calls_of (take i turns) ++ (get_or turns i t).call ∷ []
calls_more [] i t inside = absurd (omega arith)
calls_more (u ∷ turns) zero t inside = refl
calls_more (u ∷ turns) (suc i) t inside =
    ap (λ n. calls_of (take n (u ∷ turns))) (add-one (suc i)) ∙ ap (λ cs. u.call ∷ cs) (ap (λ n. calls_of (take n turns)) (sym (add-one i)) ∙ calls_more turns i t (omega arith))

among_last : (n c : ℕ) (cs : List ℕ) → IsAmong n (cs ++ c ∷ []) → IsAmong n cs ⊎ (c ≡ n)
among_last n c [] (inl here) = inr here
among_last n c [] (inr none) = absurd none
among_last n c (m ∷ cs) (inl here) = inl (inl here)
among_last n c (m ∷ cs) (inr further) = at (among_last n c cs further)
  where
    at : IsAmong n cs ⊎ (c ≡ n) → IsAmong n (m ∷ cs) ⊎ (c ≡ n)
    at (inl among) = inl (inr among)
    at (inr last) = inr last

-- the calls of these numbers were passed up to a tick, or are settled
abbrev pub AreReached : (tick : ℕ) → List ℕ → List kept.Call → Type 0
AreReached tick cs xs = AllByRecursion (λ x. IsAmong x.number cs → IsUpTo tick x) xs

pub none_reached : (tick : ℕ) (xs : List kept.Call) → AreReached tick [] xs
none_reached tick [] = tt
none_reached tick (x ∷ xs) = ((λ none. absurd none), none_reached tick xs)

reached_both : (tick c : ℕ) (cs : List ℕ) (xs : List kept.Call) → AreReached tick cs xs → IsCaught (λ e. tick) c xs → AreReached tick (cs ++ c ∷ []) xs
reached_both tick c cs [] h one = tt
reached_both tick c cs (x ∷ xs) h one = ((λ among. at (among_last x.number c cs among)), reached_both tick c cs xs h.1 one.1)
  where
    at : IsAmong x.number cs ⊎ (c ≡ x.number) → IsUpTo tick x
    at (inl among) = h.0 among
    at (inr last) = one.0 (sym last)

-- one more was passed up to it
pub reached_more : (tick c : ℕ) (cs : List ℕ) (xs : List kept.Call) (i : ℕ) (d y : kept.Call) → AreAbove 0 (numbers xs) → i < length xs → (get_or xs i d).number ≡ c → IsUpTo tick y → AreReached tick cs xs → AreReached tick (cs ++ c ∷ []) (set xs i y)
reached_more tick c cs xs i d y above inside here up h =
    reached_both tick c cs (set xs i y) (all_set (λ x. IsAmong x.number cs → IsUpTo tick x) xs i d y (λ old among. up) h)
    (caught_set (λ e. tick) 0 c xs i d y above inside here up)

-- the call at the place has the number
pub place_number : (c : ℕ) (xs : List kept.Call) (i : ℕ) (d : kept.Call) → place_of c (numbers xs) ≡ Some i → i < length xs → (get_or xs i d).number ≡ c
place_number c xs i d place inside = sym (number_at xs i d inside) ∙ (place_within c (numbers xs) i place).1

-- no call has the number
pub reached_nowhere : (tick c : ℕ) (cs : List ℕ) (xs : List kept.Call) → place_of c (numbers xs) ≡ None → AreReached tick cs xs → AreReached tick (cs ++ c ∷ []) xs
reached_nowhere tick c cs xs none h = reached_both tick c cs xs h (nowhere_caught (λ e. tick) c xs none)

-- where those with a turn are, all are, since the others sleep
pub all_reached : (floor : LeastPassed) (tick : ℕ) (turns : List Turn) (xs : List kept.Call) (ks : List Call) → floor.settled ≤ floor.waking → AllByRecursion (IsListed turns) xs → AreReached tick (calls_of turns) xs → CallsLag floor (λ c. tick) xs ks → CallsLag (level floor.settled tick) (λ c. tick) xs ks
all_reached floor tick turns [] [] low listed h lags = tt
all_reached floor tick turns [] (k ∷ ks) low listed h lags = absurd lags
all_reached floor tick turns (x ∷ xs) [] low listed h lags = absurd lags
all_reached floor tick turns (x ∷ xs) (k ∷ ks) low listed h lags = (
  record { number = lags.0.number; up = lags.0.up; down = lags.0.down; passed = lags.0.passed; from = from_reached floor tick x low (at listed.0) lags.0.from; session = lags.0.session },
  all_reached floor tick turns xs ks low listed.1 h.1 lags.1,
)
  where
    at : IsListed turns x → IsUpTo tick x
    at (inl sleeps) = inr sleeps
    at (inr among) = h.0 among

-- How often they are passed.

-- once for each of these calls whose session is there
abbrev pub turn_count : List ℕ → List Call → ℕ
turn_count [] ks = 0
turn_count (c ∷ cs) ks = once_if (session_of c ks) + turn_count cs ks

count_last : (c : ℕ) (cs : List ℕ) (ks : List Call) → turn_count (cs ++ c ∷ []) ks ≡ turn_count cs ks + once_if (session_of c ks)
count_last c [] ks = omega arith
count_last c (d ∷ cs) ks = let e : turn_count (cs ++ c ∷ []) ks ≡ turn_count cs ks + once_if (session_of c ks) = count_last c cs ks in omega arith

-- one more, at its place
pub count_more_turn : (floor : LeastPassed) (tick before after m c : ℕ) (cs : List ℕ) (xs : List kept.Call) (ks : List Call) (i : ℕ) (d : kept.Call) → CallsLag floor (λ e. tick) xs ks → place_of c (numbers xs) ≡ Some i → before ≤ m + turn_count cs ks → ((k : Call) → CallLags floor tick (get_or xs i d) k → after ≤ before + once_if k.session) → after ≤ m + turn_count (cs ++ c ∷ []) ks
count_more_turn floor tick before after m c cs xs ks i d h place so_far one =
    let here : place_of c (numbers_of ks) ≡ Some i = ap (place_of c) (same_numbers floor (λ e. tick) xs ks h) ∙ place in
    let more : after ≤ before + once_if (session_of c ks) = call_at (λ o. after ≤ before + once_if o) floor (λ e. tick) c xs ks i d h here one in
    omega (arith, count_last c cs ks)

-- no call has the number
pub count_no_more : (before m c : ℕ) (cs : List ℕ) (ks : List Call) → before ≤ m + turn_count cs ks → before ≤ m + turn_count (cs ++ c ∷ []) ks
count_no_more before m c cs ks so_far = omega (arith, count_last c cs ks)

above_count : (m : ℕ) (cs : List ℕ) (k : Call) (ks : List Call) → AreAbove m cs → k.number ≤ m → turn_count cs (k ∷ ks) ≡ turn_count cs ks
above_count m [] k ks h low = refl
above_count m (c ∷ cs) k ks h low =
    let above : m < c = h.0 in
    let other : session_of c (k ∷ ks) ≡ session_of c ks = session_behind c k ks (below_other k.number c (omega arith)) in
    ap (λ o. once_if o + turn_count cs (k ∷ ks)) other ∙ ap (λ n. once_if (session_of c ks) + n) (above_count c cs k ks h.1 (omega arith))

rise_behind : (c : ℕ) (cs : List ℕ) → AreAbove c cs → Rise cs
rise_behind c [] h = tt
rise_behind c (d ∷ cs) h = h.1

-- of calls whose numbers rise one at most is this one
one_count : (cs : List ℕ) (k : Call) (ks : List Call) → Rise cs → turn_count cs (k ∷ ks) ≤ once_if k.session + turn_count cs ks
one_count [] k ks h = omega arith
one_count (c ∷ cs) k ks h = at (one_count cs k ks (rise_behind c cs h)) (k.number == c) refl
  where
    at : turn_count cs (k ∷ ks) ≤ once_if k.session + turn_count cs ks → (b : Bool) → (k.number == c) ≡ b → turn_count (c ∷ cs) (k ∷ ks) ≤ once_if k.session + turn_count (c ∷ cs) ks
    at further true same =
        let here : once_if (session_of c (k ∷ ks)) ≡ once_if k.session = ap once_if (session_first c k ks same) in
        let least : k.number ≡ c = eqb-true k.number c same in
        let rest : turn_count cs (k ∷ ks) ≡ turn_count cs ks = above_count c cs k ks h (omega arith) in
        omega arith
    at further false other =
        let here : once_if (session_of c (k ∷ ks)) ≡ once_if (session_of c ks) = ap once_if (session_behind c k ks other) in
        omega arith

none_counted : (cs : List ℕ) → turn_count cs [] ≡ 0
none_counted [] = refl
none_counted (c ∷ cs) = let rest : turn_count cs [] ≡ 0 = none_counted cs in omega arith

-- so each session is passed once at most
pub turns_counted : (cs : List ℕ) (ks : List Call) → Rise cs → turn_count cs ks ≤ session_count ks
turns_counted cs [] h = omega (arith, none_counted cs)
turns_counted cs (k ∷ ks) h = at (is_some k.session) (turns_counted cs ks h) (one_count cs k ks h)
  where
    at : (b : Bool) → turn_count cs ks ≤ session_count ks → turn_count cs (k ∷ ks) ≤ (if b then 1 else 0) + turn_count cs ks → turn_count cs (k ∷ ks) ≤ (if b then session_count ks + 1 else session_count ks)
    at true rest one = omega arith
    at false rest one = omega arith

-- A call that has its turn has a turn.

turn_among : (c n : ℕ) (turns : List Turn) → HasTurn c n turns → IsAmong c (calls_of turns)
turn_among c n [] h = h
turn_among c n (t ∷ turns) (inl here) = inl here.0
turn_among c n (t ∷ turns) (inr further) = inr (turn_among c n turns further)

pub watched_listed : (turns : List Turn) (xs : List kept.Call) → AllByRecursion (IsWatched turns) xs → AllByRecursion (IsListed turns) xs
watched_listed turns [] h = tt
watched_listed turns (x ∷ xs) h = (at h.0, watched_listed turns xs h.1)
  where
    at : IsWatched turns x → IsListed turns x
    at (inl sleeps) = inl sleeps
    at (inr turn) = inr (turn_among x.number turn.tick turns turn.turn)
