-- What the calls of every world keep among themselves, and calls that lose their last leg.
use Rattle.std.proofs.Common.{◌≡◌, ℕ, ◌-◌, ◌<◌, ◌≤◌, ◌==◌, ◌||◌, if◌then◌else◌, Bool, true, false, Option, Some, None, List, [], ◌∷◌, ◌++◌, get_or, map, refl, ap, sym, ◌∙◌, subst, arith}
use Rattle.std.specs.List.{AllByRecursion, remove}
use Rattle.std.specs.Option.{is_some}
use Rattle.std.proofs.lemmas.Bool.{eqb-true, eqb-false}
use Rattle.std.proofs.lemmas.List.{map-append}
use Rattle.link_frames.specs.declared.frame.End.{End}
use Rattle.link_frames.specs.declared.frame.End.TheVariants as «end»
use Rattle.link_frames.specs.declared.note.Note.{Note}
use Rattle.link_frames.specs.declared.note.Note.TheVariants as note
use Rattle.trace_model.specs.declared.entry.Entry.{Entry}
use Rattle.trace_model.specs.History.{Sent, told, sends, sent_by}
use Rattle.trace_model.specs.Safety.{is_leg}
use Rattle.channel_sim.specs.declared.calls.call.Call as kept_call
use Rattle.channel_sim.specs.World.{Call, with_legs, carries}
use Rattle.trace_fit.specs.Seats.{is_number}
use Rattle.channel_sim.specs.inner.Acts.{OtherHasLeg}
use Rattle.channel_sim.specs.Lag.{LeastPassed, CallsLag}
use Rattle.channel_sim.specs.inner.Places.{place_of}
use Rattle.channel_sim.specs.Tidy.{AreAbove, AreFrom, ticks_of, HasLeg, InTime, CallInTime, numbers_of}
use Rattle.channel_sim.proofs.CallsLemmas.{seat_there}
use Rattle.channel_sim.proofs.PlaceLemmas.{next_place-some, next_place-none, place_first, place_behind, above_nowhere, above_less}

-- Legs.

pub with_legs_kept : (ic : Option ℕ) (ks : List Call) → AllByRecursion (HasLeg ic) ks → with_legs ic ks ≡ ks
with_legs_kept ic [] h = refl
with_legs_kept ic (k ∷ ks) h =
    ap (λ b. if b then k ∷ with_legs ic ks else with_legs ic ks) h.0 ∙ ap (λ z. k ∷ z) (with_legs_kept ic ks h.1)

pub all_with_legs : (ic : Option ℕ) (ks : List Call) → AllByRecursion (HasLeg ic) (with_legs ic ks)
all_with_legs ic [] = tt
all_with_legs ic (k ∷ ks) = at (is_number k.number ic || is_some k.session) refl (all_with_legs ic ks)
  where
    at : (b : Bool) → (is_number k.number ic || is_some k.session) ≡ b → AllByRecursion (HasLeg ic) (with_legs ic ks) → AllByRecursion (HasLeg ic) (if b then k ∷ with_legs ic ks else with_legs ic ks)
    at true e rest = (e, rest)
    at false e rest = rest

pub with_legs_all : (P : Call → Type 0) (ic : Option ℕ) (ks : List Call) → AllByRecursion P ks → AllByRecursion P (with_legs ic ks)
with_legs_all P ic [] h = tt
with_legs_all P ic (k ∷ ks) h = at (is_number k.number ic || is_some k.session) (with_legs_all P ic ks h.1)
  where
    at : (b : Bool) → AllByRecursion P (with_legs ic ks) → AllByRecursion P (if b then k ∷ with_legs ic ks else with_legs ic ks)
    at true rest = (h.0, rest)
    at false rest = rest

pub with_legs_above : (n : ℕ) (ic : Option ℕ) (ks : List Call) → AreAbove n (numbers_of ks) → AreAbove n (numbers_of (with_legs ic ks))
with_legs_above n ic [] h = tt
with_legs_above n ic (k ∷ ks) h = at (is_number k.number ic || is_some k.session) (with_legs_above k.number ic ks h.1)
  where
    at : (b : Bool) → AreAbove k.number (numbers_of (with_legs ic ks)) → AreAbove n (numbers_of (if b then k ∷ with_legs ic ks else with_legs ic ks))
    at true rest = (h.0, rest)
    at false rest = let low : n < k.number = h.0 in above_less k.number n (numbers_of (with_legs ic ks)) rest (omega arith)

pub with_legs_numbers : (P : ℕ → Type 0) (ic : Option ℕ) (ks : List Call) → AllByRecursion P (numbers_of ks) → AllByRecursion P (numbers_of (with_legs ic ks))
with_legs_numbers P ic [] h = tt
with_legs_numbers P ic (k ∷ ks) h = at (is_number k.number ic || is_some k.session) (with_legs_numbers P ic ks h.1)
  where
    at : (b : Bool) → AllByRecursion P (numbers_of (with_legs ic ks)) → AllByRecursion P (numbers_of (if b then k ∷ with_legs ic ks else with_legs ic ks))
    at true rest = (h.0, rest)
    at false rest = rest

-- all have a leg, where the concerned call isn't among them
others_all : (ic : Option ℕ) (c : ℕ) (ks : List Call) → AllByRecursion (OtherHasLeg ic (Some c)) ks → place_of c (numbers_of ks) ≡ None → AllByRecursion (HasLeg ic) ks
others_all ic c [] h none = tt
others_all ic c (k ∷ ks) h none = at (others_all ic c ks h.1) (k.number == c) refl
  where
    flipped : (a b : ℕ) → (a == b) ≡ false → (b == a) ≡ false
    flipped a b e = at (b == a) refl
      where
        at : (x : Bool) → (b == a) ≡ x → (b == a) ≡ false
        at false f = f
        at true f = absurd (eqb-false a b e (sym (eqb-true b a f)))

    at : (place_of c (numbers_of ks) ≡ None → AllByRecursion (HasLeg ic) ks) → (b : Bool) → (k.number == c) ≡ b → AllByRecursion (HasLeg ic) (k ∷ ks)
    at further true same = let first = place_first c k.number (numbers_of ks) same in cc
    at further false other =
        (h.0 (flipped k.number c other), further (next_place-none (place_of c (numbers_of ks)) (sym (place_behind c k.number (numbers_of ks) other) ∙ none)))

-- nobody lost a leg
pub all_still : (ic : Option ℕ) (c : ℕ) (ks : List Call) → AllByRecursion (OtherHasLeg ic (Some c)) ks → place_of c (numbers_of ks) ≡ None → with_legs ic ks ≡ ks
all_still ic c ks h none = with_legs_kept ic ks (others_all ic c ks h none)

-- where none is concerned, all have a leg
pub none_concerned : (ic : Option ℕ) (ks : List Call) → AllByRecursion (OtherHasLeg ic None) ks → with_legs ic ks ≡ ks
none_concerned ic [] h = refl
none_concerned ic (k ∷ ks) h =
    ap (λ b. if b then k ∷ with_legs ic ks else with_legs ic ks) (h.0 refl) ∙ ap (λ z. k ∷ z) (none_concerned ic ks h.1)

-- the concerned call has its leg
pub concerned_has : (ic : Option ℕ) (c : ℕ) (ks : List Call) → AllByRecursion (OtherHasLeg ic (Some c)) ks → is_number c ic ≡ true → with_legs ic ks ≡ ks
concerned_has ic c ks h has = with_legs_kept ic ks (all ks h)
  where
    one : (k : Call) → OtherHasLeg ic (Some c) k → HasLeg ic k
    one k other = at (c == k.number) refl
      where
        at : (b : Bool) → (c == k.number) ≡ b → HasLeg ic k
        at true same = ap (λ z. z || is_some k.session) (subst (λ z. is_number z ic ≡ true) (eqb-true c k.number same) has)
        at false apart = other apart

    all : (ms : List Call) → AllByRecursion (OtherHasLeg ic (Some c)) ms → AllByRecursion (HasLeg ic) ms
    all [] h = tt
    all (m ∷ ms) h = (one m h.0, all ms h.1)

flipped : (a b : ℕ) → (a == b) ≡ false → (b == a) ≡ false
flipped a b e = at (b == a) refl
  where
    at : (x : Bool) → (b == a) ≡ x → (b == a) ≡ false
    at false f = f
    at true f = absurd (eqb-false a b e (sym (eqb-true b a f)))

-- the concerned call has its session
pub session_has : (ic : Option ℕ) (floor : LeastPassed) (clock : ℕ → ℕ) (n c : ℕ) (xs : List kept_call.Call) (ks : List Call) (i : ℕ) (d : kept_call.Call) → CallsLag floor clock xs ks → AreAbove n (numbers_of ks) → place_of c (numbers_of ks) ≡ Some i → AllByRecursion (OtherHasLeg ic (Some c)) ks → is_some (get_or xs i d).session ≡ true → with_legs ic ks ≡ ks
session_has ic floor clock n c [] [] i d h up place others there = refl
session_has ic floor clock n c [] (k ∷ ks) i d h up place others there = absurd h
session_has ic floor clock n c (x ∷ xs) [] i d h up place others there = absurd h
session_has ic floor clock n c (x ∷ xs) (k ∷ ks) i d h up place others there =
    step (λ j p t. session_has ic floor clock k.number c xs ks j d h.1 up.1 p others.1 t) (k.number == c) refl
  where
    or_true : (a : Bool) → (a || true) ≡ true
    or_true true = refl
    or_true false = refl

    kept : (with_legs ic ks ≡ ks) → (is_number k.number ic || is_some k.session) ≡ true → with_legs ic (k ∷ ks) ≡ k ∷ ks
    kept rest has = ap (λ b. if b then k ∷ with_legs ic ks else with_legs ic ks) has ∙ ap (λ z. k ∷ z) rest

    step : ((j : ℕ) → place_of c (numbers_of ks) ≡ Some j → is_some (get_or xs j d).session ≡ true → with_legs ic ks ≡ ks) → (b : Bool) → (k.number == c) ≡ b → with_legs ic (k ∷ ks) ≡ k ∷ ks
    step further true same =
        let first = place_first c k.number (numbers_of ks) same in
        let at : 0 ≡ i = cc in
        let here : k.number ≡ c = eqb-true k.number c same in
        let session : is_some k.session ≡ true = sym (seat_there (clock k.number - x.passed) x.session k.session h.0.session) ∙ subst (λ z. is_some (get_or (x ∷ xs) z d).session ≡ true) (sym at) there in
        kept (all_still ic c ks others.1 (above_nowhere k.number c (numbers_of ks) up.1 (omega arith)))
        (ap (λ z. is_number k.number ic || z) session ∙ or_true (is_number k.number ic))
    step further false other =
        let next = next_place-some (place_of c (numbers_of ks)) i (sym (place_behind c k.number (numbers_of ks) other) ∙ place) in
        kept (further next.0 next.1 (subst (λ z. is_some (get_or (x ∷ xs) z d).session ≡ true) next.2 there)) (others.0 (flipped k.number c other))

-- the concerned call lost its last leg
pub dropped_at : (ic : Option ℕ) (floor : LeastPassed) (clock : ℕ → ℕ) (n c : ℕ) (xs : List kept_call.Call) (ks : List Call) (i : ℕ) (d : kept_call.Call) → CallsLag floor clock xs ks → AreAbove n (numbers_of ks) → place_of c (numbers_of ks) ≡ Some i → AllByRecursion (OtherHasLeg ic (Some c)) ks → is_some (get_or xs i d).session ≡ false → is_number c ic ≡ false → CallsLag floor clock (remove xs i) (with_legs ic ks)
dropped_at ic floor clock n c [] [] i d h up place others gone out = cc
dropped_at ic floor clock n c [] (k ∷ ks) i d h up place others gone out = absurd h
dropped_at ic floor clock n c (x ∷ xs) [] i d h up place others gone out = absurd h
dropped_at ic floor clock n c (x ∷ xs) (k ∷ ks) i d h up place others gone out =
    step (λ j p t. dropped_at ic floor clock k.number c xs ks j d h.1 up.1 p others.1 t out) (k.number == c) refl
  where
    step : ((j : ℕ) → place_of c (numbers_of ks) ≡ Some j → is_some (get_or xs j d).session ≡ false → CallsLag floor clock (remove xs j) (with_legs ic ks)) → (b : Bool) → (k.number == c) ≡ b → CallsLag floor clock (remove (x ∷ xs) i) (with_legs ic (k ∷ ks))
    step further true same =
        let first = place_first c k.number (numbers_of ks) same in
        let at : 0 ≡ i = cc in
        let here : k.number ≡ c = eqb-true k.number c same in
        let session : is_some k.session ≡ false = sym (seat_there (clock k.number - x.passed) x.session k.session h.0.session) ∙ subst (λ z. is_some (get_or (x ∷ xs) z d).session ≡ false) (sym at) gone in
        let none : (is_number k.number ic || is_some k.session) ≡ false = ap (λ z. is_number z ic || is_some k.session) here ∙ ap (λ z. z || is_some k.session) out ∙ session in
        let rest : with_legs ic ks ≡ ks = all_still ic c ks others.1 (above_nowhere k.number c (numbers_of ks) up.1 (omega arith)) in
        subst (λ z. CallsLag floor clock (remove (x ∷ xs) z) (with_legs ic (k ∷ ks))) at
        (subst (λ z. CallsLag floor clock xs z) (sym (ap (λ b. if b then k ∷ with_legs ic ks else with_legs ic ks) none ∙ rest)) h.1)
    step further false other =
        let next = next_place-some (place_of c (numbers_of ks)) i (sym (place_behind c k.number (numbers_of ks) other) ∙ place) in
        let has = others.0 (flipped k.number c other) in
        subst (λ z. CallsLag floor clock (remove (x ∷ xs) z) (with_legs ic (k ∷ ks))) (sym next.2)
        (subst (λ z. CallsLag floor clock (x ∷ remove xs next.0) z) (sym (ap (λ b. if b then k ∷ with_legs ic ks else with_legs ic ks) has))
        (h.0, further next.0 next.1 (subst (λ z. is_some (get_or (x ∷ xs) z d).session ≡ false) next.2 gone)))

-- The ticks of frames.

rises_more : (n t : ℕ) (xs ys : List ℕ) → AreFrom n xs → n ≤ t → AllByRecursion (λ x. x ≤ t) xs → AreFrom t ys → AreFrom n (xs ++ ys)
rises_more n t [] [] h low all ys = tt
rises_more n t [] (y ∷ ys) h low all rest = let least : t ≤ y = rest.0 in (omega arith, rest.1)
rises_more n t (x ∷ xs) ys h low all rest = (h.0, rises_more x t xs ys h.1 all.0 all.1 rest)

all_both : (t : ℕ) (xs ys : List ℕ) → AllByRecursion (λ x. x ≤ t) xs → AllByRecursion (λ x. x ≤ t) ys → AllByRecursion (λ x. x ≤ t) (xs ++ ys)
all_both t [] ys a b = b
all_both t (x ∷ xs) ys a b = (a.0, all_both t xs ys a.1 b)

now_from : (t : ℕ) (ss : List Sent) → AllByRecursion (λ s. s.tick ≡ t) ss → AreFrom t (ticks_of ss)
now_from t [] h = tt
now_from t (s ∷ ss) h = (omega (arith, h.0), subst (λ n. AreFrom n (ticks_of ss)) (sym h.0) (now_from t ss h.1))

now_below : (t : ℕ) (ss : List Sent) → AllByRecursion (λ s. s.tick ≡ t) ss → AllByRecursion (λ x. x ≤ t) (ticks_of ss)
now_below t [] h = tt
now_below t (s ∷ ss) h = (omega (arith, h.0), now_below t ss h.1)

pub sent_now : (e : End) (c now : ℕ) (items : List Note) → AllByRecursion (λ s. s.tick ≡ now) (sent_by e c (told now items))
sent_now e c now [] = tt
sent_now e c now (x ∷ xs) = at x (sent_now e c now xs)
  where
    at : (x : Note) → AllByRecursion (λ s. s.tick ≡ now) (sent_by e c (told now xs)) → AllByRecursion (λ s. s.tick ≡ now) (sends e c now x (sent_by e c (told now xs)))
    at (note.Send f d frame) rest = elim (is_leg e c f d) as (λ b. AllByRecursion (λ s. s.tick ≡ now) (if b then record { tick = now; frame = frame } ∷ sent_by e c (told now xs) else sent_by e c (told now xs))) [ true ↦ (refl, rest) | false ↦ rest ]
    at _ rest = rest

in_time_more : (e : End) (c now : ℕ) (items : List Note) (ss : List Sent) → InTime now ss → InTime now (ss ++ sent_by e c (told now items))
in_time_more e c now items ss h =
    let new = sent_now e c now items in
    record {
      rise = subst (AreFrom 0) (sym (map-append (λ s. s.tick) ss (sent_by e c (told now items)))) (rises_more 0 now (ticks_of ss) (ticks_of (sent_by e c (told now items))) h.rise (omega arith) h.past (now_from now (sent_by e c (told now items)) new));
      past = subst (AllByRecursion (λ x. x ≤ now)) (sym (map-append (λ s. s.tick) ss (sent_by e c (told now items)))) (all_both now (ticks_of ss) (ticks_of (sent_by e c (told now items))) h.past (now_below now (sent_by e c (told now items)) new));
    }

pub carried_in_time : (now : ℕ) (items : List Note) (ks : List Call) → AllByRecursion (CallInTime now) ks → AllByRecursion (CallInTime now) (map (carries (told now items)) ks)
carried_in_time now items [] h = tt
carried_in_time now items (k ∷ ks) h =
    (record { up = in_time_more «end».Vehicle k.number now items k.up h.0.up; down = in_time_more «end».Point k.number now items k.down h.0.down }, carried_in_time now items ks h.1)

-- carrying moves no leg
pub carried_others : (ic concerned : Option ℕ) (es : List Entry) (ks : List Call) → AllByRecursion (OtherHasLeg ic concerned) ks → AllByRecursion (OtherHasLeg ic concerned) (map (carries es) ks)
carried_others ic concerned es [] h = tt
carried_others ic concerned es (k ∷ ks) h = (h.0, carried_others ic concerned es ks h.1)
