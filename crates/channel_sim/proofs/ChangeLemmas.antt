-- One call changed among calls that stand for calls.
use Rattle.std.proofs.Common.{◌≡◌, ℕ, zero, suc, ◌-◌, ◌<◌, ◌≤◌, ◌==◌, if◌then◌else◌, Bool, true, false, inl, Some, None, List, [], ◌∷◌, ◌++◌, length, get_or, take, drop, refl, ap, sym, ◌∙◌, subst, arith}
use Rattle.std.proofs.Math.ListN.{set}
use Rattle.std.proofs.lemmas.Bool.{eqb-false}
use Rattle.psap_machine.specs.declared.session.Session.{Session}
use Rattle.psap_machine.specs.Point.{Point}
use Rattle.psap_machine.specs.SessionStands.{SessionStandsFor}
use Rattle.channel_sim.specs.declared.calls.call.Call as kept_call
use Rattle.channel_sim.specs.World.{Call, call_of, seated}
use Rattle.trace_fit.specs.Seats.{left_by}
use Rattle.channel_sim.specs.Lines.{sent_up, sent_down}
use Rattle.channel_sim.specs.inner.Acts.{IsCaught, IsUpTo}
use Rattle.channel_sim.specs.Lag.{LeastPassed, CallLags, CallsLag, level}
use Rattle.channel_sim.specs.inner.Places.{place_of}
use Rattle.channel_sim.specs.Tidy.{AreAbove, numbers_of}
use Rattle.channel_sim.specs.inner.Beside.{numbers}
use Rattle.channel_sim.proofs.PlaceLemmas.{above_at, next_place-some, next_place-none, place_first, place_behind}
use Rattle.channel_sim.proofs.SeatLemmas.{stands_now}

-- a call that still stands for the same
pub set_at : (floor : LeastPassed) (clock : ℕ → ℕ) (xs : List kept_call.Call) (ks : List Call) (i : ℕ) (d x' : kept_call.Call) → CallsLag floor clock xs ks → ((k : Call) → CallLags floor (clock k.number) (get_or xs i d) k → CallLags floor (clock k.number) x' k) → CallsLag floor clock (set xs i x') ks
set_at floor clock [] [] i d x' h step = tt
set_at floor clock [] (k ∷ ks) i d x' h step = absurd h
set_at floor clock (x ∷ xs) [] i d x' h step = absurd h
set_at floor clock (x ∷ xs) (k ∷ ks) zero d x' h step = (step k h.0, h.1)
set_at floor clock (x ∷ xs) (k ∷ ks) (suc i) d x' h step = (h.0, set_at floor clock xs ks i d x' h.1 step)

above_caught : (clock : ℕ → ℕ) (m c : ℕ) (xs : List kept_call.Call) → AreAbove m (numbers xs) → c ≤ m → IsCaught clock c xs
above_caught clock m c [] h low = tt
above_caught clock m c (x ∷ xs) h low =
    let above : m < x.number = h.0 in ((λ same. absurd (omega arith)), above_caught clock x.number c xs h.1 (omega arith))

-- the call of a number was passed up to its clock
pub caught_set : (clock : ℕ → ℕ) (n c : ℕ) (xs : List kept_call.Call) (i : ℕ) (d x' : kept_call.Call) → AreAbove n (numbers xs) → i < length xs → (get_or xs i d).number ≡ c → IsUpTo (clock c) x' → IsCaught clock c (set xs i x')
caught_set clock n c [] i d x' h inside here passed = tt
caught_set clock n c (x ∷ xs) zero d x' h inside here passed = ((λ same. passed), above_caught clock x.number c xs h.1 (omega arith))
caught_set clock n c (x ∷ xs) (suc i) d x' h inside here passed =
    let below : x.number < (get_or xs i d).number = above_at x.number xs i d h.1 (omega arith) in
    ((λ same. absurd (omega arith)), caught_set clock x.number c xs i d x' h.1 (omega arith) here passed)

pub nowhere_caught : (clock : ℕ → ℕ) (c : ℕ) (xs : List kept_call.Call) → place_of c (numbers xs) ≡ None → IsCaught clock c xs
nowhere_caught clock c [] none = tt
nowhere_caught clock c (x ∷ xs) none = at (nowhere_caught clock c xs) (x.number == c) refl
  where
    at : (place_of c (numbers xs) ≡ None → IsCaught clock c xs) → (b : Bool) → (x.number == c) ≡ b → IsCaught clock c (x ∷ xs)
    at further true same = let first = place_first c x.number (numbers xs) same in cc
    at further false other =
        ((λ same. absurd (eqb-false x.number c other same)), further (next_place-none (place_of c (numbers xs)) (sym (place_behind c x.number (numbers xs) other) ∙ none)))

-- a session comes up in the call at i
pub admitted_at : (settled tick c : ℕ) (s : Point) (session : Session) (xs : List kept_call.Call) (ks : List Call) (i : ℕ) (d : kept_call.Call) → CallsLag (level settled tick) (λ e. tick) xs ks → place_of c (numbers_of ks) ≡ Some i → SessionStandsFor session s → left_by s ≡ Some s → CallsLag (level settled tick) (λ e. tick) (set xs i (record (get_or xs i d) { session = Some session; passed = tick })) (seated c (Some s) ks)
admitted_at settled tick c s session [] [] i d h place stands live = cc
admitted_at settled tick c s session [] (k ∷ ks) i d h place stands live = absurd h
admitted_at settled tick c s session (x ∷ xs) [] i d h place stands live = absurd h
admitted_at settled tick c s session (x ∷ xs) (k ∷ ks) i d h place stands live = step (λ j p. admitted_at settled tick c s session xs ks j d h.1 p stands live) (k.number == c) refl
  where
    step : ((j : ℕ) → place_of c (numbers_of ks) ≡ Some j → CallsLag (level settled tick) (λ e. tick) (set xs j (record (get_or xs j d) { session = Some session; passed = tick })) (seated c (Some s) ks)) → (b : Bool) → (k.number == c) ≡ b → CallsLag (level settled tick) (λ e. tick) (set (x ∷ xs) i (record (get_or (x ∷ xs) i d) { session = Some session; passed = tick })) (seated c (Some s) (k ∷ ks))
    step further true same =
        let first = place_first c k.number (numbers_of ks) same in
        let at : 0 ≡ i = cc in
        subst (λ z. CallsLag (level settled tick) (λ e. tick) (set (x ∷ xs) z (record (get_or (x ∷ xs) z d) { session = Some session; passed = tick })) (seated c (Some s) (k ∷ ks))) at
        (subst (λ b. CallsLag (level settled tick) (λ e. tick) (record x { session = Some session; passed = tick } ∷ xs) (if b then record k { session = Some s } ∷ ks else k ∷ seated c (Some s) ks)) (sym same) (
          record {
            number = h.0.number;
            up = h.0.up;
            down = h.0.down;
            passed = omega arith;
            from = inl (omega arith);
            session = stands_now (tick - tick) session s (omega arith) stands live;
          },
          h.1,
        ))
    step further false other =
        let next = next_place-some (place_of c (numbers_of ks)) i (sym (place_behind c k.number (numbers_of ks) other) ∙ place) in
        subst (λ z. CallsLag (level settled tick) (λ e. tick) (set (x ∷ xs) z (record (get_or (x ∷ xs) z d) { session = Some session; passed = tick })) (seated c (Some s) (k ∷ ks))) (sym next.2)
        (subst (λ b. CallsLag (level settled tick) (λ e. tick) (x ∷ set xs next.0 (record (get_or xs next.0 d) { session = Some session; passed = tick })) (if b then record k { session = Some s } ∷ ks else k ∷ seated c (Some s) ks)) (sym other)
        (h.0, further next.0 next.1))

-- what was sent in the call at i
pub sent_at : (floor : LeastPassed) (clock : ℕ → ℕ) (c : ℕ) (xs : List kept_call.Call) (ks : List Call) (i : ℕ) (d : kept_call.Call) → CallsLag floor clock xs ks → place_of c (numbers_of ks) ≡ Some i → (sent_up (call_of c ks) ≡ (get_or xs i d).up) × (sent_down (call_of c ks) ≡ (get_or xs i d).down)
sent_at floor clock c [] [] i d h place = cc
sent_at floor clock c [] (k ∷ ks) i d h place = absurd h
sent_at floor clock c (x ∷ xs) [] i d h place = absurd h
sent_at floor clock c (x ∷ xs) (k ∷ ks) i d h place = step (λ j. sent_at floor clock c xs ks j d h.1) (k.number == c) refl
  where
    step : ((j : ℕ) → place_of c (numbers_of ks) ≡ Some j → (sent_up (call_of c ks) ≡ (get_or xs j d).up) × (sent_down (call_of c ks) ≡ (get_or xs j d).down)) → (b : Bool) → (k.number == c) ≡ b → (sent_up (call_of c (k ∷ ks)) ≡ (get_or (x ∷ xs) i d).up) × (sent_down (call_of c (k ∷ ks)) ≡ (get_or (x ∷ xs) i d).down)
    step further true same =
        let first = place_first c k.number (numbers_of ks) same in
        let at : 0 ≡ i = cc in
        subst (λ z. (sent_up (call_of c (k ∷ ks)) ≡ (get_or (x ∷ xs) z d).up) × (sent_down (call_of c (k ∷ ks)) ≡ (get_or (x ∷ xs) z d).down)) at
        (ap (λ b. sent_up (if b then Some k else call_of c ks)) same ∙ h.0.up, ap (λ b. sent_down (if b then Some k else call_of c ks)) same ∙ h.0.down)
    step further false other =
        let next = next_place-some (place_of c (numbers_of ks)) i (sym (place_behind c k.number (numbers_of ks) other) ∙ place) in
        let rest = further next.0 next.1 in
        subst (λ z. (sent_up (call_of c (k ∷ ks)) ≡ (get_or (x ∷ xs) z d).up) × (sent_down (call_of c (k ∷ ks)) ≡ (get_or (x ∷ xs) z d).down)) (sym next.2)
        (ap (λ b. sent_up (if b then Some k else call_of c ks)) other ∙ rest.0, ap (λ b. sent_down (if b then Some k else call_of c ks)) other ∙ rest.1)

pub no_call_of : (c : ℕ) (ks : List Call) → place_of c (numbers_of ks) ≡ None → call_of c ks ≡ None
no_call_of c [] none = refl
no_call_of c (k ∷ ks) none = at (no_call_of c ks) (k.number == c) refl
  where
    at : (place_of c (numbers_of ks) ≡ None → call_of c ks ≡ None) → (b : Bool) → (k.number == c) ≡ b → call_of c (k ∷ ks) ≡ None
    at further true same = let first = place_first c k.number (numbers_of ks) same in cc
    at further false other = ap (λ b. if b then Some k else call_of c ks) other ∙ further (next_place-none (place_of c (numbers_of ks)) (sym (place_behind c k.number (numbers_of ks) other) ∙ none))

-- the call at i, and the one that it stands for
pub lag_at : (floor : LeastPassed) (clock : ℕ → ℕ) (xs : List kept_call.Call) (ks : List Call) (i : ℕ) (d : kept_call.Call) → CallsLag floor clock xs ks → i < length xs → (k : Call) × CallLags floor (clock k.number) (get_or xs i d) k × (drop i ks ≡ k ∷ drop (suc i) ks) × (take (suc i) ks ≡ take i ks ++ k ∷ [])
lag_at floor clock [] [] i d h inside = absurd (omega arith)
lag_at floor clock [] (k ∷ ks) i d h inside = absurd h
lag_at floor clock (x ∷ xs) [] i d h inside = absurd h
lag_at floor clock (x ∷ xs) (k ∷ ks) zero d h inside = (k, h.0, refl, refl)
lag_at floor clock (x ∷ xs) (k ∷ ks) (suc i) d h inside =
    let rest = lag_at floor clock xs ks i d h.1 (omega arith) in (rest.0, rest.1, rest.2, ap (λ z. k ∷ z) rest.3)

pub same_lengths : (floor : LeastPassed) (clock : ℕ → ℕ) (xs : List kept_call.Call) (ks : List Call) → CallsLag floor clock xs ks → length xs ≡ length ks
same_lengths floor clock [] [] h = refl
same_lengths floor clock [] (k ∷ ks) h = absurd h
same_lengths floor clock (x ∷ xs) [] h = absurd h
same_lengths floor clock (x ∷ xs) (k ∷ ks) h = ap suc (same_lengths floor clock xs ks h.1)
