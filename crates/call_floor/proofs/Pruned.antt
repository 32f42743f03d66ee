-- Calls that have no leg up any more are left out of those that are kept as live.
use Rattle.std.proofs.Common.{◌≡◌, ℕ, zero, suc, true, false, Bool, List, [], ◌∷◌, ◌++◌, ◌==◌, ◌||◌, ◌<◌, ◌≤◌, inl, inr, Option, Some, None, length, get_or, set, slice_get, take, drop, map, if◌then◌else◌, Bor, refl, ap, sym, ◌∙◌, subst, arith, eqb-true}
use Rattle.std.specs.List.{AllByRecursion}
use Rattle.std.specs.Option.{is_some, option_copied}
use Rattle.psap_machine.specs.declared.session.Session.{Session}
use Rattle.psap_machine.specs.Point.{Point}
use Rattle.channel_sim.specs.Tidy.{HasLeg}
use Rattle.channel_sim.specs.World.{Call, call_of, session_in, session_of}
use Rattle.channel_sim.specs.WorldStands.{FoundStandsFor}
use Rattle.trace_fit.specs.Seats.{is_number}
use Rattle.call_floor.specs.declared.live.Live as kept_live
use Rattle.call_floor.specs.Floor.{Stand}
use Rattle.call_floor.specs.FloorStands.{AreLive, IsDown, IsOf}

live_skip : (stands : List Stand) (v c : ℕ) (vs : List ℕ) (ls : List kept_live.Live) → IsDown stands v c → AreLive stands (suc c) vs ls → AreLive stands c (v ∷ vs) ls
live_skip stands v c vs [] down rest = (down, rest)
live_skip stands v c vs (l ∷ ls) down rest = inl (down, rest)

-- one that is down is left out
pub live_less : (stands : List Stand) (l : kept_live.Live) → ((v : ℕ) → slice_get (map (λ (s : Stand). s.number) stands) l.place ≡ Some v → IsDown stands v l.call) → (c : ℕ) (vs : List ℕ) (front back : List kept_live.Live) → AreLive stands c vs (front ++ l ∷ back) → AreLive stands c vs (front ++ back)
live_less stands l down c [] [] back h = absurd h
live_less stands l down c [] (f ∷ fs) back h = absurd h
live_less stands l down c (v ∷ vs) [] back (inl h) = live_skip stands v c vs back h.0 (live_less stands l down (suc c) vs [] back h.1)
live_less stands l down c (v ∷ vs) [] back (inr h) =
    let one : IsOf stands v c l = h.0 in
    live_skip stands v c vs back (subst (IsDown stands v) one.call (down v one.place)) h.1
live_less stands l down c (v ∷ vs) (f ∷ fs) back (inl h) = inl (h.0, live_less stands l down (suc c) vs (f ∷ fs) back h.1)
live_less stands l down c (v ∷ vs) (f ∷ fs) back (inr h) = inr (h.0, live_less stands l down (suc c) vs fs back h.1)

-- Places of a list whose first ones, so many, are kept, and of which those from another place on were not looked at yet.

behind : {A : Type 0} (xs : List A) (i : ℕ) (x : A) → i < length xs → x ≡ get_or xs i x → x ∷ drop (suc i) xs ≡ drop i xs
behind [] i x low at = absurd (omega arith)
behind (y ∷ ys) zero x low at = ap (λ z. z ∷ ys) at
behind (y ∷ ys) (suc i) x low at = behind ys i x (omega arith) at

pub kept_one : {A : Type 0} (xs : List A) (k i : ℕ) (x : A) → k ≤ i → i < length xs → x ≡ get_or xs i x → take (suc k) (set xs k x) ++ drop (suc i) (set xs k x) ≡ take k xs ++ drop i xs
kept_one [] k i x order low at = absurd (omega arith)
kept_one (y ∷ ys) zero zero x order low at = ap (λ z. z ∷ ys) at
kept_one (y ∷ ys) zero (suc i) x order low at = behind ys i x (omega arith) at
kept_one (y ∷ ys) (suc k) zero x order low at = absurd (omega arith)
kept_one (y ∷ ys) (suc k) (suc i) x order low at = ap (λ zs. y ∷ zs) (kept_one ys k i x (omega arith) (omega arith) at)

pub left_out : {A : Type 0} (xs : List A) (k i : ℕ) (x : A) → i < length xs → x ≡ get_or xs i x → take k xs ++ x ∷ drop (suc i) xs ≡ take k xs ++ drop i xs
left_out xs k i x low at = ap (λ zs. take k xs ++ zs) (behind xs i x low at)

nothing_left : {A : Type 0} (xs : List A) (i : ℕ) → length xs ≤ i → drop i xs ≡ []
nothing_left [] zero past = refl
nothing_left [] (suc i) past = refl
nothing_left (x ∷ xs) zero past = absurd (omega arith)
nothing_left (x ∷ xs) (suc i) past = nothing_left xs i (omega arith)

append_none : {A : Type 0} (xs : List A) → xs ++ [] ≡ xs
append_none [] = refl
append_none (x ∷ xs) = ap (λ l. x ∷ l) (append_none xs)

pub all_kept : {A : Type 0} (xs : List A) (k i : ℕ) → length xs ≤ i → take k xs ++ drop i xs ≡ take k xs
all_kept xs k i past = ap (λ zs. take k xs ++ zs) (nothing_left xs i past) ∙ append_none (take k xs)

-- A call of which no leg is up isn't there.
pub no_leg : (c : ℕ) (in_call : Option ℕ) (ks : List Call) → AllByRecursion (HasLeg in_call) ks → is_number c in_call ≡ false → session_of c ks ≡ None → call_of c ks ≡ None
no_leg c in_call ks legs outside none = by (call_of c ks) refl
  where
    leg : (xs : List Call) (k : Call) → AllByRecursion (HasLeg in_call) xs → call_of c xs ≡ Some k → HasLeg in_call k × (k.number ≡ c)
    leg [] k all found = cc
    leg (x ∷ xs) k all found = here (x.number == c) refl (leg xs k all.1)
      where
        some_call : (a b : Call) → Some a ≡ Some b → a ≡ b
        some_call a b e = cc

        here : (b : Bool) → (x.number == c) ≡ b → (call_of c xs ≡ Some k → HasLeg in_call k × (k.number ≡ c)) → HasLeg in_call k × (k.number ≡ c)
        here true e rest =
            let same : x ≡ k = some_call x k (ap (λ b. if b then Some x else call_of c xs) (sym e) ∙ found) in
            (subst (HasLeg in_call) same all.0, sym (ap (λ (z : Call). z.number) same) ∙ eqb-true x.number c e)
        here false e rest = rest (ap (λ b. if b then Some x else call_of c xs) (sym e) ∙ found)

    by : (o : Option Call) → call_of c ks ≡ o → call_of c ks ≡ None
    by None e = e
    by (Some k) e =
        let its = leg ks k legs e in
        let has : (is_number k.number in_call || is_some k.session) ≡ true = its.0 in
        let away : is_number k.number in_call ≡ false = ap (λ n. is_number n in_call) its.1 ∙ outside in
        let gone : k.session ≡ None = sym (ap session_in e) ∙ none in
        let wrong : false ≡ true = sym (ap (λ b. b || is_some k.session) away ∙ ap is_some gone) ∙ has in
        cc

-- no session was found
pub none_found : (r : Option (Bor Session)) (o : Option Point) → is_some r ≡ false → FoundStandsFor (option_copied r) o → o ≡ None
none_found None None e h = refl
none_found None (Some p) e h = absurd h
none_found (Some s) o e h = let wrong : true ≡ false = e in cc
