-- The sessions of calls that are gone have no turn: a list of calls drawn, in order, that has all with a leg up, and
-- others, serves as the list of these alone.
use Rattle.std.proofs.Common.{◌≡◌, ℕ, Bool, true, false, List, [], ◌∷◌, ◌++◌, ◌==◌, ◌+◌, ◌⊎◌, inl, inr, Option, Some, None, map, length, option_map, if◌then◌else◌, refl, ap, sym, ◌∙◌, subst, zero-add, ne_eqb}
use Rattle.std.specs.List.{AllByRecursion}
use Rattle.psap_machine.specs.PointRows as point
use Rattle.channel_sim.specs.World.{Call, World, Step, quiet_step, call_of, session_in, session_acts, settled, session_passes}
use Rattle.call_floor.specs.Floor.{own_of, Floor, FloorStep, Stand, Turn, Placed, stand_of, own, put, turn, turn_in, plays, quiet_floor, and_then, session_turns}
use Rattle.call_floor.proofs.Apart.{none_drawn}
use Rattle.call_floor.proofs.StillLemmas.{session_passes_still}
use Rattle.call_floor.proofs.TurnWorlds.{comes_of}

-- A call by its number, and the vehicle for which it was drawn.
pub record Named : Type 0 where
  pub vehicle : ℕ
  pub number : ℕ

abbrev pub named_turns : List Named → List Turn
named_turns [] = []
named_turns (x ∷ xs) = record { vehicle = x.vehicle; act = session_passes x.number } ∷ named_turns xs

abbrev pub names : List Placed → List Named
names [] = []
names (k ∷ ks) = record { vehicle = k.vehicle; number = k.call.number } ∷ names ks

pub same_turns : (ks : List Placed) → named_turns (names ks) ≡ session_turns ks
same_turns [] = refl
same_turns (k ∷ ks) = ap (λ l. record { vehicle = k.vehicle; act = session_passes k.call.number } ∷ l) (same_turns ks)

abbrev pub Other : ℕ → ℕ → Type 0
Other c n = n ≡ c → ⊥

-- no call of this number is in the vehicle's own world, if that is there
abbrev pub IsGone : Named → Floor → Type 0
IsGone x w = (u : World) → own_of x.vehicle w ≡ Some u → AllByRecursion (λ (k : Call). k.number ≡ x.number → ⊥) u.calls

-- the first list is the second one, with calls between that are gone
abbrev pub IsMore : Floor → List Named → List Named → Type 0
IsMore w [] [] = Unit {0}
IsMore w [] (y ∷ ys) = ⊥
IsMore w (x ∷ xs) [] = IsGone x w × IsMore w xs []
IsMore w (x ∷ xs) (y ∷ ys) = (IsGone x w × IsMore w xs (y ∷ ys)) ⊎ ((x ≡ y) × IsMore w xs ys)

pub no_call : (c : ℕ) (ks : List Call) → AllByRecursion (λ (k : Call). k.number ≡ c → ⊥) ks → call_of c ks ≡ None
no_call c [] h = refl
no_call c (k ∷ ks) h = ap (λ b. if b then Some k else call_of c ks) (ne_eqb k.number c h.0) ∙ no_call c ks h.1

gone_quiet : (c : ℕ) (u : World) → AllByRecursion (λ (k : Call). k.number ≡ c → ⊥) u.calls → session_passes c u ≡ quiet_step u
gone_quiet c u h = ap (λ o. settled (session_acts c u point.unit_row o)) (ap session_in (no_call c u.calls h))

put_self : (v : ℕ) (w : Floor) (ss : List Stand) (s : Stand) → stand_of v ss ≡ Some s → put v (own w s) ss ≡ ss
put_self v w [] s h = refl
put_self v w (x ∷ xs) s h = by (x.number == v) refl (put_self v w xs s)
  where
    some_stand : (a b : Stand) → Some a ≡ Some b → a ≡ b
    some_stand a b e = cc

    by : (b : Bool) → (x.number == v) ≡ b → (stand_of v xs ≡ Some s → put v (own w s) xs ≡ xs) → (if b then record x { vehicle = s.vehicle; calls = s.calls } ∷ xs else x ∷ put v (own w s) xs) ≡ x ∷ xs
    by true e further =
        let here : x ≡ s = some_stand x s (ap (λ b. if b then Some x else stand_of v xs) (sym e) ∙ h) in
        ap (λ (z : Stand). record x { vehicle = z.vehicle; calls = z.calls } ∷ xs) (sym here)
    by false e further = ap (λ l. x ∷ l) (further (ap (λ b. if b then Some x else stand_of v xs) (sym e) ∙ h))

turn_gone : (x : Named) (w : Floor) → IsGone x w → turn x.vehicle (session_passes x.number) w ≡ quiet_floor w
turn_gone x w gone = by (stand_of x.vehicle w.stands) refl gone
  where
    by : (o : Option Stand) → stand_of x.vehicle w.stands ≡ o → ((u : World) → option_map (own w) o ≡ Some u → AllByRecursion (λ (k : Call). k.number ≡ x.number → ⊥) u.calls) → turn_in x.vehicle (session_passes x.number) w o ≡ quiet_floor w
    by None e none = refl
    by (Some s) e none =
        ap (λ (t : Step). record { entries = map (Rattle.call_floor.specs.Floor.entry_of x.vehicle) t.entries; floor = record w { stands = put x.vehicle t.world w.stands; drawn = Rattle.call_floor.specs.Floor.drawn_by x.vehicle t.world.drawn w.drawn }; handed = t.handed }) (gone_quiet x.number (own w s) (none (own w s) refl))
        ∙ ap (λ ss. record { entries = []; floor = record w { stands = ss; drawn = Rattle.call_floor.specs.Floor.drawn_by x.vehicle (length w.drawn) w.drawn }; handed = 0 }) (put_self x.vehicle w w.stands s e)
        ∙ ap (λ ds. record { entries = []; floor = record w { drawn = ds }; handed = 0 }) (none_drawn x.vehicle (length w.drawn) w.drawn refl)

-- what is gone stays gone
gone_stays : (x : Named) (a c : ℕ) (w : Floor) → IsGone x w → IsGone x (turn a (session_passes c) w).floor
gone_stays x a c w gone later h =
    let was = comes_of x.vehicle a (session_passes c) (session_passes_still (λ n. Unit {0}) c) w later h in
    by was.0 (gone was.0 was.1) was.2
  where
    by : (u : World) → AllByRecursion (λ (k : Call). k.number ≡ x.number → ⊥) u.calls → ((a ≡ x.vehicle) × (later ≡ (session_passes c u).world)) ⊎ (((a == x.vehicle) ≡ false) × (later ≡ u)) → AllByRecursion (λ (k : Call). k.number ≡ x.number → ⊥) later.calls
    by u none (inl e) =
        subst (λ (z : World). AllByRecursion (λ (k : Call). k.number ≡ x.number → ⊥) z.calls) (sym e.1)
        ((session_passes_still (Other x.number) c u).numbers none)
    by u none (inr e) = subst (λ (z : World). AllByRecursion (λ (k : Call). k.number ≡ x.number → ⊥) z.calls) (sym e.1) none

more_stays : (xs ys : List Named) (a c : ℕ) (w : Floor) → IsMore w xs ys → IsMore (turn a (session_passes c) w).floor xs ys
more_stays [] [] a c w h = tt
more_stays [] (y ∷ ys) a c w h = h
more_stays (x ∷ xs) [] a c w h = (gone_stays x a c w h.0, more_stays xs [] a c w h.1)
more_stays (x ∷ xs) (y ∷ ys) a c w (inl h) = inl (gone_stays x a c w h.0, more_stays xs (y ∷ ys) a c w h.1)
more_stays (x ∷ xs) (y ∷ ys) a c w (inr h) = inr (h.0, more_stays xs ys a c w h.1)

quiet_before : (w : Floor) (f : Floor → FloorStep) → and_then (quiet_floor w) f ≡ f w
quiet_before w f = ap (λ n. record { entries = (f w).entries; floor = (f w).floor; handed = n }) (zero-add (f w).handed)

left_out : (x : Named) (xs : List Named) (w : Floor) → IsGone x w → plays (named_turns (x ∷ xs)) w ≡ plays (named_turns xs) w
left_out x xs w gone =
    ap (λ s. and_then s (plays (named_turns xs))) (turn_gone x w gone) ∙ quiet_before w (plays (named_turns xs))

abbrev followed_by : FloorStep → FloorStep → FloorStep
followed_by s t = record { entries = s.entries ++ t.entries; floor = t.floor; handed = s.handed + t.handed }

pub gone_left_out : (xs ys : List Named) (w : Floor) → IsMore w xs ys → plays (named_turns xs) w ≡ plays (named_turns ys) w
gone_left_out [] [] w h = refl
gone_left_out [] (y ∷ ys) w h = absurd h
gone_left_out (x ∷ xs) [] w h = left_out x xs w h.0 ∙ gone_left_out xs [] w h.1
gone_left_out (x ∷ xs) (y ∷ ys) w (inl h) = left_out x xs w h.0 ∙ gone_left_out xs (y ∷ ys) w h.1
gone_left_out (x ∷ xs) (y ∷ ys) w (inr h) =
    let one : FloorStep = turn x.vehicle (session_passes x.number) w in
    ap (followed_by one) (gone_left_out xs ys one.floor (more_stays xs ys x.vehicle x.number w h.1))
    ∙ ap (λ (z : Named). plays (named_turns (z ∷ ys)) w) h.0
