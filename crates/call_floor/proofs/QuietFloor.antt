-- Ticks that are quiet for each vehicle alone are quiet on the floor.
use Rattle.std.proofs.Common.{◌≡◌, ℕ, zero, suc, Bool, true, false, List, [], ◌∷◌, ◌++◌, ◌==◌, ◌+◌, Option, Some, None, is_some, map, option_map, if◌then◌else◌, refl, ap, sym, ◌∙◌, subst, eq-eqb}
use Rattle.std.specs.List.{AllByRecursion}
use Rattle.trace_model.specs.declared.entry.Entry.{Entry}
use Rattle.channel_sim.specs.Tidy.{AreAbove}
use Rattle.channel_sim.specs.World.{World, Step, hands_up, hands_down}
use Rattle.channel_sim.specs.World as world
use Rattle.call_floor.specs.declared.entry.FloorEntry.{FloorEntry}
use Rattle.call_floor.specs.Floor.{own_of, Floor, FloorStep, Stand, Turn, stand_of, own, entry_of, turn_in, turn, plays, units, unit, vehicles_pass, sessions_pass, flows_up, vehicle_turns, session_turns, due_turns, calls_of}
use Rattle.call_floor.specs.inner.Placed.{InPlace}
use Rattle.call_floor.specs.Parts.{own_entries}
use Rattle.call_floor.proofs.Apart.{plays_numbers}
use Rattle.call_floor.proofs.EventApart.{turn_numbers}
use Rattle.call_floor.proofs.UnitApart.{UnitsOwn, units_own, unit_numbers}

-- whether a number is among these
abbrev pub is_in : ℕ → List ℕ → Bool
is_in v [] = false
is_in v (n ∷ ns) = if n == v then true else is_in v ns

abbrev numbers : List Stand → List ℕ
numbers ss = map (λ (s : Stand). s.number) ss

pub is_there : (v : ℕ) (ss : List Stand) → is_some (stand_of v ss) ≡ is_in v (numbers ss)
is_there v [] = refl
is_there v (s ∷ ss) = by (s.number == v) (is_there v ss)
  where
    by : (b : Bool) → is_some (stand_of v ss) ≡ is_in v (numbers ss) → is_some (if b then Some s else stand_of v ss) ≡ (if b then true else is_in v (numbers ss))
    by true further = refl
    by false further = further

-- each entry is of one of these vehicles
abbrev pub AreOf : List ℕ → List FloorEntry → Type 0
AreOf ns es = AllByRecursion (λ (x : FloorEntry). is_in x.vehicle ns ≡ true) es

of_both : (ns : List ℕ) (xs ys : List FloorEntry) → AreOf ns xs → AreOf ns ys → AreOf ns (xs ++ ys)
of_both ns [] ys a b = b
of_both ns (x ∷ xs) ys a b = (a.0, of_both ns xs ys a.1 b)

turn_of_it : (a : ℕ) (act : World → Step) (w : Floor) → AreOf (numbers w.stands) (turn a act w).entries
turn_of_it a act w = by (stand_of a w.stands) refl
  where
    all : (es : List Entry) → is_in a (numbers w.stands) ≡ true → AreOf (numbers w.stands) (map (entry_of a) es)
    all [] h = tt
    all (e ∷ es) h = (h, all es h)

    by : (o : Option Stand) → stand_of a w.stands ≡ o → AreOf (numbers w.stands) (turn_in a act w o).entries
    by None e = tt
    by (Some s) e = all (act (own w s)).entries (sym (is_there a w.stands) ∙ ap is_some e)

plays_of : (ts : List Turn) (w : Floor) → AreOf (numbers w.stands) (plays ts w).entries
plays_of [] w = tt
plays_of (t ∷ ts) w =
    let x : FloorStep = turn t.vehicle t.act w in
    of_both (numbers w.stands) x.entries (plays ts x.floor).entries (turn_of_it t.vehicle t.act w)
    (subst (λ ns. AreOf ns (plays ts x.floor).entries) (turn_numbers t.vehicle t.act w) (plays_of ts x.floor))

pub unit_of : (w : Floor) → AreOf (numbers w.stands) (unit w).entries
unit_of w =
    let w1 : Floor = record w { tick = w.tick + 1 } in
    let a : FloorStep = vehicles_pass w1 in
    let b : FloorStep = sessions_pass a.floor in
    let c : FloorStep = flows_up b.floor in
    let ta : List Turn = vehicle_turns w1.stands in
    let tb : List Turn = session_turns (calls_of a.floor) in
    let tc : List Turn = due_turns hands_up (λ k. k.up) b.floor.up_flow b.floor.tick (calls_of b.floor) in
    let td : List Turn = due_turns hands_down (λ k. k.down) c.floor.down_flow c.floor.tick (calls_of c.floor) in
    let na : numbers a.floor.stands ≡ numbers w.stands = plays_numbers ta w1 in
    let nb : numbers b.floor.stands ≡ numbers w.stands = plays_numbers tb a.floor ∙ na in
    let nc : numbers c.floor.stands ≡ numbers w.stands = plays_numbers tc b.floor ∙ nb in
    of_both (numbers w.stands) ((a.entries ++ b.entries) ++ c.entries) (plays td c.floor).entries
    (of_both (numbers w.stands) (a.entries ++ b.entries) c.entries
    (of_both (numbers w.stands) a.entries b.entries (plays_of ta w1) (subst (λ ns. AreOf ns b.entries) na (plays_of tb a.floor)))
    (subst (λ ns. AreOf ns c.entries) nb (plays_of tc b.floor)))
    (subst (λ ns. AreOf ns (plays td c.floor).entries) nc (plays_of td c.floor))

units_of : (n : ℕ) (w : Floor) → AreOf (numbers w.stands) (units n w).entries
units_of zero w = tt
units_of (suc n) w =
    of_both (numbers w.stands) (unit w).entries (units n (unit w).floor).entries (unit_of w)
    (subst (λ ns. AreOf ns (units n (unit w).floor).entries) (unit_numbers w) (units_of n (unit w).floor))

pub quiet_units : (n : ℕ) (w : Floor) → AreAbove 0 (numbers w.stands) → ((v : ℕ) (u : World) → own_of v w ≡ Some u → InPlace v w.drawn u × ((world.units n u).entries ≡ [])) → (units n w).entries ≡ []
quiet_units n w order quiet = none (units n w).entries refl (units_of n w)
  where
    there : (v : ℕ) (o : Option Stand) → is_some o ≡ true → (u : World) × (option_map (own w) o ≡ Some u)
    there v None h = cc
    there v (Some s) h = (own w s, refl)

    none : (es : List FloorEntry) → (units n w).entries ≡ es → AreOf (numbers w.stands) es → es ≡ []
    none [] e h = refl
    none (x ∷ xs) e h =
        let found = there x.vehicle (stand_of x.vehicle w.stands) (is_there x.vehicle w.stands ∙ h.0) in
        let still = quiet x.vehicle found.0 found.1 in
        let its : UnitsOwn x.vehicle n w found.0 = units_own x.vehicle n w found.0 order found.1 still.0 in
        let first : own_entries x.vehicle (x ∷ xs) ≡ x.entry ∷ own_entries x.vehicle xs =
        ap (λ b. if b then x.entry ∷ own_entries x.vehicle xs else own_entries x.vehicle xs) (eq-eqb x.vehicle x.vehicle refl) in
        let told : own_entries x.vehicle (x ∷ xs) ≡ [] = ap (own_entries x.vehicle) (sym e) ∙ its.its.told ∙ still.1 in
        cc
