-- Turns one behind the other.
use Rattle.std.proofs.Common.{◌≡◌, ℕ, zero, suc, false, List, [], ◌∷◌, ◌++◌, ◌||◌, ◌+◌, ◌<◌, ◌≤◌, map, length, get_or, take, drop, if◌then◌else◌, refl, ap, sym, ◌∙◌, arith, append_assoc, append-nil, add_assoc, zero-add, add-zero, eq-eqb, ne_eqb}
use Rattle.channel_sim.specs.Lag.{AreSameBut}
use Rattle.channel_sim.specs.Lag.{waits, clock_of}
use Rattle.channel_sim.specs.Tidy.{AreAbove}
use Rattle.channel_sim.specs.World.{vehicle_passes}
use Rattle.call_floor.specs.Floor.{Floor, FloorStep, Stand, Turn, turn, plays, quiet_floor, and_then, vehicle_turns}

abbrev pub numbers : List Stand → List ℕ
numbers ss = map (λ (s : Stand). s.number) ss

abbrev pub followed_by : FloorStep → FloorStep → FloorStep
followed_by s t = record { entries = s.entries ++ t.entries; floor = t.floor; handed = s.handed + t.handed }

quiet_behind : (s : FloorStep) → and_then s quiet_floor ≡ s
quiet_behind s =
    ap (λ es. record { entries = es; floor = s.floor; handed = s.handed + 0 }) (append-nil s.entries)
    ∙ ap (λ n. record { entries = s.entries; floor = s.floor; handed = n }) (add-zero s.handed)

quiet_before : (w : Floor) (f : Floor → FloorStep) → and_then (quiet_floor w) f ≡ f w
quiet_before w f = ap (λ n. record { entries = (f w).entries; floor = (f w).floor; handed = n }) (zero-add (f w).handed)

then_assoc : (s t u : FloorStep) → followed_by (followed_by s t) u ≡ followed_by s (followed_by t u)
then_assoc s t u =
    ap (λ es. record { entries = es; floor = u.floor; handed = (s.handed + t.handed) + u.handed }) (append_assoc s.entries t.entries u.entries)
    ∙ ap (λ n. record { entries = s.entries ++ (t.entries ++ u.entries); floor = u.floor; handed = n }) (add_assoc s.handed t.handed u.handed)

-- one vehicle more
pub vehicles_more : (ss : List Stand) (i : ℕ) (w : Floor) → i < length ss → plays (take (suc i) (vehicle_turns ss)) w ≡ and_then (plays (take i (vehicle_turns ss)) w) (turn (get_or (numbers ss) i 0) vehicle_passes)
vehicles_more [] i w low = absurd (omega arith)
vehicles_more (s ∷ ss) zero w low =
    quiet_behind (turn s.number vehicle_passes w) ∙ sym (quiet_before w (turn s.number vehicle_passes))
vehicles_more (s ∷ ss) (suc i) w low =
    let one : FloorStep = turn s.number vehicle_passes w in
    ap (followed_by one) (vehicles_more ss i one.floor (omega arith))
    ∙ sym (then_assoc one (plays (take i (vehicle_turns ss)) one.floor) (turn (get_or (numbers ss) i 0) vehicle_passes (plays (take i (vehicle_turns ss)) one.floor).floor))

pub vehicles_all : (ss : List Stand) (i : ℕ) → length ss ≤ i → take i (vehicle_turns ss) ≡ vehicle_turns ss
vehicles_all [] zero low = refl
vehicles_all [] (suc i) low = refl
vehicles_all (s ∷ ss) zero low = absurd (omega arith)
vehicles_all (s ∷ ss) (suc i) low = ap (λ l. record { vehicle = s.number; act = vehicle_passes } ∷ l) (vehicles_all ss i (omega arith))

-- The clocks of those that were not passed yet.

pub apart_above : (v n : ℕ) (ns : List ℕ) → v ≤ n → AreAbove n ns → waits v ns ≡ false
apart_above v n [] low h = refl
apart_above v n (m ∷ ms) low h =
    let up : n < m = h.0 in
    ap (λ b. b || waits v ms) (ne_eqb m v (λ e. omega (arith, e))) ∙ apart_above v m ms (omega arith) h.1

pub clock_here : (before n i : ℕ) (ns : List ℕ) → AreAbove n ns → i < length ns → clock_of before (drop i ns) (get_or ns i 0) ≡ before
clock_here before n i [] h low = absurd (omega arith)
clock_here before n zero (m ∷ ms) h low = ap (λ b. if b || waits m ms then before else before + 1) (eq-eqb m m refl)
clock_here before n (suc i) (m ∷ ms) h low = clock_here before m i ms h.1 (omega arith)

pub clock_passed : (before n i : ℕ) (ns : List ℕ) → AreAbove n ns → i < length ns → clock_of before (drop (suc i) ns) (get_or ns i 0) ≡ before + 1
clock_passed before n i [] h low = absurd (omega arith)
clock_passed before n zero (m ∷ ms) h low = ap (λ b. if b then before else before + 1) (apart_above m m ms (omega arith) h.1)
clock_passed before n (suc i) (m ∷ ms) h low = clock_passed before m i ms h.1 (omega arith)

pub clock_others : (before n i : ℕ) (ns : List ℕ) → AreAbove n ns → i < length ns → AreSameBut (get_or ns i 0) (clock_of before (drop i ns)) (clock_of before (drop (suc i) ns))
clock_others before n i [] h low = absurd (omega arith)
clock_others before n zero (m ∷ ms) h low = λ a other. ap (λ b. if b || waits a ms then before else before + 1) (ne_eqb m a (λ e. other (sym e)))
clock_others before n (suc i) (m ∷ ms) h low = clock_others before m i ms h.1 (omega arith)

pub drop_past : (i : ℕ) (ns : List ℕ) → length ns ≤ i → drop i ns ≡ []
drop_past zero [] low = refl
drop_past (suc i) [] low = refl
drop_past zero (n ∷ ns) low = absurd (omega arith)
drop_past (suc i) (n ∷ ns) low = drop_past i ns (omega arith)

pub plays_split : (ts : List Turn) (k : ℕ) (w : Floor) → plays ts w ≡ and_then (plays (take k ts) w) (plays (drop k ts))
plays_split [] zero w = sym (quiet_before w quiet_floor)
plays_split [] (suc k) w = sym (quiet_before w quiet_floor)
plays_split (t ∷ ts) zero w = sym (quiet_before w (plays (t ∷ ts)))
plays_split (t ∷ ts) (suc k) w =
    let one : FloorStep = turn t.vehicle t.act w in
    ap (followed_by one) (plays_split ts k one.floor)
    ∙ sym (then_assoc one (plays (take k ts) one.floor) (plays (drop k ts) (plays (take k ts) one.floor).floor))
