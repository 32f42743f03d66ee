-- The frames of one call more are listed as due: the list, and the vehicle, which stays as it was.
use Rattle.std.proofs.Common.{◌≡◌, ℕ, zero, suc, Bool, true, false, List, [], ◌∷◌, ◌++◌, ◌+◌, ◌-◌, ◌<◌, ◌≤◌, ◌⊎◌, inl, inr, Some, Result, Ok, Err, OnOk, length, map, get_or, set, replicate, option_map, if◌then◌else◌, refl, ap, sym, ◌∙◌, subst, arith}
use Rattle.std.proofs.lemmas.List.{length-map}
use Rattle.channel_sim.specs.declared.calls.due.Due as kept_due
use Rattle.channel_sim.specs.declared.channel.Channel as kept_channel
use Rattle.channel_sim.specs.declared.world.World as kept_world
use Rattle.channel_sim.specs.Handing.{due_in_call, due_of, hands_way}
use Rattle.channel_sim.specs.Lag.{level, StandsAt}
use Rattle.channel_sim.specs.Quiet.{QuietFor}
use Rattle.channel_sim.specs.Tidy.{AreAbove}
use Rattle.channel_sim.specs.World.{World, Due}
use Rattle.call_floor.specs.declared.seat.Seat as kept_seat
use Rattle.call_floor.specs.Floor.{Floor, Stand, Turn, hand_turns, own, own_of, stand_of}
use Rattle.call_floor.specs.inner.FloorAt.{Amid, FloorIs, IsAmid, Rests, SeatIs, SeatsAre, Sleeps, call_turns, call_turns_in, listed_turns, numbers_of}
use Rattle.call_floor.proofs.ActingTurn.{none_zero}

-- The list looks at no more of a frame than what it is in the definitions.

abbrev turns_of : (ns : List ℕ) (up : Bool) (ps : List ℕ) (ds : List Due) → List Turn
turns_of ns up [] ds = []
turns_of ns up (p ∷ ps) [] = []
turns_of ns up (p ∷ ps) (d ∷ ds) = record { vehicle = get_or ns p 0; act = hands_way up d } ∷ turns_of ns up ps ds

listed_as : (ns : List ℕ) (up : Bool) (ps : List ℕ) (ds : List kept_due.Due) → listed_turns ns up ps ds ≡ turns_of ns up ps (map due_of ds)
listed_as ns up [] ds = refl
listed_as ns up (p ∷ ps) [] = refl
listed_as ns up (p ∷ ps) (d ∷ ds) =
    ap (λ ts. record { vehicle = get_or ns p 0; act = hands_way up (due_of d) } ∷ ts) (listed_as ns up ps ds)

turns_append : (ns : List ℕ) (up : Bool) (ps qs : List ℕ) (ds es : List Due) → length ps ≡ length ds → turns_of ns up (ps ++ qs) (ds ++ es) ≡ turns_of ns up ps ds ++ turns_of ns up qs es
turns_append ns up [] qs [] es same = refl
turns_append ns up [] qs (d ∷ ds) es same = absurd (omega (arith, same))
turns_append ns up (p ∷ ps) qs [] es same = absurd (omega (arith, same))
turns_append ns up (p ∷ ps) qs (d ∷ ds) es same =
    ap (λ l. record { vehicle = get_or ns p 0; act = hands_way up d } ∷ l) (turns_append ns up ps qs ds es (omega (arith, same)))

turns_one : (ns : List ℕ) (up : Bool) (p v : ℕ) (es : List Due) → get_or ns p 0 ≡ v → turns_of ns up (replicate (length es) p) es ≡ hand_turns v (hands_way up) es
turns_one ns up p v [] e = refl
turns_one ns up p v (d ∷ ds) e =
    ap (λ n. record { vehicle = n; act = hands_way up d } ∷ turns_of ns up (replicate (length ds) p) ds) e
    ∙ ap (λ l. record { vehicle = v; act = hands_way up d } ∷ l) (turns_one ns up p v ds e)

-- how many more there are
count_more : (a b : List kept_due.Due) (es : List Due) → map due_of b ≡ map due_of a ++ es → length b ≡ length a + length es
count_more a b es e =
    sym (length-map b due_of) ∙ ap length e ∙ sum (map due_of a) ∙ ap (λ n. n + length es) (length-map a due_of)
  where
    sum : (xs : List Due) → length (xs ++ es) ≡ length xs + length es
    sum [] = omega arith
    sum (x ∷ xs) = let rest = sum xs in omega (arith, rest)

call_acts : (acts : ℕ → Bool) (up : Bool) (v c : ℕ) (w : Floor) (u : World) → acts v ≡ true → own_of v w ≡ Some u → call_turns acts up v c w ≡ hand_turns v (hands_way up) (due_in_call up c u)
call_acts acts up v c w u on there =
    ap (λ b. if b then call_turns_in up v c (own_of v w) else []) on ∙ ap (call_turns_in up v c) there

pub call_silent : (acts : ℕ → Bool) (up : Bool) (v c : ℕ) (w : Floor) → AreAbove 0 (numbers_of w.stands) → (acts v ≡ false) ⊎ (v ≡ 0) → call_turns acts up v c w ≡ []
call_silent acts up v c w order (inl off) = ap (λ b. if b then call_turns_in up v c (own_of v w) else []) off
call_silent acts up v c w order (inr e) = by (acts v)
  where
    none : call_turns_in up v c (own_of v w) ≡ []
    none = ap (λ o. call_turns_in up v c (option_map (own w) o)) (ap (λ n. stand_of n w.stands) e ∙ none_zero 0 w.stands order)

    by : (b : Bool) → (if b then call_turns_in up v c (own_of v w) else []) ≡ []
    by true = none
    by false = refl

-- one call more, of a vehicle that acts
pub listed_more : (acts : ℕ → Bool) (up : Bool) (v c p : ℕ) (w : Floor) (u : World) (ps qs : List ℕ) (ds es : List kept_due.Due) → acts v ≡ true → own_of v w ≡ Some u → get_or (numbers_of w.stands) p 0 ≡ v → length ps ≡ length ds → map due_of es ≡ map due_of ds ++ due_in_call up c u → qs ≡ ps ++ replicate (length es - length ps) p → listed_turns (numbers_of w.stands) up qs es ≡ listed_turns (numbers_of w.stands) up ps ds ++ call_turns acts up v c w
listed_more acts up v c p w u ps qs ds es on there place pairs more owns =
    listed_as ns up qs es
    ∙ ap (turns_of ns up qs) more
    ∙ ap (λ l. turns_of ns up l (map due_of ds ++ due)) (owns ∙ ap (λ n. ps ++ replicate n p) count)
    ∙ turns_append ns up ps (replicate (length due) p) (map due_of ds) due (pairs ∙ sym (length-map ds due_of))
    ∙ ap (λ l. turns_of ns up ps (map due_of ds) ++ l) (turns_one ns up p v due place ∙ sym (call_acts acts up v c w u on there))
    ∙ ap (λ l. l ++ call_turns acts up v c w) (sym (listed_as ns up ps ds))
  where
    ns : List ℕ
    ns = numbers_of w.stands

    due : List Due
    due = due_in_call up c u

    count : length es - length ps ≡ length due
    count = let sum = count_more ds es due more in omega (arith, sum, pairs)

-- as many owners as frames
pub owned_more : (p : ℕ) (ps qs : List ℕ) (ds es : List kept_due.Due) (due : List Due) → length ps ≡ length ds → map due_of es ≡ map due_of ds ++ due → qs ≡ ps ++ replicate (length es - length ps) p → length qs ≡ length es
owned_more p ps qs ds es due pairs more owns = ap length owns ∙ grown ps (length es - length ps) ∙ total
  where
    copies : (n : ℕ) → length (replicate n p) ≡ n
    copies zero = refl
    copies (suc n) = ap suc (copies n)

    grown : (xs : List ℕ) (n : ℕ) → length (xs ++ replicate n p) ≡ length xs + n
    grown [] n = let same = copies n in omega (arith, same)
    grown (x ∷ xs) n = let rest = grown xs n in omega (arith, rest)

    total : length ps + (length es - length ps) ≡ length es
    total = let sum = count_more ds es due more in omega (arith, sum, pairs)

pub on_ok : {Done Fault : Type 0} {P Q : Type 0} (result : Result Done Fault) → (P → Q) → OnOk result P → OnOk result Q
on_ok (Ok d) f h = f h
on_ok (Err e) f h = tt

-- The vehicle is as it was, but for room.

module _ (acts : ℕ → Bool) (tick floor : ℕ) (ahead : ℕ → ℕ) (clock : ℕ → ℕ → ℕ) (w : Floor) where
  rests_same : (x : kept_seat.Seat) (new : kept_world.World) (u : World) → new.channel ≡ x.world.channel → Rests floor x u → Rests floor (record x { world = new }) u
  rests_same x new u e h =
      record {
        was = h.was;
        ticks = h.ticks;
        stands = subst (λ (k : kept_channel.Channel). StandsAt k.tick (level floor floor) (λ c. k.tick) k h.was) (sym e) h.stands;
        behind = h.behind;
        still = h.still;
        quiet = subst (λ (k : kept_channel.Channel). (n : ℕ) → k.tick + n < x.next → QuietFor n h.was) (sym e) h.quiet;
      }

  amid_same : (v : ℕ) (x : kept_seat.Seat) (new : kept_world.World) (u : World) → new.channel ≡ x.world.channel → IsAmid acts tick floor ahead clock v x u → IsAmid acts tick floor ahead clock v (record x { world = new }) u
  amid_same v x new u e h =
      record {
        due = h.due;
        later = h.later;
        awake = λ on. subst (λ (k : kept_channel.Channel). StandsAt (ahead v) (level floor floor) (clock v) k u) (sym e) (h.awake on);
        asleep = λ off.
            let s : Sleeps floor x u = h.asleep off in
            record { before = s.before; rests = rests_same x new s.before e s.rests; ticked = s.ticked };
      }

  seats_same : (xs : List kept_seat.Seat) (ss : List Stand) (i : ℕ) (x : kept_seat.Seat) (new : kept_world.World) → x ≡ get_or xs i x → i < length xs → new.channel ≡ x.world.channel → SeatsAre (Amid acts tick floor ahead clock) w xs ss → SeatsAre (Amid acts tick floor ahead clock) w (set xs i (record x { world = new })) ss
  seats_same [] ss i x new at low e h = absurd (omega arith)
  seats_same (y ∷ ys) [] i x new at low e h = absurd h
  seats_same (y ∷ ys) (s ∷ ss) zero x new at low e h =
      let one : SeatIs (Amid acts tick floor ahead clock) w x s = subst (λ (z : kept_seat.Seat). SeatIs (Amid acts tick floor ahead clock) w z s) (sym at) h.0 in
      (record { number = one.number; world = amid_same s.number x new (own w s) e one.world }, h.1)
  seats_same (y ∷ ys) (s ∷ ss) (suc i) x new at low e h = (h.0, seats_same ys ss i x new at (omega arith) e h.1)

  pub floor_same : (xs : List kept_seat.Seat) (i : ℕ) (x : kept_seat.Seat) (new : kept_world.World) → x ≡ get_or xs i x → i < length xs → new.channel ≡ x.world.channel → FloorIs (Amid acts tick floor ahead clock) xs w → FloorIs (Amid acts tick floor ahead clock) (set xs i (record x { world = new })) w
  floor_same xs i x new at low e h = record { order = h.order; seats = seats_same xs w.stands i x new at low e h.seats }

pub replicate_more : (n p : ℕ) → replicate (suc n) p ≡ replicate n p ++ p ∷ []
replicate_more zero p = refl
replicate_more (suc n) p = ap (λ l. p ∷ l) (replicate_more n p)

-- where the loop over those that are missing ends
pub replicate_end : (k from count len : ℕ) → count ≤ k → (k ≡ from) ⊎ (k ≤ count) → from ≡ len → k - from ≡ count - len
replicate_end k from count len past (inl e) same = omega (arith, past, e, same)
replicate_end k from count len past (inr e) same = omega (arith, past, e, same)
