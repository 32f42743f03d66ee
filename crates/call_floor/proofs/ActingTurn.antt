-- A turn in the midst of a tick, of a vehicle that acts, or of one that sleeps.
use Rattle.std.proofs.Common.{◌≡◌, ℕ, zero, suc, Bool, true, false, List, [], ◌∷◌, ◌+◌, ◌<◌, ◌≤◌, ◌⊎◌, inl, inr, Some, None, IfSome, length, get_or, set, slice_get, if◌then◌else◌, refl, ap, sym, ◌∙◌, subst, arith, ne_eqb}
use Rattle.std.proofs.lemmas.List.{length-map}
use Rattle.std.proofs.lemmas.Option.{slice_get_read}
use Rattle.channel_sim.specs.Lag.{level, AreSameBut, StandsAt}
use Rattle.channel_sim.specs.Passes as its
use Rattle.channel_sim.specs.Tidy.{AreAbove}
use Rattle.channel_sim.specs.World.{World, Step}
use Rattle.channel_sim.specs.declared.world.World as kept_world
use Rattle.call_floor.specs.declared.entry.FloorEntry.{FloorEntry}
use Rattle.call_floor.specs.declared.seat.Seat as kept_seat
use Rattle.call_floor.specs.declared.listener.Tagged.{Tagged}
use Rattle.call_floor.specs.Floor.{Floor, FloorStep, Stand, own, stand_of, turn, turn_in, quiet_floor, entry_of}
use Rattle.call_floor.specs.Tagged.{FloorGrew, TaggedGrew}
use Rattle.call_floor.specs.inner.FloorAt.{SeatIs, SeatsAre, FloorIs, IsSeat, IsAmid, Amid, Sleeps, AreSameBelow, turn_if, passes_of, numbers_of}
use Rattle.call_floor.proofs.Apart.{Still}
use Rattle.call_floor.proofs.SeatTurn.{SeatHere, seat_here, turn_told_at, turn_kept, OthersStay, still_line, own_behind, turn_says, turn_hands}
use Rattle.call_floor.proofs.TurnWorlds.{any}

-- the vehicle at a place acts, or it sleeps
module _ (acts : ℕ → Bool) (tick floor : ℕ) (ahead : ℕ → ℕ) (clock : ℕ → ℕ → ℕ) (w : Floor) where
  pub is_acting : (x : kept_seat.Seat) (v : ℕ) → SeatHere (Amid acts tick floor ahead clock) w v x → x.next ≤ tick → acts v ≡ true
  is_acting x v here due = by (acts v) refl
    where
      by : (b : Bool) → acts v ≡ b → b ≡ true
      by true e = refl
      by false e = let late = here.stands.later e in absurd (omega (arith, late, due))

  next_of : (xs : List kept_seat.Seat) (ss : List Stand) (i v : ℕ) → SeatsAre (Amid acts tick floor ahead clock) w xs ss → get_or (numbers_of ss) i 0 ≡ v → IfSome (slice_get xs i) (λ x. tick < x.next) → (acts v ≡ false) ⊎ (v ≡ 0)
  next_of [] [] i v h place late = inr (sym place)
  next_of [] (s ∷ ss) i v h place late = absurd h
  next_of (x ∷ xs) [] i v h place late = absurd h
  next_of (x ∷ xs) (s ∷ ss) zero v h place late = by h.0 (acts v) refl
    where
      by : SeatIs (Amid acts tick floor ahead clock) w x s → (b : Bool) → acts v ≡ b → (acts v ≡ false) ⊎ (v ≡ 0)
      by one false e = inl e
      by one true e = let due = one.world.due (ap acts place ∙ e) in absurd (omega (arith, due, late))
  next_of (x ∷ xs) (s ∷ ss) (suc i) v h place late = next_of xs ss i v h.1 place late

  pub not_acting : (xs : List kept_seat.Seat) (i v : ℕ) → FloorIs (Amid acts tick floor ahead clock) xs w → IsSeat w i v → IfSome (slice_get xs i) (λ x. tick < x.next) → (acts v ≡ false) ⊎ (v ≡ 0)
  not_acting xs i v h is_v late = next_of xs w.stands i v h.seats is_v late

-- the vehicle at a place, which acts
pub record ActsHere (acts : ℕ → Bool) (tick floor : ℕ) (ahead : ℕ → ℕ) (clock : ℕ → ℕ → ℕ) (w : Floor) (v : ℕ) (x : kept_seat.Seat) : Type 0 where
  pub here : SeatHere (Amid acts tick floor ahead clock) w v x
  pub on : acts v ≡ true

pub acts_here : (acts : ℕ → Bool) (tick floor : ℕ) (ahead : ℕ → ℕ) (clock : ℕ → ℕ → ℕ) (xs : List kept_seat.Seat) (w : Floor) (v i : ℕ) (x : kept_seat.Seat) → FloorIs (Amid acts tick floor ahead clock) xs w → IsSeat w i v → i < length xs → x ≡ get_or xs i x → IfSome (slice_get xs i) (λ y. y.next ≤ tick) → ActsHere acts tick floor ahead clock w v x
acts_here acts tick floor ahead clock xs w v i x h is_v low at awake =
    let here : SeatHere (Amid acts tick floor ahead clock) w v x = seat_here (Amid acts tick floor ahead clock) xs w v i x h is_v low at in
    let due : x.next ≤ tick = subst (λ o. IfSome o (λ (y : kept_seat.Seat). y.next ≤ tick)) (slice_get_read xs (length xs) i x refl low at) awake in
    record { here = here; on = is_acting acts tick floor ahead clock w x v here due }

-- what others were passed up to
pub others_amid : (v : ℕ) (act : World → Step) → Still any act → (acts : ℕ → Bool) (tick floor : ℕ) (ahead after : ℕ → ℕ) (clock later : ℕ → ℕ → ℕ) → AreSameBut v ahead after → AreSameBelow v clock later → (w : Floor) → OthersStay v (Amid acts tick floor ahead clock) (Amid acts tick floor after later) w (turn v act w).floor
others_amid v act still acts tick floor ahead after clock later aheads clocks w x s other h =
    record {
      due = h.due;
      later = h.later;
      awake = λ on.
          subst (λ (z : World). StandsAt (after s.number) (level floor floor) (later s.number) x.world.channel z) (sym (still_line v act still w s))
          (subst (λ c. StandsAt (after s.number) (level floor floor) c x.world.channel (own w s)) (clocks s.number other)
          (subst (λ a. StandsAt a (level floor floor) (clock s.number) x.world.channel (own w s)) (aheads s.number other) (h.awake on)));
      asleep = λ off. subst (Sleeps floor x) (sym (still_line v act still w s)) (h.asleep off);
    }

-- A turn of one that sleeps, or of none: only the clocks move on, of which it has none.
module _ (v : ℕ) (acts : ℕ → Bool) (off : (acts v ≡ false) ⊎ (v ≡ 0)) (tick floor : ℕ) (ahead after : ℕ → ℕ) (clock later : ℕ → ℕ → ℕ) (aheads : AreSameBut v ahead after) (clocks : AreSameBelow v clock later) (w : Floor) where
  other : (n m : ℕ) → m < n → acts n ≡ true → n ≡ v → ⊥
  other n m up on e = by off
    where
      by : (acts v ≡ false) ⊎ (v ≡ 0) → ⊥
      by (inl off_it) = let same : acts n ≡ acts v = ap acts e in let wrong : true ≡ false = sym on ∙ same ∙ off_it in cc
      by (inr zero_v) = omega (arith, up, e, zero_v)

  over_one : (n : ℕ) (x : kept_seat.Seat) (s : Stand) → n < s.number → IsAmid acts tick floor ahead clock s.number x (own w s) → IsAmid acts tick floor after later s.number x (own w s)
  over_one n x s up h =
      record {
        due = h.due;
        later = h.later;
        awake = λ on.
            subst (λ c. StandsAt (after s.number) (level floor floor) c x.world.channel (own w s)) (clocks s.number (other s.number n up on))
            (subst (λ a. StandsAt a (level floor floor) (clock s.number) x.world.channel (own w s)) (aheads s.number (other s.number n up on)) (h.awake on));
        asleep = h.asleep;
      }

  over_all : (n : ℕ) (xs : List kept_seat.Seat) (ss : List Stand) → AreAbove n (numbers_of ss) → SeatsAre (Amid acts tick floor ahead clock) w xs ss → SeatsAre (Amid acts tick floor after later) w xs ss
  over_all n [] [] order h = tt
  over_all n [] (s ∷ ss) order h = absurd h
  over_all n (x ∷ xs) [] order h = absurd h
  over_all n (x ∷ xs) (s ∷ ss) order h =
      let one : SeatIs (Amid acts tick floor ahead clock) w x s = h.0 in
      (record { number = one.number; world = over_one n x s order.0 one.world }, over_all s.number xs ss order.1 h.1)

  pub passed_over : (xs : List kept_seat.Seat) → FloorIs (Amid acts tick floor ahead clock) xs w → FloorIs (Amid acts tick floor after later) xs w
  passed_over xs h = record { order = h.order; seats = over_all 0 xs w.stands h.order h.seats }

pub none_zero : (n : ℕ) (ss : List Stand) → AreAbove n (numbers_of ss) → stand_of 0 ss ≡ None
none_zero n [] order = refl
none_zero n (s ∷ ss) order =
    let up : n < s.number = order.0 in
    ap (λ b. if b then Some s else stand_of 0 ss) (ne_eqb s.number 0 (λ e. omega (arith, e))) ∙ none_zero s.number ss order.1

pub silent : (acts : ℕ → Bool) (v : ℕ) (act : World → Step) (w : Floor) → AreAbove 0 (numbers_of w.stands) → (acts v ≡ false) ⊎ (v ≡ 0) → turn_if acts v act w ≡ quiet_floor w
silent acts v act w order (inl off) = ap (λ b. if b then turn v act w else quiet_floor w) off
silent acts v act w order (inr e) = by (acts v)
  where
    none : turn v act w ≡ quiet_floor w
    none = ap (turn_in v act w) (ap (λ n. stand_of n w.stands) e ∙ none_zero 0 w.stands order)

    by : (b : Bool) → (if b then turn v act w else quiet_floor w) ≡ quiet_floor w
    by true = none
    by false = refl

pub taken : (acts : ℕ → Bool) (v : ℕ) (act : World → Step) (w : Floor) → acts v ≡ true → turn_if acts v act w ≡ turn v act w
taken acts v act w on = ap (λ b. if b then turn v act w else quiet_floor w) on

-- A turn of one that acts.
module _ (acts : ℕ → Bool) (tick floor : ℕ) (ahead after : ℕ → ℕ) (clock later : ℕ → ℕ → ℕ) (xs : List kept_seat.Seat) (w : Floor) (v i : ℕ) (x : kept_seat.Seat) (h : FloorIs (Amid acts tick floor ahead clock) xs w) (low : i < length xs) (at : x ≡ get_or xs i x) (here : SeatHere (Amid acts tick floor ahead clock) w v x) (on : acts v ≡ true) (act : World → Step) (still : Still any act) (aheads : AreSameBut v ahead after) (clocks : AreSameBelow v clock later) where
  pub acted : (new : kept_world.World) → StandsAt (after v) (level floor floor) (later v) new.channel (act (own w here.stand)).world → FloorIs (Amid acts tick floor after later) (set xs i (record x { world = new })) (turn_if acts v act w).floor
  acted new stands =
      subst (λ (s : FloorStep). FloorIs (Amid acts tick floor after later) (set xs i (record x { world = new })) s.floor) (sym (taken acts v act w on))
      (turn_kept (Amid acts tick floor ahead clock) (Amid acts tick floor after later) xs w v i x h low at here act (record x { world = new }) (act (own w here.stand)).world refl
      (own_behind v act still w here.stand here.found)
      (others_amid v act still acts tick floor ahead after clock later aheads clocks w)
      (record { due = here.stands.due; later = here.stands.later; awake = λ e. stands; asleep = λ e. let no : true ≡ false = sym on ∙ e in cc }))

-- what is told, and how often ends are passed
module _ (acts : ℕ → Bool) (tick floor : ℕ) (ahead : ℕ → ℕ) (clock : ℕ → ℕ → ℕ) (w : Floor) (v : ℕ) (x : kept_seat.Seat) (here : SeatHere (Amid acts tick floor ahead clock) w v x) (on : acts v ≡ true) (act : World → Step) where
  pub acted_told : {H : Type 0} (Told : H → H → List FloorEntry → Type 0) (to its new : Tagged H) → its ≡ record to { vehicle = x.number } → TaggedGrew Told its new (act (own w here.stand)).entries → FloorGrew Told to new (turn_if acts v act w).entries
  acted_told Told to its new spoke grew =
      subst (λ (s : FloorStep). FloorGrew Told to new s.entries) (sym (taken acts v act w on))
      (turn_told_at Told (Amid acts tick floor ahead clock) w v x here act to its new spoke grew)

  pub acted_passes : (before after : ℕ) → after ≤ before + its.passes_of (act (own w here.stand)) → after ≤ before + passes_of (turn_if acts v act w)
  acted_passes before after few =
      subst (λ (s : FloorStep). after ≤ before + passes_of s) (sym (taken acts v act w on))
      (let told = ap length (turn_says v act w here.stand here.found) in
      let handed = turn_hands v act w here.stand here.found in
      let same = length-map (act (own w here.stand)).entries (entry_of v) in
      omega (arith, few, told, handed, same))
