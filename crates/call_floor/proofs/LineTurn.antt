-- A line of one vehicle that is kept: it may draw a number, which each vehicle then has as the last.
use Rattle.std.proofs.Common.{◌≡◌, ℕ, zero, suc, List, [], ◌∷◌, ◌++◌, ◌+◌, ◌<◌, ◌≤◌, inl, inr, Option, Some, None, map, set, length, get_or, slice_get, option_map, refl, ap, sym, ◌∙◌, subst, arith}
use Rattle.std.specs.List.{AllByRecursion}
use Rattle.trace_model.specs.declared.event.Event.{Event}
use Rattle.trace_model.specs.declared.event.Event.TheVariants as event
use Rattle.channel_sim.specs.Lines.{passes_within, step}
use Rattle.channel_sim.specs.World.{World, Step}
use Rattle.channel_sim.specs.WorldStands.{WorldStandsFor}
use Rattle.channel_sim.specs.declared.world.World as kept_world
use Rattle.call_floor.specs.declared.floor.Floor as kept_floor
use Rattle.call_floor.specs.declared.seat.Seat as kept_seat
use Rattle.call_floor.specs.Floor.{Floor, Stand, stand_of, own, turn, turn_in}
use Rattle.call_floor.specs.FloorStands.{AreLive, IsOf}
use Rattle.call_floor.specs.inner.FloorAt.{Relation, Now, SeatIs, SeatsAre, FloorIs, FloorNow, IsSeat, numbers_of, seat_drawn}
use Rattle.call_floor.specs.inner.Subjects.{subject, IsTurn}
use Rattle.call_floor.proofs.EventApart.{TurnOwn, DrewFor, own_turn, step_moves, drew_length, turn_numbers}
use Rattle.call_floor.proofs.LineStill.{live_line, live_append}
use Rattle.call_floor.proofs.SeatTurn.{SeatHere, turn_kept}

raised : (a b : ℕ) → a ≤ b → (ns : List ℕ) → AllByRecursion (λ n. n ≤ a) ns → AllByRecursion (λ n. n ≤ b) ns
raised a b low [] h = tt
raised a b low (n ∷ ns) h = (omega (arith, h.0), raised a b low ns h.1)

abbrev drawn_to : ℕ → kept_world.World → kept_world.World
drawn_to n x = record x { channel = record (x.channel) { drawn = n } }

-- with a later last number
drawn_stands : (n : ℕ) (x : kept_world.World) (u : World) → WorldStandsFor x u → u.drawn ≤ n → WorldStandsFor (drawn_to n x) (record u { drawn = n })
drawn_stands n x u h low =
    record {
      tick = h.tick;
      drawn = refl;
      up_flow = h.up_flow;
      down_flow = h.down_flow;
      vehicle = h.vehicle;
      passed = h.passed;
      calls = h.calls;
      tidy = record { numbers = h.tidy.numbers; below = raised u.drawn n low _ h.tidy.below; legs = h.tidy.legs; frames = h.tidy.frames };
    }

-- each stands for its own world once it has this last number
abbrev Late : ℕ → Relation
Late n v x u = WorldStandsFor (drawn_to n x.world) u

seats_late : (n : ℕ) (w : Floor) (xs : List kept_seat.Seat) (ss : List Stand) → SeatsAre (Late n) w xs ss → SeatsAre Now w (map (seat_drawn n) xs) ss
seats_late n w [] [] h = tt
seats_late n w [] (s ∷ ss) h = absurd h
seats_late n w (x ∷ xs) [] h = absurd h
seats_late n w (x ∷ xs) (s ∷ ss) h = let one : SeatIs (Late n) w x s = h.0 in (record { number = one.number; world = one.world }, seats_late n w xs ss h.1)

-- the others' own worlds behind a turn: the last number may have changed
turn_line : (v : ℕ) (act : World → Step) (w : Floor) (s : Stand) → own (turn v act w).floor s ≡ record (own w s) { drawn = length (turn v act w).floor.drawn }
turn_line v act w s = by (stand_of v w.stands)
  where
    by : (o : Option Stand) → own (turn_in v act w o).floor s ≡ record (own w s) { drawn = length (turn_in v act w o).floor.drawn }
    by None = refl
    by (Some q) = refl

turn_tick : (v : ℕ) (act : World → Step) (w : Floor) → (turn v act w).floor.tick ≡ w.tick
turn_tick v act w = by (stand_of v w.stands)
  where
    by : (o : Option Stand) → (turn_in v act w o).floor.tick ≡ w.tick
    by None = refl
    by (Some s) = refl

-- a line of a vehicle or of a call passes no end
pub line_passes : (e : Event) → IsTurn (subject e) → (u : World) → passes_within u e ≡ 0
line_passes (event.Tick n) h u = absurd h
line_passes _ h u = refl

-- a place of a vehicle that is there
at_seat : (ns : List ℕ) (i v : ℕ) → get_or ns i 0 ≡ v → 0 < v → slice_get ns i ≡ Some v
at_seat [] i v e up = absurd (omega (arith, e))
at_seat (n ∷ ns) zero v e up = ap Some e
at_seat (n ∷ ns) (suc i) v e up = at_seat ns i v e up

module _ (e : Event) (turns : IsTurn (subject e)) (kept : kept_floor.Floor) (w : Floor) (v i : ℕ) (x : kept_seat.Seat) (h : FloorNow kept w) (low : i < length kept.seats.list.items) (at : x ≡ get_or kept.seats.list.items i x) (is_v : IsSeat w i v) (here : SeatHere Now w v x) where
  pub line_own : TurnOwn v w (turn v (λ u. step u e) w) (step (own w here.stand) e)
  line_own = own_turn v (λ u. step u e) (step_moves e turns) w (own w here.stand) (ap (option_map (own w)) here.found)

  -- before the line the vehicle's world has the floor's last number
  pub line_stands : (y : kept_world.World) → ((u : World) → WorldStandsFor x.world u → u.drawn ≤ kept.last → WorldStandsFor y (record u { drawn = kept.last })) → WorldStandsFor y (own w here.stand)
  line_stands y on =
      subst (λ n. WorldStandsFor y (record (own w here.stand) { drawn = n })) (sym h.last)
      (on (own w here.stand) here.stands (omega (arith, h.last)))

  -- no number was drawn
  pub line_none : (y : kept_world.World) (n : ℕ) (new : kept_floor.Floor) → WorldStandsFor y (step (own w here.stand) e).world → n ≡ (step (own w here.stand) e).world.drawn → n ≤ kept.last → new.tick ≡ kept.tick → new.last ≡ kept.last → new.drawn.items ≡ kept.drawn.items → new.live.items ≡ kept.live.items → new.seats.list.items ≡ set kept.seats.list.items i (record x { world = y }) → FloorNow new (turn v (λ u. step u e) w).floor
  line_none y n new stands count few tick last drawn live seats = by line_own.drew
    where
      by : DrewFor v w.drawn (turn v (λ u. step u e) w).floor.drawn (step (own w here.stand) e).world.drawn → FloorNow new (turn v (λ u. step u e) w).floor
      by (inr one) = absurd (omega (arith, one.1, count, few, h.last))
      by (inl none) =
          record {
            tick = turn_tick v (λ u. step u e) w ∙ h.tick ∙ sym tick;
            are =
                subst (λ xs. FloorIs Now xs (turn v (λ u. step u e) w).floor) (sym seats)
                (turn_kept Now Now kept.seats.list.items w v i x h.are low at here (λ u. step u e) (record x { world = y }) (step (own w here.stand) e).world refl line_own.its.there
                (λ z s other was. subst (λ (u : World). WorldStandsFor z.world u) (sym (turn_line v (λ u. step u e) w s)) (subst (λ ds. WorldStandsFor z.world (record (own w s) { drawn = length ds })) (sym none.0) was))
                stands);
            drawn = none.0 ∙ h.drawn ∙ sym drawn;
            last = ap length none.0 ∙ h.last ∙ sym last;
            live =
                subst (λ ls. AreLive (turn v (λ u. step u e) w).floor.stands 1 (turn v (λ u. step u e) w).floor.drawn ls) (sym live)
                (subst (λ ds. AreLive (turn v (λ u. step u e) w).floor.stands 1 ds kept.live.items) (sym none.0) (live_line v e turns w kept.live.items h.live));
          }

  -- a number was drawn, and then each vehicle has it
  pub line_drew : (y : kept_world.World) (n : ℕ) (new : kept_floor.Floor) → WorldStandsFor y (step (own w here.stand) e).world → n ≡ (step (own w here.stand) e).world.drawn → kept.last < n → new.tick ≡ kept.tick → new.last ≡ n → new.drawn.items ≡ kept.drawn.items ++ x.number ∷ [] → new.live.items ≡ kept.live.items ++ record { call = n; place = i } ∷ [] → new.seats.list.items ≡ map (seat_drawn n) (set kept.seats.list.items i (record x { world = y })) → FloorNow new (turn v (λ u. step u e) w).floor
  line_drew y n new stands count more tick last drawn live seats = by line_own.drew
    where
      by : DrewFor v w.drawn (turn v (λ u. step u e) w).floor.drawn (step (own w here.stand) e).world.drawn → FloorNow new (turn v (λ u. step u e) w).floor
      by (inl none) = absurd (omega (arith, none.1, count, more, h.last))
      by (inr one) =
          let sum : length (turn v (λ u. step u e) w).floor.drawn ≡ n = drew_length v (step (own w here.stand) e).world.drawn w.drawn (turn v (λ u. step u e) w).floor.drawn (inr one) ∙ sym count in
          let late : FloorIs (Late n) (set kept.seats.list.items i (record x { world = y })) (turn v (λ u. step u e) w).floor =
          turn_kept Now (Late n) kept.seats.list.items w v i x h.are low at here (λ u. step u e) (record x { world = y }) (step (own w here.stand) e).world refl line_own.its.there
          (λ z s other was. subst (λ (u : World). WorldStandsFor (drawn_to n z.world) u) (sym (turn_line v (λ u. step u e) w s ∙ ap (λ m. record (own w s) { drawn = m }) sum)) (drawn_stands n z.world (own w s) was (omega (arith, more, h.last))))
          (subst (λ (m : ℕ). WorldStandsFor (drawn_to m y) (step (own w here.stand) e).world) (sym (count ∙ stands.drawn)) stands) in
          let its : IsOf (turn v (λ u. step u e) w).floor.stands v (1 + length w.drawn) (record { call = n; place = i }) =
          record {
            call = omega (arith, count, one.1);
            place = ap (λ ns. slice_get ns i) (turn_numbers v (λ u. step u e) w) ∙ at_seat (numbers_of w.stands) i v is_v here.above;
          } in
          record {
            tick = turn_tick v (λ u. step u e) w ∙ h.tick ∙ sym tick;
            are = record { order = late.order; seats = subst (λ xs. SeatsAre Now (turn v (λ u. step u e) w).floor xs (turn v (λ u. step u e) w).floor.stands) (sym seats) (seats_late n (turn v (λ u. step u e) w).floor (set kept.seats.list.items i (record x { world = y })) (turn v (λ u. step u e) w).floor.stands late.seats) };
            drawn = one.0 ∙ ap (λ ds. ds ++ v ∷ []) h.drawn ∙ ap (λ a. kept.drawn.items ++ a ∷ []) here.same ∙ sym drawn;
            last = sum ∙ sym last;
            live =
                subst (λ ls. AreLive (turn v (λ u. step u e) w).floor.stands 1 (turn v (λ u. step u e) w).floor.drawn ls) (sym live)
                (subst (λ ds. AreLive (turn v (λ u. step u e) w).floor.stands 1 ds (kept.live.items ++ record { call = n; place = i } ∷ [])) (sym one.0)
                (live_append (turn v (λ u. step u e) w).floor.stands v (record { call = n; place = i }) 1 w.drawn kept.live.items (live_line v e turns w kept.live.items h.live) its));
          }
