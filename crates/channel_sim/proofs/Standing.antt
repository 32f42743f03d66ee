-- Between lines: what is kept stands for the world, with no end that lags.
use Rattle.std.proofs.Common.{◌≡◌, ℕ, ◌-◌, ◌≤◌, ◌==◌, if◌then◌else◌, Bool, true, false, inl, inr, get_or, Option, Some, None, List, [], ◌∷◌, refl, sym, ◌∙◌, subst, arith}
use Rattle.psap_machine.specs.declared.session.Session.{Session}
use Rattle.psap_machine.specs.Point.{Point}
use Rattle.channel_sim.specs.declared.calls.call.Call as kept_call
use Rattle.channel_sim.specs.declared.channel.Channel as kept_channel
use Rattle.channel_sim.specs.declared.happening.Happening.TheVariants as happening
use Rattle.channel_sim.specs.World.{Call, World, quiet_step, call_of, session_in, session_of}
use Rattle.channel_sim.specs.inner.Happenings.{happens}
use Rattle.channel_sim.specs.inner.Places.{place_of}
use Rattle.channel_sim.specs.Tidy.{numbers_of}
use Rattle.channel_sim.proofs.PlaceLemmas.{next_place-some, place_first, place_behind}
use Rattle.channel_sim.specs.WorldStands.{FoundStandsFor, CallsStandFor, ChannelStandsFor}
use Rattle.channel_sim.specs.Lag.{SeatLags, CallsLag, IsFrom, StandsNow, level}
use Rattle.channel_sim.proofs.SeatLemmas.{lag_none, stands_now}
use Rattle.channel_sim.proofs.VehicleLemmas.{vehicle_lag_none, vehicle_stands_now}

seat_now : (n : ℕ) (a : Option Session) (b : Option Point) → n ≡ 0 → FoundStandsFor a b → SeatLags n a b
seat_now n None None e h = tt
seat_now n None (Some p) e h = absurd h
seat_now n (Some s) None e h = absurd h
seat_now n (Some s) (Some p) e h = stands_now n s p e h.0 h.1

seat_found : (n : ℕ) (a : Option Session) (b : Option Point) → n ≡ 0 → SeatLags n a b → FoundStandsFor a b
seat_found n None None e h = tt
seat_found n None (Some p) e h = absurd h
seat_found n (Some s) None e h = absurd h
seat_found n (Some s) (Some p) e h = (lag_none n s p e h, h.live)

calls_now : (settled tick : ℕ) (xs : List kept_call.Call) (ks : List Call) → CallsStandFor tick xs ks → CallsLag (level settled tick) (λ c. tick) xs ks
calls_now settled tick [] [] h = tt
calls_now settled tick [] (k ∷ ks) h = absurd h
calls_now settled tick (x ∷ xs) [] h = absurd h
calls_now settled tick (x ∷ xs) (k ∷ ks) h =
    let passed : x.passed ≡ tick = h.0.passed in (
      record {
        number = h.0.number;
        up = h.0.up;
        down = h.0.down;
        passed = omega arith;
        from = inl (omega arith);
        session = seat_now (tick - x.passed) x.session k.session (omega arith) h.0.session;
      },
      calls_now settled tick xs ks h.1,
    )

exact_from : (settled tick : ℕ) (x : kept_call.Call) → tick ≤ settled → IsFrom (level settled tick) x → tick ≤ x.passed
exact_from settled tick x exact (inl low) = low
exact_from settled tick x exact (inr low) = let from : settled ≤ x.passed = low.0 in omega arith

calls_found : (settled tick : ℕ) (xs : List kept_call.Call) (ks : List Call) → tick ≤ settled → CallsLag (level settled tick) (λ c. tick) xs ks → CallsStandFor tick xs ks
calls_found settled tick [] [] exact h = tt
calls_found settled tick [] (k ∷ ks) exact h = absurd h
calls_found settled tick (x ∷ xs) [] exact h = absurd h
calls_found settled tick (x ∷ xs) (k ∷ ks) exact h =
    let low : tick ≤ x.passed = exact_from settled tick x exact h.0.from in
    let high : x.passed ≤ tick = h.0.passed in (
      record {
        number = h.0.number;
        up = h.0.up;
        down = h.0.down;
        session = seat_found (tick - x.passed) x.session k.session (omega arith) h.0.session;
        passed = omega arith;
      },
      calls_found settled tick xs ks exact h.1,
    )

pub now_stands : (settled : ℕ) (kept : kept_channel.Channel) (w : World) → ChannelStandsFor kept w → StandsNow settled kept w
now_stands settled kept w h =
    let passed : kept.passed ≡ kept.tick = h.passed in
    record {
      tick = h.tick;
      drawn = h.drawn;
      up_flow = h.up_flow;
      down_flow = h.down_flow;
      passed = omega arith;
      from = omega arith;
      vehicle = vehicle_stands_now (kept.tick - kept.passed) kept.vehicle w.vehicle (omega arith) h.vehicle;
      calls = calls_now settled kept.tick kept.calls w.calls h.calls;
      tidy = h.tidy;
    }

pub stands_then : (settled : ℕ) (kept : kept_channel.Channel) (w : World) → kept.tick ≤ settled → StandsNow settled kept w → ChannelStandsFor kept w
stands_then settled kept w exact s =
    let low : kept.tick ≤ kept.passed = s.from in
    let high : kept.passed ≤ kept.tick = s.passed in
    record {
      tick = s.tick;
      drawn = s.drawn;
      up_flow = s.up_flow;
      down_flow = s.down_flow;
      vehicle = vehicle_lag_none (kept.tick - kept.passed) kept.vehicle w.vehicle (omega arith) s.vehicle;
      passed = omega arith;
      calls = calls_found settled kept.tick kept.calls w.calls exact s.calls;
      tidy = s.tidy;
    }

-- a flow is set
pub flow_stands : (settled : ℕ) (b : Bool) (d : ℕ) (kept moved : kept_channel.Channel) (w : World) → StandsNow settled kept w → moved ≡ (if b then record kept { up_flow = d } else record kept { down_flow = d }) → ((happens (happening.Flow b d) w).entries ≡ []) × StandsNow settled moved (happens (happening.Flow b d) w).world
flow_stands settled true d kept moved w s same =
    subst (λ x. ((quiet_step w).entries ≡ []) × StandsNow settled x (record w { up_flow = d })) (sym same) (
      refl,
      record {
        tick = s.tick;
        drawn = s.drawn;
        up_flow = refl;
        down_flow = s.down_flow;
        passed = s.passed;
        from = s.from;
        vehicle = s.vehicle;
        calls = s.calls;
        tidy = s.tidy;
      },
    )
flow_stands settled false d kept moved w s same =
    subst (λ x. ((quiet_step w).entries ≡ []) × StandsNow settled x (record w { down_flow = d })) (sym same) (
      refl,
      record {
        tick = s.tick;
        drawn = s.drawn;
        up_flow = s.up_flow;
        down_flow = refl;
        passed = s.passed;
        from = s.from;
        vehicle = s.vehicle;
        calls = s.calls;
        tidy = s.tidy;
      },
    )

-- the session of the call at i
pub found_in : (tick c : ℕ) (xs : List kept_call.Call) (ks : List Call) (i : ℕ) (d : kept_call.Call) → CallsStandFor tick xs ks → place_of c (numbers_of ks) ≡ Some i → FoundStandsFor (get_or xs i d).session (session_of c ks)
found_in tick c [] [] i d h place = cc
found_in tick c [] (k ∷ ks) i d h place = absurd h
found_in tick c (x ∷ xs) [] i d h place = absurd h
found_in tick c (x ∷ xs) (k ∷ ks) i d h place = at (λ j. found_in tick c xs ks j d h.1) (k.number == c) refl
  where
    at : ((j : ℕ) → place_of c (numbers_of ks) ≡ Some j → FoundStandsFor (get_or xs j d).session (session_of c ks)) → (b : Bool) → (k.number == c) ≡ b → FoundStandsFor (get_or (x ∷ xs) i d).session (session_of c (k ∷ ks))
    at further true same =
        let first = place_first c k.number (numbers_of ks) same in
        let z : 0 ≡ i = cc in
        subst (λ j. FoundStandsFor (get_or (x ∷ xs) j d).session (session_of c (k ∷ ks))) z
        (subst (λ b. FoundStandsFor x.session (session_in (if b then Some k else call_of c ks))) (sym same) h.0.session)
    at further false other =
        let next = next_place-some (place_of c (numbers_of ks)) i (sym (place_behind c k.number (numbers_of ks) other) ∙ place) in
        subst (λ j. FoundStandsFor (get_or (x ∷ xs) j d).session (session_of c (k ∷ ks))) (sym next.2)
        (subst (λ b. FoundStandsFor (get_or xs next.0 d).session (session_in (if b then Some k else call_of c ks))) (sym other) (further next.0 next.1))
