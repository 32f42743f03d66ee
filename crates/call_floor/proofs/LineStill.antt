-- A line of one vehicle brings no call of a number that was drawn and has no leg up.
use Rattle.std.proofs.Common.{◌≡◌, ℕ, suc, Bool, true, false, List, [], ◌∷◌, ◌++◌, ◌==◌, ◌+◌, ◌<◌, ◌≤◌, inl, inr, Option, Some, None, length, option_map, slice_get, refl, ap, sym, ◌∙◌, subst, arith, eqb-true}
use Rattle.std.specs.List.{AllByRecursion}
use Rattle.link_frames.specs.declared.frame.End.TheVariants as «end»
use Rattle.link_frames.specs.Row.{Row}
use Rattle.ivs_machine.specs.Vehicle.{is_dialling, is_reachable}
use Rattle.ivs_machine.specs.VehicleRows as vehicle
use Rattle.psap_machine.specs.Point.{Point}
use Rattle.psap_machine.specs.PointRows as point
use Rattle.trace_fit.proofs.Lists.{all_append}
use Rattle.trace_model.specs.declared.event.Event.{Event}
use Rattle.trace_model.specs.declared.event.Event.TheVariants as event
use Rattle.channel_sim.specs.World.{Call, World, Step, call_of, each, vehicle_did}
use Rattle.channel_sim.specs.Lines.{Deed, Does, HandsUp, HandsDown, Answers, CallsBack, with_call, comes_up, deed, deeds_of, when, or_nothing, step}
use Rattle.channel_sim.specs.WorldStands.{NeedsCall}
use Rattle.call_floor.specs.declared.live.Live as kept_live
use Rattle.call_floor.specs.Floor.{Floor, Stand, own, own_of, stand_of, turn}
use Rattle.call_floor.specs.FloorStands.{IsDown, IsOf, AreLive}
use Rattle.call_floor.specs.inner.FloorAt.{numbers_of}
use Rattle.call_floor.specs.inner.Subjects.{subject, IsTurn}
use Rattle.call_floor.proofs.Apart.{Still}
use Rattle.call_floor.proofs.DeedLemmas.{DrawsNone, draws_none}
use Rattle.call_floor.proofs.EventApart.{TurnOwn, TurnOther, own_turn, other_turn, step_moves, turn_numbers}
use Rattle.call_floor.proofs.Gone.{Other, no_call}
use Rattle.call_floor.proofs.LiveCalls.{all_none, down_own, own_down}
use Rattle.call_floor.proofs.Sleeping.{calls_in}
use Rattle.call_floor.proofs.StillLemmas.{still_here, still_both, performs_still, up_still, down_still, vehicle_still, session_still}
use Rattle.call_floor.proofs.TurnWorlds.{turn_away}

module _ (P : ℕ → Type 0) where
  deed_still : (x : Deed) → DrawsNone x → Still P (deed x)
  deed_still (Does a) h w = performs_still P a w
  deed_still (HandsUp x) h w = up_still P x w
  deed_still (HandsDown x) h w = down_still P x w
  deed_still Answers h w = absurd h
  deed_still CallsBack h w = absurd h

  deeds_still : (xs : List Deed) → AllByRecursion DrawsNone xs → Still P (each deed xs)
  deeds_still [] h w = still_here P w
  deeds_still (x ∷ xs) h w =
      still_both P w (deed x w).world (each deed xs (deed x w).world).world (deed_still x h.0 w) (deeds_still xs h.1 (deed x w).world)

  line_still : (xs : List Deed) → AllByRecursion DrawsNone xs → Still P (or_nothing xs)
  line_still [] h w = still_here P w
  line_still (x ∷ xs) h w = deeds_still (x ∷ xs) h w

  other_all : (e : Event) → (NeedsCall e → ⊥) → (u : World) → AllByRecursion (λ (k : Call). P k.number) u.calls → AllByRecursion (λ (k : Call). P k.number) (or_nothing (deeds_of u e) u).world.calls
  other_all e h u all = (line_still (deeds_of u e) (draws_none e h u) u).numbers all

  comes_all : (x : Deed) (e : ℕ → vehicle.Heard) (arrival : ℕ → Row Point) (u : World) → deed x u ≡ comes_up e arrival u → P (u.drawn + 1) → AllByRecursion (λ (k : Call). P k.number) u.calls → (b : Bool) → AllByRecursion (λ (k : Call). P k.number) (or_nothing (when b x) u).world.calls
  comes_all x e arrival u same next all true =
      let c : ℕ = u.drawn + 1 in
      let w1 : World = with_call u in
      let with_it : AllByRecursion (λ (k : Call). P k.number) w1.calls = all_append (λ (k : Call). P k.number) u.calls (record { number = c; session = None; up = []; down = [] } ∷ []) all (next, tt) in
      let first : Step = vehicle_did w1 (vehicle.vehicle_row u.vehicle (e c)) in
      subst (λ (s : Step). AllByRecursion (λ (k : Call). P k.number) s.world.calls) (sym same)
      ((session_still P c first.world (arrival c)).numbers ((vehicle_still P w1 (vehicle.vehicle_row u.vehicle (e c))).numbers with_it))
  comes_all x e arrival u same next all false = all

pub step_all : (P : ℕ → Type 0) (e : Event) → IsTurn (subject e) → (u : World) → P (u.drawn + 1) → AllByRecursion (λ (k : Call). P k.number) u.calls → AllByRecursion (λ (k : Call). P k.number) (step u e).world.calls
step_all P event.Answer t u next all =
    comes_all P Answers vehicle.Answered point.arriving u refl next all (is_dialling u.vehicle)
step_all P event.Callback t u next all =
    comes_all P CallsBack vehicle.Incoming point.called u refl next all (is_reachable u.vehicle)
step_all P (event.Flow up delay) t u next all = absurd t
step_all P (event.Tick n) t u next all = absurd t
step_all P (event.Reset «end».Point) t u next all = absurd t
step_all P (event.Reset «end».Vehicle) t u next all = other_all P (event.Reset «end».Vehicle) (λ h. h) u all
step_all P (event.Trigger cause) t u next all = other_all P (event.Trigger cause) (λ h. h) u all
step_all P event.Cancel t u next all = other_all P event.Cancel (λ h. h) u all
step_all P (event.Net up) t u next all = other_all P (event.Net up) (λ h. h) u all
step_all P event.Fail t u next all = other_all P event.Fail (λ h. h) u all
step_all P event.Sleep t u next all = other_all P event.Sleep (λ h. h) u all
step_all P event.FaultVehicle t u next all = other_all P event.FaultVehicle (λ h. h) u all
step_all P (event.FaultPoint c) t u next all = other_all P (event.FaultPoint c) (λ h. h) u all
step_all P (event.Damaged c) t u next all = other_all P (event.Damaged c) (λ h. h) u all
step_all P (event.Request c) t u next all = other_all P (event.Request c) (λ h. h) u all
step_all P (event.Clear c) t u next all = other_all P (event.Clear c) (λ h. h) u all
step_all P (event.Hangup c) t u next all = other_all P (event.Hangup c) (λ h. h) u all
step_all P event.DropVehicle t u next all = other_all P event.DropVehicle (λ h. h) u all
step_all P (event.DropPoint c) t u next all = other_all P (event.DropPoint c) (λ h. h) u all
step_all P (event.DropBoth c) t u next all = other_all P (event.DropBoth c) (λ h. h) u all
step_all P (event.Deliver up c k) t u next all = other_all P (event.Deliver up c k) (λ h. h) u all

-- Who is down stays down, of the numbers drawn so far.

own_drawn : (v : ℕ) (w : Floor) (u : World) → own_of v w ≡ Some u → u.drawn ≡ length w.drawn
own_drawn v w u h = by (stand_of v w.stands) h
  where
    some_world : (x y : World) → Some x ≡ Some y → x ≡ y
    some_world x y e = cc

    by : (o : Option Stand) → option_map (own w) o ≡ Some u → u.drawn ≡ length w.drawn
    by None f = cc
    by (Some s) f = ap (λ (z : World). z.drawn) (sym (some_world (own w s) u f))

pub down_line : (a v c : ℕ) (e : Event) → IsTurn (subject e) → (w : Floor) → c ≤ length w.drawn → IsDown w.stands v c → IsDown (turn a (λ u. step u e) w).floor.stands v c
down_line a v c e turns w low h = own_down v c (turn a (λ u. step u e) w).floor (by (a == v) refl (own_of v w) refl)
  where
    away : own_of v w ≡ None → own_of v (turn a (λ u. step u e) w).floor ≡ None
    away none = turn_away a v (λ u. step u e) w none

    by : (b : Bool) → (a == v) ≡ b → (o : Option World) → own_of v w ≡ o → call_of c (calls_in (own_of v (turn a (λ u. step u e) w).floor)) ≡ None
    by b f None g = ap (λ o. call_of c (calls_in o)) (away g)
    by true f (Some u) g =
        let here : a ≡ v = eqb-true a v f in
        let its : TurnOwn v w (turn v (λ x. step x e) w) (step u e) = own_turn v (λ x. step x e) (step_moves e turns) w u g in
        let there : own_of v (turn a (λ x. step x e) w).floor ≡ Some (step u e).world = ap (λ n. own_of v (turn n (λ x. step x e) w).floor) here ∙ its.its.there in
        let down : call_of c u.calls ≡ None = ap (λ o. call_of c (calls_in o)) (sym g) ∙ down_own v c w h in
        let last = own_drawn v w u g in
        ap (λ o. call_of c (calls_in o)) there
        ∙ no_call c (step u e).world.calls (step_all (Other c) e turns u (λ n. omega (arith, n, last, low)) (all_none c u.calls down))
    by false f (Some u) g =
        let its : TurnOther a v w (turn a (λ x. step x e) w) u = other_turn a v f (λ x. step x e) (step_moves e turns) w u g in
        ap (λ o. call_of c (calls_in o)) its.there ∙ ap (λ o. call_of c (calls_in o)) (sym g) ∙ down_own v c w h

pub live_within : (xs ys : List Stand) (n : ℕ) → ((v c : ℕ) → c < n → IsDown xs v c → IsDown ys v c) → numbers_of ys ≡ numbers_of xs → (c : ℕ) (ds : List ℕ) (ls : List kept_live.Live) → c + length ds ≤ n → AreLive xs c ds ls → AreLive ys c ds ls
live_within xs ys n down same c [] [] low h = tt
live_within xs ys n down same c [] (l ∷ ls) low h = h
live_within xs ys n down same c (d ∷ ds) [] low h =
    (down d c (omega arith) h.0, live_within xs ys n down same (suc c) ds [] (omega arith) h.1)
live_within xs ys n down same c (d ∷ ds) (l ∷ ls) low (inl h) =
    inl (down d c (omega arith) h.0, live_within xs ys n down same (suc c) ds (l ∷ ls) (omega arith) h.1)
live_within xs ys n down same c (d ∷ ds) (l ∷ ls) low (inr h) =
    let one : IsOf xs d c l = h.0 in
    inr (record { call = one.call; place = ap (λ ns. slice_get ns l.place) same ∙ one.place }, live_within xs ys n down same (suc c) ds ls (omega arith) h.1)

pub live_line : (a : ℕ) (e : Event) → IsTurn (subject e) → (w : Floor) (ls : List kept_live.Live) → AreLive w.stands 1 w.drawn ls → AreLive (turn a (λ u. step u e) w).floor.stands 1 w.drawn ls
live_line a e turns w ls h =
    live_within w.stands (turn a (λ u. step u e) w).floor.stands (1 + length w.drawn) (λ v c low. down_line a v c e turns w (omega arith)) (turn_numbers a (λ u. step u e) w) 1 w.drawn ls (omega arith) h

-- one call more
pub live_append : (stands : List Stand) (v : ℕ) (l : kept_live.Live) (c : ℕ) (ds : List ℕ) (ls : List kept_live.Live) → AreLive stands c ds ls → IsOf stands v (c + length ds) l → AreLive stands c (ds ++ v ∷ []) (ls ++ l ∷ [])
live_append stands v l c [] [] h of =
    let same : c + 0 ≡ c = omega arith in inr (subst (λ n. IsOf stands v n l) same of, tt)
live_append stands v l c [] (q ∷ qs) h of = absurd h
live_append stands v l c (d ∷ ds) [] h of =
    let same : c + suc (length ds) ≡ suc c + length ds = omega arith in
    inl (h.0, live_append stands v l (suc c) ds [] h.1 (subst (λ n. IsOf stands v n l) same of))
live_append stands v l c (d ∷ ds) (q ∷ qs) (inl h) of =
    let same : c + suc (length ds) ≡ suc c + length ds = omega arith in
    inl (h.0, live_append stands v l (suc c) ds (q ∷ qs) h.1 (subst (λ n. IsOf stands v n l) same of))
live_append stands v l c (d ∷ ds) (q ∷ qs) (inr h) of =
    let same : c + suc (length ds) ≡ suc c + length ds = omega arith in
    inr (h.0, live_append stands v l (suc c) ds qs h.1 (subst (λ n. IsOf stands v n l) same of))
