-- Frames that are due.
use Rattle.std.proofs.Common.{◌≡◌, Result, Ok, Err, IfOk, ℕ, zero, suc, ◌+◌, ◌<◌, ◌≤◌, ◌==◌, ltb, inl, inr, if◌then◌else◌, Bool, true, false, Option, Some, None, List, [], ◌∷◌, ◌++◌, length, get_or, slice_get, take, drop, refl, ap, sym, ◌∙◌, subst, arith, append-nil, append_assoc, add-one}
use Rattle.std.specs.Option.{option_eq, option_map}
use Rattle.std.proofs.lemmas.List.{take-append-drop}
use lib.Dec.{eqb}
use Rattle.std.specs.List.{AllByRecursion}
use Rattle.std.proofs.lemmas.Bool.{eqb-true, eqb-false, eq-eqb, ne_eqb, ltb-true, ltb-false}
use Rattle.trace_fit.proofs.Lists.{all_into}
use Rattle.trace_model.specs.History.{Sent}
use Rattle.channel_sim.specs.declared.calls.call.Call as kept_call
use Rattle.channel_sim.specs.declared.channel.Channel as kept_channel
use Rattle.channel_sim.specs.World.{Call, Due, World, call_of, due_frames, due_in}
use Rattle.channel_sim.specs.inner.Acts.{due_by}
use Rattle.channel_sim.specs.inner.Handovers.{IsHandover}
use Rattle.channel_sim.specs.declared.calls.due.Handover.{Handover}
use Rattle.channel_sim.specs.declared.calls.due.Handover.TheVariants as handover
use Rattle.channel_sim.specs.Handing.{alone, due_of, flow_way, sent_way}
use Rattle.channel_sim.specs.Lag.{LeastPassed, CallLags, CallsLag, StandsAt}
use Rattle.channel_sim.specs.Tidy.{AreAbove, CallInTime, AreFrom, numbers_of, ticks_of}
use Rattle.channel_sim.specs.inner.Places.{place_of}
use Rattle.channel_sim.specs.inner.Sends.{IsFirstFrom}
use Rattle.channel_sim.specs.inner.Turns.{IsAmong, Rise}
use Rattle.channel_sim.proofs.PlaceLemmas.{next_place-some, place_first, place_behind}
use Rattle.channel_sim.proofs.TickLemmas.{all_from}

pub frames_append : (c delay now : ℕ) (xs ys : List Sent) → due_frames c delay now (xs ++ ys) ≡ due_frames c delay now xs ++ due_frames c delay now ys
frames_append c delay now [] ys = refl
frames_append c delay now (x ∷ xs) ys = at (x.tick + delay == now) (frames_append c delay now xs ys)
  where
    at : (b : Bool) → due_frames c delay now (xs ++ ys) ≡ due_frames c delay now xs ++ due_frames c delay now ys → (if b then record { call = c; frame = x.frame } ∷ due_frames c delay now (xs ++ ys) else due_frames c delay now (xs ++ ys)) ≡ (if b then record { call = c; frame = x.frame } ∷ due_frames c delay now xs else due_frames c delay now xs) ++ due_frames c delay now ys
    at true rest = ap (λ z. record { call = c; frame = x.frame } ∷ z) rest
    at false rest = rest

pub none_before : (c delay tick : ℕ) (xs : List Sent) → AllByRecursion (λ t. t < tick) (ticks_of xs) → due_frames c delay (tick + delay) xs ≡ []
none_before c delay tick [] h = refl
none_before c delay tick (x ∷ xs) h =
    let low : x.tick < tick = h.0 in
    ap (λ b. if b then record { call = c; frame = x.frame } ∷ due_frames c delay (tick + delay) xs else due_frames c delay (tick + delay) xs) (ne_eqb (x.tick + delay) (tick + delay) (λ e. omega arith))
    ∙ none_before c delay tick xs h.1

pub none_behind : (c delay tick : ℕ) (xs : List Sent) → AllByRecursion (λ t. tick < t) (ticks_of xs) → due_frames c delay (tick + delay) xs ≡ []
none_behind c delay tick [] h = refl
none_behind c delay tick (x ∷ xs) h =
    let high : tick < x.tick = h.0 in
    ap (λ b. if b then record { call = c; frame = x.frame } ∷ due_frames c delay (tick + delay) xs else due_frames c delay (tick + delay) xs) (ne_eqb (x.tick + delay) (tick + delay) (λ e. omega arith))
    ∙ none_behind c delay tick xs h.1

pub one_due : (c delay : ℕ) (x : Sent) → due_frames c delay (x.tick + delay) (x ∷ []) ≡ record { call = c; frame = x.frame } ∷ []
one_due c delay x = ap (λ b. if b then record { call = c; frame = x.frame } ∷ [] else []) (eq-eqb (x.tick + delay) (x.tick + delay) refl)

pub take_ticks : (n : ℕ) (xs : List Sent) → ticks_of (take n xs) ≡ take n (ticks_of xs)
take_ticks zero [] = refl
take_ticks (suc n) [] = refl
take_ticks zero (x ∷ xs) = refl
take_ticks (suc n) (x ∷ xs) = ap (λ z. x.tick ∷ z) (take_ticks n xs)

pub drop_ticks : (n : ℕ) (xs : List Sent) → ticks_of (drop n xs) ≡ drop n (ticks_of xs)
drop_ticks zero xs = refl
drop_ticks (suc n) [] = refl
drop_ticks (suc n) (x ∷ xs) = drop_ticks n xs

-- those from one on are above a tick that this one is above
all_over : (n tick : ℕ) (ts : List ℕ) → AreFrom n ts → tick < n → AllByRecursion (λ t. tick < t) ts
all_over n tick [] h low = tt
all_over n tick (t ∷ ts) h low = let least : n ≤ t = h.0 in (omega arith, all_over t tick ts h.1 (omega arith))

pub over_from : (n tick k t : ℕ) (ts : List ℕ) → AreFrom n ts → slice_get ts k ≡ Some t → tick < t → AllByRecursion (λ x. tick < x) (drop k ts)
over_from n tick k t [] h e low = cc
over_from n tick zero t (x ∷ ts) h e low = let same : x ≡ t = cc in let above : tick < x = omega arith in (above, all_over x tick ts h.1 above)
over_from n tick (suc k) t (x ∷ ts) h e low = over_from x tick k t ts h.1 e low

-- none from a place on is below this, where none is from an earlier place on
pub behind_later : (tick i k t : ℕ) (ts : List ℕ) → AllByRecursion (λ x. tick ≤ x) (drop i ts) → i ≤ k → slice_get ts k ≡ Some t → tick ≤ t
behind_later tick i k t [] h le e = cc
behind_later tick zero zero t (x ∷ ts) h le e = let same : x ≡ t = cc in omega (arith, h.0)
behind_later tick zero (suc k) t (x ∷ ts) h le e = behind_later tick zero k t ts h.1 (omega arith) e
behind_later tick (suc i) zero t (x ∷ ts) h le e = absurd (omega arith)
behind_later tick (suc i) (suc k) t (x ∷ ts) h le e = behind_later tick i k t ts h (omega arith) e

-- the frame at a place, by its tick
pub sent_at_tick : (k t : ℕ) (xs : List Sent) → slice_get (ticks_of xs) k ≡ Some t → (s : Sent) × (slice_get xs k ≡ Some s) × (s.tick ≡ t) × (take (suc k) xs ≡ take k xs ++ s ∷ [])
sent_at_tick k t [] e = cc
sent_at_tick zero t (x ∷ xs) e = (x, refl, (let same : x.tick ≡ t = cc in same), refl)
sent_at_tick (suc k) t (x ∷ xs) e = let rest = sent_at_tick k t xs e in (rest.0, rest.1, rest.2, ap (λ z. x ∷ z) rest.3)

pub eq_some : (o : Option ℕ) (t : ℕ) → option_eq eqb o (Some t) ≡ true → o ≡ Some t
eq_some None t e = cc
eq_some (Some u) t e = ap Some (eqb-true u t e)

pub ne_some : (o : Option ℕ) (t : ℕ) → option_eq eqb o (Some t) ≡ false → o ≡ Some t → ⊥
ne_some o t e same =
    let yes : option_eq eqb (Some t) (Some t) ≡ true = eq-eqb t t refl in
    let wrong : false ≡ true = sym e ∙ ap (λ z. option_eq eqb z (Some t)) same ∙ yes in
    cc

-- one frame more
pub due_more : (c delay t k : ℕ) (xs : List Sent) (before : List Due) → slice_get (ticks_of xs) k ≡ Some t → (before ++ due_frames c delay (t + delay) (take k xs)) ++ due_by c (option_map (λ s. s.frame) (slice_get xs k)) ≡ before ++ due_frames c delay (t + delay) (take (k + 1) xs)
due_more c delay t k xs before e =
    let at = sent_at_tick k t xs e in
    let s : Sent = at.0 in
    let one : due_frames c delay (t + delay) (s ∷ []) ≡ record { call = c; frame = s.frame } ∷ [] = subst (λ z. due_frames c delay (z + delay) (s ∷ []) ≡ record { call = c; frame = s.frame } ∷ []) at.2 (one_due c delay s) in
    ap (λ o. (before ++ due_frames c delay (t + delay) (take k xs)) ++ due_by c (option_map (λ s. s.frame) o)) at.1
    ∙ append_assoc before (due_frames c delay (t + delay) (take k xs)) (record { call = c; frame = s.frame } ∷ [])
    ∙ ap (λ z. before ++ z)
    (ap (λ z. due_frames c delay (t + delay) (take k xs) ++ z) (sym one)
    ∙ sym (frames_append c delay (t + delay) (take k xs) (s ∷ []))
    ∙ ap (due_frames c delay (t + delay)) (sym at.3 ∙ ap (λ n. take n xs) (sym (add-one k))))

-- none behind is due
pub due_enough : (c delay t k u : ℕ) (xs : List Sent) → AreFrom 0 (ticks_of xs) → slice_get (ticks_of xs) k ≡ Some u → t < u → due_frames c delay (t + delay) (take k xs) ≡ due_frames c delay (t + delay) xs
due_enough c delay t k u xs rise e over =
    sym (append-nil (due_frames c delay (t + delay) (take k xs)))
    ∙ ap (λ z. due_frames c delay (t + delay) (take k xs) ++ z) (sym (none_behind c delay t (drop k xs) (subst (AllByRecursion (λ x. t < x)) (sym (drop_ticks k xs)) (over_from 0 t k u (ticks_of xs) rise e over))))
    ∙ sym (frames_append c delay (t + delay) (take k xs) (drop k xs))
    ∙ ap (due_frames c delay (t + delay)) (take-append-drop k xs)

-- what is handed over of these frames, whatever the delay, is handed over of those that are the same
pub each_delay : {E : Type 0} (F : ℕ → List Due) (all : List Due) (r : Result Handover E) → ((d : ℕ) → IfOk r (λ h. IsHandover h (F d))) → ((ds : List Due) → ((d : ℕ) → F d ≡ ds) → all ≡ ds) → IfOk r (λ h. IsHandover h all)
each_delay F all (Ok handover.Nothing) h same = same [] h
each_delay F all (Ok (handover.One one)) h same = same (due_of one ∷ []) h
each_delay F all (Ok handover.Many) h same = h 0
each_delay F all (Err e) h same = h 0

-- where the frame at a place is the first of its tick, and the next one is not of it, it alone is due
pub only_one : (c delay n t k : ℕ) (xs : List Sent) → AreFrom n (ticks_of xs) → AllByRecursion (λ u. u < t) (take k (ticks_of xs)) → slice_get (ticks_of xs) k ≡ Some t → (slice_get (ticks_of xs) (suc k) ≡ Some t → ⊥) → due_frames c delay (t + delay) xs ≡ due_by c (option_map (λ s. s.frame) (slice_get xs k))
only_one c delay n t k [] rise low here next = cc
only_one c delay n t zero (x ∷ xs) rise low here next =
    let same : x.tick ≡ t = cc in
    ap (λ b. if b then record { call = c; frame = x.frame } ∷ due_frames c delay (t + delay) xs else due_frames c delay (t + delay) xs) (eq-eqb (x.tick + delay) (t + delay) (ap (λ z. z + delay) same))
    ∙ ap (λ z. record { call = c; frame = x.frame } ∷ z) (none_behind c delay t xs (over xs rise.1 next same))
  where
    over : (ys : List Sent) → AreFrom x.tick (ticks_of ys) → (slice_get (ticks_of ys) 0 ≡ Some t → ⊥) → x.tick ≡ t → AllByRecursion (λ u. t < u) (ticks_of ys)
    over [] rise next same = tt
    over (y ∷ ys) rise next same =
        let other : y.tick ≡ t → ⊥ = λ e. next (ap Some e) in
        let least : x.tick ≤ y.tick = rise.0 in
        let above : t < y.tick = omega (arith, other) in
        (above, all_over y.tick t (ticks_of ys) rise.1 above)
only_one c delay n t (suc k) (x ∷ xs) rise low here next =
    let below : x.tick < t = low.0 in
    ap (λ b. if b then record { call = c; frame = x.frame } ∷ due_frames c delay (t + delay) xs else due_frames c delay (t + delay) xs) (ne_eqb (x.tick + delay) (t + delay) (λ e. omega arith))
    ∙ only_one c delay x.tick t k xs rise.1 low.1 here next

pub tick_there : (k : ℕ) (xs : List Sent) → k < length xs → (u : ℕ) × (slice_get (ticks_of xs) k ≡ Some u)
tick_there k [] h = absurd (omega arith)
tick_there zero (x ∷ xs) h = (x.tick, refl)
tick_there (suc k) (x ∷ xs) h = tick_there k xs (omega arith)

pub due_in_append : (sent : Call → List Sent) (d now : ℕ) (xs ys : List Call) → due_in sent (suc d) now (xs ++ ys) ≡ due_in sent (suc d) now xs ++ due_in sent (suc d) now ys
due_in_append sent d now [] ys = refl
due_in_append sent d now (x ∷ xs) ys =
    ap (λ z. due_frames x.number (suc d) now (sent x) ++ z) (due_in_append sent d now xs ys)
    ∙ sym (append_assoc (due_frames x.number (suc d) now (sent x)) (due_in sent (suc d) now xs) (due_in sent (suc d) now ys))

-- before so many ticks have gone nothing is due
too_early : (c d now : ℕ) (xs : List Sent) → now < suc d → due_frames c (suc d) now xs ≡ []
too_early c d now [] h = refl
too_early c d now (x ∷ xs) h =
    ap (λ b. if b then record { call = c; frame = x.frame } ∷ due_frames c (suc d) now xs else due_frames c (suc d) now xs) (ne_eqb (x.tick + suc d) now (λ e. omega arith))
    ∙ too_early c d now xs h

pub none_early : (sent : Call → List Sent) (delay now : ℕ) (ks : List Call) → now < delay → due_in sent delay now ks ≡ []
none_early sent zero now ks h = refl
none_early sent (suc d) now [] h = refl
none_early sent (suc d) now (k ∷ ks) h = ap (λ z. z ++ due_in sent (suc d) now ks) (too_early k.number d now (sent k) h) ∙ none_early sent (suc d) now ks h

-- the frames of one call more
pub due_call : (up : Bool) (d now : ℕ) (i : ℕ) (ks : List Call) (k : Call) → take (suc i) ks ≡ take i ks ++ k ∷ [] → due_in (sent_way up) (suc d) now (take (suc i) ks) ≡ due_in (sent_way up) (suc d) now (take i ks) ++ due_frames k.number (suc d) now (sent_way up k)
due_call up d now i ks k e =
    ap (due_in (sent_way up) (suc d) now) e
    ∙ due_in_append (sent_way up) d now (take i ks) (k ∷ [])
    ∙ ap (λ z. due_in (sent_way up) (suc d) now (take i ks) ++ z) (append-nil (due_frames k.number (suc d) now (sent_way up k)))

-- what was sent in a call, as it is kept
pub way_kept : (up : Bool) (floor : LeastPassed) (clock : ℕ) (x : kept_call.Call) (k : Call) → CallLags floor clock x k → (if up then x.up else x.down) ≡ sent_way up k
way_kept true floor clock x k h = sym h.up
way_kept false floor clock x k h = sym h.down

pub way_rises : (up : Bool) (now : ℕ) (k : Call) → CallInTime now k → AreFrom 0 (ticks_of (sent_way up k))
way_rises true now k h = h.up.rise
way_rises false now k h = h.down.rise

-- by the delay of the flow
pub all_at : (sent : Call → List Sent) (flow now : ℕ) (ks : List Call) (due : List Due) (tick : ℕ) → (flow ≡ 0 → ⊥) → tick + flow ≡ now → ((d : ℕ) → due ≡ due_in sent (suc d) (tick + suc d) ks) → due ≡ due_in sent flow now ks
all_at sent zero now ks due tick some e h = absurd (some refl)
all_at sent (suc d) now ks due tick some e h = h d ∙ ap (λ n. due_in sent (suc d) n ks) e

-- the delay of a flow, as it is kept
pub flow_kept : (up : Bool) (ahead : ℕ) (floor : LeastPassed) (clock : ℕ → ℕ) (kept : kept_channel.Channel) (w : World) → StandsAt ahead floor clock kept w → (if up then kept.up_flow else kept.down_flow) ≡ flow_way up w
flow_kept true ahead floor clock kept w s = sym s.up_flow
flow_kept false ahead floor clock kept w s = sym s.down_flow

-- the call at its place, as it is kept
pub call_at : (floor : LeastPassed) (clock : ℕ → ℕ) (c : ℕ) (xs : List kept_call.Call) (ks : List Call) (i : ℕ) (d : kept_call.Call) → CallsLag floor clock xs ks → place_of c (numbers_of ks) ≡ Some i → (k : Call) × (call_of c ks ≡ Some k) × CallLags floor (clock k.number) (get_or xs i d) k
call_at floor clock c [] [] i d h place = cc
call_at floor clock c [] (k ∷ ks) i d h place = absurd h
call_at floor clock c (x ∷ xs) [] i d h place = absurd h
call_at floor clock c (x ∷ xs) (k ∷ ks) i d h place = at (λ j. call_at floor clock c xs ks j d h.1) (k.number == c) refl
  where
    at : ((j : ℕ) → place_of c (numbers_of ks) ≡ Some j → (q : Call) × (call_of c ks ≡ Some q) × CallLags floor (clock q.number) (get_or xs j d) q) → (b : Bool) → (k.number == c) ≡ b → (q : Call) × (call_of c (k ∷ ks) ≡ Some q) × CallLags floor (clock q.number) (get_or (x ∷ xs) i d) q
    at further true same =
        let first = place_first c k.number (numbers_of ks) same in
        let z : 0 ≡ i = cc in
        (k, ap (λ b. if b then Some k else call_of c ks) same, subst (λ j. CallLags floor (clock k.number) (get_or (x ∷ xs) j d) k) z h.0)
    at further false other =
        let next = next_place-some (place_of c (numbers_of ks)) i (sym (place_behind c k.number (numbers_of ks) other) ∙ place) in
        let rest = further next.0 next.1 in
        (rest.0, ap (λ b. if b then Some k else call_of c ks) other ∙ rest.1, subst (λ j. CallLags floor (clock rest.0.number) (get_or (x ∷ xs) j d) rest.0) (sym next.2) rest.2)

-- what all calls have, one has
pub found_has : (P : Call → Type 0) (c : ℕ) (ks : List Call) (k : Call) → call_of c ks ≡ Some k → AllByRecursion P ks → P k
found_has P c [] k e h = cc
found_has P c (x ∷ ks) k e h = at (λ f. found_has P c ks k f h.1) (x.number == c) e
  where
    at : (call_of c ks ≡ Some k → P k) → (b : Bool) → (if b then Some x else call_of c ks) ≡ Some k → P k
    at further true e = let same : x ≡ k = cc in subst P same h.0
    at further false e = further e

-- of no call nothing is due
pub none_in_none : (sent : Call → List Sent) (flow now : ℕ) → due_in sent flow now [] ≡ []
none_in_none sent zero now = refl
none_in_none sent (suc d) now = refl

-- before so many ticks have gone nothing is due in a call
pub call_none : (sent : Call → List Sent) (delay now : ℕ) (k : Call) → now < delay → due_in sent delay now (k ∷ []) ≡ []
call_none sent delay now k early = none_early sent delay now (k ∷ []) early

-- the frames of one call alone
pub one_at : (up : Bool) (flow now n tick : ℕ) (ss : List Sent) (k : Call) → (flow ≡ 0 → ⊥) → tick + flow ≡ now → n ≡ k.number → ss ≡ sent_way up k → due_frames n flow (tick + flow) ss ≡ due_in (sent_way up) flow now (k ∷ [])
one_at up zero now n tick ss k some e number sent = absurd (some refl)
one_at up (suc d) now n tick ss k some e number sent =
    ap (λ m. due_frames m (suc d) (tick + suc d) ss) number
    ∙ ap (λ t. due_frames k.number (suc d) t ss) e
    ∙ ap (due_frames k.number (suc d) now) sent
    ∙ sym (append-nil (due_frames k.number (suc d) now (sent_way up k)))

-- Frames that are due in the calls of some numbers.

-- what is due in each call of these numbers, one behind the other
abbrev pub due_listed : (sent : Call → List Sent) (d now : ℕ) → List ℕ → List Call → List Due
due_listed sent d now [] ks = []
due_listed sent d now (n ∷ ns) ks = due_in sent (suc d) now (alone (call_of n ks)) ++ due_listed sent d now ns ks

-- each call with a frame of this tick is listed
abbrev pub AreListed : (sent : Call → List Sent) (tick : ℕ) → List ℕ → List Call → Type 0
AreListed sent tick ns ks = AllByRecursion (λ k. AllByRecursion (λ s. s.tick ≡ tick → IsAmong k.number ns) (sent k)) ks

-- one number more
pub listed_more : (sent : Call → List Sent) (d now i : ℕ) (ns : List ℕ) (ks : List Call) → i < length ns → due_listed sent d now (take i ns) ks ++ due_in sent (suc d) now (alone (call_of (get_or ns i 0) ks)) ≡ due_listed sent d now (take (i + 1) ns) ks
listed_more sent d now i ns ks inside = at i ns inside ∙ ap (λ m. due_listed sent d now (take m ns) ks) (sym (add-one i))
  where
    at : (i : ℕ) (ns : List ℕ) → i < length ns → due_listed sent d now (take i ns) ks ++ due_in sent (suc d) now (alone (call_of (get_or ns i 0) ks)) ≡ due_listed sent d now (take (suc i) ns) ks
    at i [] inside = absurd (omega arith)
    at zero (n ∷ ns) inside = sym (append-nil (due_in sent (suc d) now (alone (call_of n ks))))
    at (suc i) (n ∷ ns) inside =
        append_assoc (due_in sent (suc d) now (alone (call_of n ks))) (due_listed sent d now (take i ns) ks) (due_in sent (suc d) now (alone (call_of (get_or ns i 0) ks)))
        ∙ ap (λ z. due_in sent (suc d) now (alone (call_of n ks)) ++ z) (at i ns (omega arith))

-- of no call nothing is due
listed_none : (sent : Call → List Sent) (d now : ℕ) (ns : List ℕ) → due_listed sent d now ns [] ≡ []
listed_none sent d now [] = refl
listed_none sent d now (n ∷ ns) = listed_none sent d now ns

-- where none was sent at a tick, none of this tick is due
none_sent : (c delay tick : ℕ) (xs : List Sent) → AllByRecursion (λ s. s.tick ≡ tick → ⊥) xs → due_frames c delay (tick + delay) xs ≡ []
none_sent c delay tick [] h = refl
none_sent c delay tick (x ∷ xs) h =
    let other : x.tick ≡ tick → ⊥ = h.0 in
    ap (λ b. if b then record { call = c; frame = x.frame } ∷ due_frames c delay (tick + delay) xs else due_frames c delay (tick + delay) xs) (ne_eqb (x.tick + delay) (tick + delay) (λ e. other (omega arith)))
    ∙ none_sent c delay tick xs h.1

-- a number is not among those above it
not_among : (m c : ℕ) (ns : List ℕ) → AreAbove m ns → c ≤ m → IsAmong c ns → ⊥
not_among m c [] above low has = has
not_among m c (n ∷ ns) above low (inl here) = let least : m < n = above.0 in omega arith
not_among m c (n ∷ ns) above low (inr further) = let least : m < n = above.0 in not_among n c ns above.1 (omega arith) further

-- a call that isn't listed has no frame of this tick
unlisted : (tick c : ℕ) (ns : List ℕ) (xs : List Sent) → (IsAmong c ns → ⊥) → AllByRecursion (λ s. s.tick ≡ tick → IsAmong c ns) xs → AllByRecursion (λ s. s.tick ≡ tick → ⊥) xs
unlisted tick c ns [] other h = tt
unlisted tick c ns (x ∷ xs) other h = (λ same. other (h.0 same), unlisted tick c ns xs other h.1)

-- no call has a number that all are above
no_call_below : (m c : ℕ) (ks : List Call) → AreAbove m (numbers_of ks) → c ≤ m → call_of c ks ≡ None
no_call_below m c [] above low = refl
no_call_below m c (k ∷ ks) above low =
    let least : m < k.number = above.0 in
    ap (λ b. if b then Some k else call_of c ks) (ne_eqb k.number c (λ e. omega arith)) ∙ no_call_below k.number c ks above.1 (omega arith)

-- numbers above that of the first call are looked up behind it
listed_behind : (sent : Call → List Sent) (d now m : ℕ) (ns : List ℕ) (k : Call) (ks : List Call) → k.number ≤ m → AreAbove m ns → due_listed sent d now ns (k ∷ ks) ≡ due_listed sent d now ns ks
listed_behind sent d now m [] k ks low rise = refl
listed_behind sent d now m (n ∷ ns) k ks low rise =
    let least : m < n = rise.0 in
    ap (λ b. due_in sent (suc d) now (alone (if b then Some k else call_of n ks)) ++ due_listed sent d now ns (k ∷ ks)) (ne_eqb k.number n (λ e. omega arith))
    ∙ ap (λ z. due_in sent (suc d) now (alone (call_of n ks)) ++ z) (listed_behind sent d now n ns k ks (omega arith) rise.1)

-- a number that all calls are above need not be listed
fewer_frames : (tick c n : ℕ) (ns : List ℕ) (xs : List Sent) → n < c → AllByRecursion (λ s. s.tick ≡ tick → IsAmong c (n ∷ ns)) xs → AllByRecursion (λ s. s.tick ≡ tick → IsAmong c ns) xs
fewer_frames tick c n ns [] low h = tt
fewer_frames tick c n ns (x ∷ xs) low h = (λ same. elim (h.0 same) [ inl here ↦ absurd (omega arith) | inr further ↦ further ], fewer_frames tick c n ns xs low h.1)

-- the same of all calls
fewer : (sent : Call → List Sent) (tick m n : ℕ) (ns : List ℕ) (ks : List Call) → n ≤ m → AreAbove m (numbers_of ks) → AreListed sent tick (n ∷ ns) ks → AreListed sent tick ns ks
fewer sent tick m n ns [] low above h = tt
fewer sent tick m n ns (k ∷ ks) low above h =
    let least : m < k.number = above.0 in
    (fewer_frames tick k.number n ns (sent k) (omega arith) h.0, fewer sent tick k.number n ns ks (omega arith) above.1 h.1)

-- a call that isn't listed: nothing of it is due
first_unlisted : (sent : Call → List Sent) (d tick : ℕ) (ns : List ℕ) (k : Call) (ks : List Call) → (IsAmong k.number ns → ⊥) → AreListed sent tick ns (k ∷ ks) → due_in sent (suc d) (tick + suc d) (k ∷ ks) ≡ due_in sent (suc d) (tick + suc d) ks
first_unlisted sent d tick ns k ks other listed =
    ap (λ z. z ++ due_in sent (suc d) (tick + suc d) ks) (none_sent k.number (suc d) tick (sent k) (unlisted tick k.number ns (sent k) other listed.0))

-- the first number is that of the first call
first_listed : (sent : Call → List Sent) (d tick n : ℕ) (ns : List ℕ) (k : Call) (ks : List Call) → k.number ≡ n → AreAbove n ns → due_listed sent d (tick + suc d) ns ks ≡ due_in sent (suc d) (tick + suc d) ks → due_listed sent d (tick + suc d) (n ∷ ns) (k ∷ ks) ≡ due_in sent (suc d) (tick + suc d) (k ∷ ks)
first_listed sent d tick n ns k ks here rise rest =
    ap (λ b. due_in sent (suc d) (tick + suc d) (alone (if b then Some k else call_of n ks)) ++ due_listed sent d (tick + suc d) ns (k ∷ ks)) (eq-eqb k.number n here)
    ∙ ap (λ z. z ++ due_listed sent d (tick + suc d) ns (k ∷ ks)) (append-nil (due_frames k.number (suc d) (tick + suc d) (sent k)))
    ∙ ap (λ z. due_frames k.number (suc d) (tick + suc d) (sent k) ++ z) (listed_behind sent d (tick + suc d) n ns k ks (omega arith) rise ∙ rest)

-- no call has the first number
first_missing : (sent : Call → List Sent) (d now n : ℕ) (ns : List ℕ) (ks : List Call) → AreAbove n (numbers_of ks) → due_listed sent d now (n ∷ ns) ks ≡ due_listed sent d now ns ks
first_missing sent d now n ns ks above =
    ap (λ o. due_in sent (suc d) now (alone o) ++ due_listed sent d now ns ks) (no_call_below n n ks above (omega arith))

-- what stands behind a number that rises, rises
rise_behind : (n : ℕ) (ns : List ℕ) → AreAbove n ns → Rise ns
rise_behind n [] h = tt
rise_behind n (m ∷ ns) h = h.1

-- where each call with a frame of a tick is listed, and all numbers rise, what is due in those listed is due in all
pub all_listed : (sent : Call → List Sent) (d tick p : ℕ) (ks : List Call) (ns : List ℕ) → AreAbove p (numbers_of ks) → Rise ns → AreListed sent tick ns ks → due_listed sent d (tick + suc d) ns ks ≡ due_in sent (suc d) (tick + suc d) ks
all_listed sent d tick p [] ns above rise listed = listed_none sent d (tick + suc d) ns
all_listed sent d tick p (k ∷ ks) ns above rise listed = along (λ ns rise listed. all_listed sent d tick k.number ks ns above.1 rise listed) ns rise listed
  where
    along : ((ns : List ℕ) → Rise ns → AreListed sent tick ns ks → due_listed sent d (tick + suc d) ns ks ≡ due_in sent (suc d) (tick + suc d) ks) → (ns : List ℕ) → Rise ns → AreListed sent tick ns (k ∷ ks) → due_listed sent d (tick + suc d) ns (k ∷ ks) ≡ due_in sent (suc d) (tick + suc d) (k ∷ ks)
    along further [] rise listed = sym (first_unlisted sent d tick [] k ks (λ has. has) listed ∙ sym (further [] tt listed.1))
    along further (n ∷ ns) rise listed = at (along further ns (rise_behind n ns rise)) (ltb n k.number) refl (k.number == n) refl
      where
        at : (AreListed sent tick ns (k ∷ ks) → due_listed sent d (tick + suc d) ns (k ∷ ks) ≡ due_in sent (suc d) (tick + suc d) (k ∷ ks)) → (a : Bool) → ltb n k.number ≡ a → (b : Bool) → (k.number == n) ≡ b → due_listed sent d (tick + suc d) (n ∷ ns) (k ∷ ks) ≡ due_in sent (suc d) (tick + suc d) (k ∷ ks)
        at without true low b e =
            let less : n < k.number = ltb-true n k.number low in
            first_missing sent d (tick + suc d) n ns (k ∷ ks) (less, above.1) ∙ without (fewer sent tick n n ns (k ∷ ks) (omega arith) (less, above.1) listed)
        at without false high true same =
            let here : k.number ≡ n = eqb-true k.number n same in
            first_listed sent d tick n ns k ks here rise (further ns (rise_behind n ns rise) (fewer sent tick k.number n ns ks (omega arith) above.1 listed.1))
        at without false high false other =
            let least : k.number ≤ n = ltb-false n k.number high in
            let apart : k.number ≡ n → ⊥ = eqb-false k.number n other in
            let less : k.number < n = omega (arith, apart) in
            listed_behind sent d (tick + suc d) k.number (n ∷ ns) k ks (omega arith) (less, rise)
            ∙ further (n ∷ ns) rise listed.1
            ∙ sym (first_unlisted sent d tick (n ∷ ns) k ks (not_among k.number k.number (n ∷ ns) (less, rise) (omega arith)) listed)

-- the calls that are kept are listed, and so are those that they stand for
pub listed_kept : (up : Bool) (floor : LeastPassed) (clock : ℕ → ℕ) (tick : ℕ) (ns : List ℕ) (xs : List kept_call.Call) (ks : List Call) → CallsLag floor clock xs ks → AllByRecursion (λ x. AllByRecursion (λ s. s.tick ≡ tick → IsAmong x.number ns) (if up then x.up else x.down)) xs → AreListed (sent_way up) tick ns ks
listed_kept up floor clock tick ns [] [] h listed = tt
listed_kept up floor clock tick ns [] (k ∷ ks) h listed = absurd h
listed_kept up floor clock tick ns (x ∷ xs) [] h listed = absurd h
listed_kept up floor clock tick ns (x ∷ xs) (k ∷ ks) h listed = (
  subst (λ n. AllByRecursion (λ s. s.tick ≡ tick → IsAmong n ns) (sent_way up k)) (sym h.0.number)
      (subst (AllByRecursion (λ s. s.tick ≡ tick → IsAmong x.number ns)) (way_kept up floor (clock k.number) x k h.0) listed.0),
  listed_kept up floor clock tick ns xs ks h.1 listed.1,
)

-- where one call alone has frames of a tick, what is due in it is due in all
pub one_has_all : (up : Bool) (floor : LeastPassed) (clock : ℕ → ℕ) (d tick n : ℕ) (xs : List kept_call.Call) (ks : List Call) → CallsLag floor clock xs ks → AreAbove 0 (numbers_of ks) → AllByRecursion (λ x. AllByRecursion (λ s. s.tick ≡ tick → x.number ≡ n) (if up then x.up else x.down)) xs → due_in (sent_way up) (suc d) (tick + suc d) (alone (call_of n ks)) ≡ due_in (sent_way up) (suc d) (tick + suc d) ks
one_has_all up floor clock d tick n xs ks h above one =
    let listed = all_into
    (λ (x : kept_call.Call). AllByRecursion (λ s. s.tick ≡ tick → x.number ≡ n) (if up then x.up else x.down))
    (λ (x : kept_call.Call). AllByRecursion (λ s. s.tick ≡ tick → IsAmong x.number (n ∷ [])) (if up then x.up else x.down))
    (λ x. all_into (λ (s : Sent). s.tick ≡ tick → x.number ≡ n) (λ (s : Sent). s.tick ≡ tick → IsAmong x.number (n ∷ [])) (λ s same e. inl (sym (same e))) (if up then x.up else x.down))
    xs one in
    sym (append-nil (due_in (sent_way up) (suc d) (tick + suc d) (alone (call_of n ks))))
    ∙ all_listed (sent_way up) d tick 0 ks (n ∷ []) above tt (listed_kept up floor clock tick (n ∷ []) xs ks h listed)

-- what is due in the call that was found by its number
pub one_found : (up : Bool) (d now n : ℕ) (ss : List Sent) (ks : List Call) (k : Call) → call_of n ks ≡ Some k → ss ≡ sent_way up k → due_frames n (suc d) now ss ≡ due_in (sent_way up) (suc d) now (alone (call_of n ks))
one_found up d now n ss ks k found sent =
    ap (λ m. due_frames m (suc d) now ss) (sym (number_of n ks k found))
    ∙ ap (due_frames k.number (suc d) now) sent
    ∙ sym (append-nil (due_frames k.number (suc d) now (sent_way up k)))
    ∙ sym (ap (λ o. due_in (sent_way up) (suc d) now (alone o)) found)
  where
    number_of : (n : ℕ) (ks : List Call) (k : Call) → call_of n ks ≡ Some k → k.number ≡ n
    number_of n [] k e = cc
    number_of n (x ∷ ks) k e = at (number_of n ks k) (x.number == n) refl e
      where
        at : (call_of n ks ≡ Some k → k.number ≡ n) → (b : Bool) → (x.number == n) ≡ b → (if b then Some x else call_of n ks) ≡ Some k → k.number ≡ n
        at further true same e = let here : x ≡ k = cc in ap (λ z. z.number) (sym here) ∙ eqb-true x.number n same
        at further false other e = further e

-- Where the frames of a tick begin.

-- the one before a place is not of this tick
abbrev pub Begins : (tick place : ℕ) → List ℕ → Type 0
Begins t zero ts = Unit {0}
Begins t (suc p) ts = slice_get ts p ≡ Some t → ⊥

-- of ticks that rise, the first of these is there
pub first_at : (m t p : ℕ) (ts : List ℕ) → AreFrom m ts → slice_get ts p ≡ Some t → Begins t p ts → IsFirstFrom t p ts
first_at m t zero [] rise there begins = record { before = tt; behind = tt }
first_at m t (suc p) [] rise there begins = cc
first_at m t zero (x ∷ xs) rise there begins =
    let same : x ≡ t = cc in
    record { before = tt; behind = (omega (arith, same), all_from x t xs rise.1 (omega (arith, same))) }
first_at m t (suc zero) (x ∷ []) rise there begins = cc
first_at m t (suc zero) (x ∷ y ∷ ys) rise there begins =
    let same : y ≡ t = cc in
    let other : x ≡ t → ⊥ = λ e. begins (ap Some e) in
    let low : x ≤ y = rise.1.0 in
    let rest = first_at x t zero (y ∷ ys) rise.1 there tt in
    record { before = (omega (arith, same, other), tt); behind = rest.behind }
first_at m t (suc (suc p)) (x ∷ []) rise there begins = cc
first_at m t (suc (suc p)) (x ∷ y ∷ ys) rise there begins =
    let rest = first_at x t (suc p) (y ∷ ys) rise.1 there begins in
    let next : y < t = rest.before.0 in
    let low : x ≤ y = rise.1.0 in
    record { before = (omega arith, rest.before); behind = rest.behind }
