-- The unit tick of the sessions, from turn to turn: those of the calls between wait, and give nothing at it.
use Rattle.std.proofs.Common.{◌≡◌, ◌≢◌, ℕ, zero, suc, ◌+◌, ◌-◌, ◌<◌, ◌≤◌, ◌==◌, ◌||◌, ◌⊎◌, inl, inr, if◌then◌else◌, Bool, true, false, Option, Some, None, List, [], ◌∷◌, ◌++◌, length, get_or, refl, ap, sym, ◌∙◌, subst, arith, append-nil}
use Rattle.std.proofs.Math.Dec.{ltb}
use Rattle.std.proofs.lemmas.Bool.{eq-eqb, ne_eqb, eqb-true, eqb-false, le-ltb, lt-ltb, ltb-true, ltb-false}
use Rattle.std.proofs.lemmas.List.{set-get_or}
use Rattle.std.specs.List.{AllByRecursion}
use Rattle.psap_machine.specs.declared.session.Session.{Session}
use Rattle.psap_machine.specs.PointRows as point
use Rattle.channel_sim.specs.declared.calls.call.Call as kept_call
use Rattle.channel_sim.specs.declared.channel.Channel as kept_channel
use Rattle.channel_sim.specs.World.{Call, World, Step, quiet_step, and_then, each, settled, session_acts, session_of, session_passes, sessions_pass}
use Rattle.channel_sim.specs.inner.Acts.{CallDid, SessionDid}
use Rattle.channel_sim.specs.inner.Beside.{Waits, WaitsBetween}
use Rattle.channel_sim.specs.inner.Places.{next_place, place_of}
use Rattle.channel_sim.specs.inner.Seats.{DueLater}
use Rattle.channel_sim.specs.inner.Turns.{IsBelow}
use Rattle.channel_sim.specs.Lag.{LeastPassed, AreSameBut, CallLags, CallsLag, StandsAt, waits, clock_of}
use Rattle.channel_sim.specs.Passes.{passes_of}
use Rattle.channel_sim.specs.Tidy.{AreAbove, numbers_of}
use Rattle.channel_sim.proofs.BoundLemmas.{passes_front, passes_more}
use Rattle.channel_sim.proofs.CallsLemmas.{all_stood, did_at, lags_elsewhere, no_session, place_within, same_numbers}
use Rattle.channel_sim.proofs.FlowRests.{Stays, each_holds, session_acts_holds, settled_holds}
use Rattle.channel_sim.proofs.LagLemmas.{nobody_acts, rested}
use Rattle.channel_sim.proofs.PassLemmas.{all_wait, clock_first, clock_gone, clock_same, clocks_begin, not_waiting, reclocked, rests_step}
use Rattle.channel_sim.proofs.PlaceLemmas.{above_less, below_other, place_behind}
use Rattle.channel_sim.proofs.StepLemmas.{each_one, each-append, followed_by, map_length, quiet_behind}

-- Numbers that rise, up to one and from one on.

-- those in front that are below one
abbrev pub low_of : ℕ → List ℕ → List ℕ
low_of from [] = []
low_of from (n ∷ ns) = if ltb n from then n ∷ low_of from ns else []

-- and those from it on
abbrev pub high_of : ℕ → List ℕ → List ℕ
high_of from [] = []
high_of from (n ∷ ns) = if ltb n from then high_of from ns else n ∷ ns

low_high : (from : ℕ) (ns : List ℕ) → low_of from ns ++ high_of from ns ≡ ns
low_high from [] = refl
low_high from (n ∷ ns) = at (ltb n from) (low_high from ns)
  where
    at : (b : Bool) → low_of from ns ++ high_of from ns ≡ ns → (if b then n ∷ low_of from ns else []) ++ (if b then high_of from ns else n ∷ ns) ≡ n ∷ ns
    at true rest = ap (λ z. n ∷ z) rest
    at false rest = refl

low_more : (from to : ℕ) (ns : List ℕ) → from ≤ to → low_of to ns ≡ low_of from ns ++ low_of to (high_of from ns)
low_more from to [] up = refl
low_more from to (n ∷ ns) up = at (ltb n from) refl (low_more from to ns up)
  where
    at : (b : Bool) → ltb n from ≡ b → low_of to ns ≡ low_of from ns ++ low_of to (high_of from ns) → low_of to (n ∷ ns) ≡ (if b then n ∷ low_of from ns else []) ++ low_of to (if b then high_of from ns else n ∷ ns)
    at true e rest =
        let below : n < from = ltb-true n from e in
        ap (λ b. if b then n ∷ low_of to ns else []) (lt-ltb n to (omega arith)) ∙ ap (λ z. n ∷ z) rest
    at false e rest = refl

high_more : (from to : ℕ) (ns : List ℕ) → from ≤ to → high_of to ns ≡ high_of to (high_of from ns)
high_more from to [] up = refl
high_more from to (n ∷ ns) up = at (ltb n from) refl (high_more from to ns up)
  where
    at : (b : Bool) → ltb n from ≡ b → high_of to ns ≡ high_of to (high_of from ns) → high_of to (n ∷ ns) ≡ high_of to (if b then high_of from ns else n ∷ ns)
    at true e rest =
        let below : n < from = ltb-true n from e in
        ap (λ b. if b then high_of to ns else n ∷ ns) (lt-ltb n to (omega arith)) ∙ rest
    at false e rest = refl

low_below : (from : ℕ) (ns : List ℕ) → AllByRecursion (λ m. m < from) (low_of from ns)
low_below from [] = tt
low_below from (n ∷ ns) = at (ltb n from) refl (low_below from ns)
  where
    at : (b : Bool) → ltb n from ≡ b → AllByRecursion (λ m. m < from) (low_of from ns) → AllByRecursion (λ m. m < from) (if b then n ∷ low_of from ns else [])
    at true e rest = (ltb-true n from e, rest)
    at false e rest = tt

low_all : (P : ℕ → Type 0) (from : ℕ) (ns : List ℕ) → AllByRecursion P ns → AllByRecursion P (low_of from ns)
low_all P from [] h = tt
low_all P from (n ∷ ns) h = at (ltb n from) (low_all P from ns h.1)
  where
    at : (b : Bool) → AllByRecursion P (low_of from ns) → AllByRecursion P (if b then n ∷ low_of from ns else [])
    at true rest = (h.0, rest)
    at false rest = tt

all_from : (from n : ℕ) (ns : List ℕ) → AreAbove n ns → from ≤ n + 1 → AllByRecursion (λ m. from ≤ m) ns
all_from from n [] h low = tt
all_from from n (x ∷ ns) h low = let above : n < x = h.0 in (omega arith, all_from from x ns h.1 (omega arith))

high_from : (from least : ℕ) (ns : List ℕ) → AreAbove least ns → AllByRecursion (λ m. from ≤ m) (high_of from ns)
high_from from least [] h = tt
high_from from least (n ∷ ns) h = at (ltb n from) refl (high_from from n ns h.1)
  where
    at : (b : Bool) → ltb n from ≡ b → AllByRecursion (λ m. from ≤ m) (high_of from ns) → AllByRecursion (λ m. from ≤ m) (if b then high_of from ns else n ∷ ns)
    at true e rest = rest
    at false e rest = let up : from ≤ n = ltb-false n from e in (up, all_from from n ns h.1 (omega arith))

high_above : (from least : ℕ) (ns : List ℕ) → AreAbove least ns → AreAbove least (high_of from ns)
high_above from least [] h = tt
high_above from least (n ∷ ns) h = at (ltb n from) (high_above from n ns h.1)
  where
    at : (b : Bool) → AreAbove n (high_of from ns) → AreAbove least (if b then high_of from ns else n ∷ ns)
    at true rest = let low : least < n = h.0 in above_less n least (high_of from ns) rest (omega arith)
    at false rest = h

none_low : (to : ℕ) (ns : List ℕ) → AllByRecursion (λ m. to ≤ m) ns → (low_of to ns ≡ []) × (high_of to ns ≡ ns)
none_low to [] h = (refl, refl)
none_low to (n ∷ ns) h =
    (ap (λ b. if b then n ∷ low_of to ns else []) (le-ltb n to h.0), ap (λ b. if b then high_of to ns else n ∷ ns) (le-ltb n to h.0))

-- a number leads these
record Leads (number : ℕ) (ns : List ℕ) : Type 0 where
  pub low : low_of (number + 1) ns ≡ number ∷ []
  pub high : ns ≡ number ∷ high_of (number + 1) ns
  pub above : AreAbove number (high_of (number + 1) ns)

-- or it is none of them
record Lacks (number : ℕ) (ns : List ℕ) : Type 0 where
  pub low : low_of (number + 1) ns ≡ []
  pub high : high_of (number + 1) ns ≡ ns
  pub none : waits number ns ≡ false

leads_or_lacks : (number least : ℕ) (ns : List ℕ) → AllByRecursion (λ m. number ≤ m) ns → AreAbove least ns → Leads number ns ⊎ Lacks number ns
leads_or_lacks number least [] from h = inr (record { low = refl; high = refl; none = refl })
leads_or_lacks number least (n ∷ ns) from h = at (n == number) refl
  where
    at : (b : Bool) → (n == number) ≡ b → Leads number (n ∷ ns) ⊎ Lacks number (n ∷ ns)
    at true e =
        let same : n ≡ number = eqb-true n number e in
        let rest = none_low (number + 1) ns (all_from (number + 1) n ns h.1 (omega arith)) in
        let first : ltb n (number + 1) ≡ true = lt-ltb n (number + 1) (omega arith) in
        let low : low_of (number + 1) (n ∷ ns) ≡ number ∷ [] = ap (λ b. if b then n ∷ low_of (number + 1) ns else []) first ∙ ap (λ z. n ∷ z) rest.0 ∙ ap (λ z. z ∷ []) same in
        let high : high_of (number + 1) (n ∷ ns) ≡ ns = ap (λ b. if b then high_of (number + 1) ns else n ∷ ns) first ∙ rest.1 in
        inl (record {
          low = low;
          high = ap (λ z. z ∷ ns) same ∙ ap (λ z. number ∷ z) (sym high);
          above = subst (AreAbove number) (sym high) (subst (λ z. AreAbove z ns) same h.1);
        })
    at false e =
        let least : number ≤ n = from.0 in
        let other : n ≢ number = eqb-false n number e in
        let rest = none_low (number + 1) (n ∷ ns) (omega arith, all_from (number + 1) n ns h.1 (omega arith)) in
        inr (record {
          low = rest.0;
          high = rest.1;
          none = ap (λ b. b || waits number ns) e ∙ not_waiting n number ns h.1 least;
        })

-- one that is none of those from it on is none of all
absent : (number : ℕ) (ns : List ℕ) → waits number (high_of number ns) ≡ false → waits number ns ≡ false
absent number [] none = refl
absent number (n ∷ ns) none = at (ltb n number) refl (absent number ns) none
  where
    at : (b : Bool) → ltb n number ≡ b → (waits number (high_of number ns) ≡ false → waits number ns ≡ false) → waits number (if b then high_of number ns else n ∷ ns) ≡ false → waits number (n ∷ ns) ≡ false
    at true e rest none = ap (λ b. b || waits number ns) (below_other n number (ltb-true n number e)) ∙ rest none
    at false e rest none = none

-- Sessions that wait.

waits_did : (floor : LeastPassed) (before tick : ℕ) (x : kept_call.Call) (k : Call) → CallLags floor before x k → before + 1 ≡ tick → Waits tick x → CallDid floor tick false [] x k point.unit_row
waits_did floor before tick x k h next wait = at x.session refl
  where
    at : (o : Option Session) → x.session ≡ o → CallDid floor tick false [] x k point.unit_row
    at None e = nobody_acts floor before tick x k point.unit_row h (omega (arith, next)) e
    at (Some session) e = rested floor before tick x k session h next e (subst (DueLater (tick - x.passed)) e wait)

item_at : (P : kept_call.Call → Type 0) (xs : List kept_call.Call) (i : ℕ) (d : kept_call.Call) → AllByRecursion P xs → i < length xs → P (get_or xs i d)
item_at P [] i d h inside = absurd (omega arith)
item_at P (x ∷ xs) zero d h inside = h.0
item_at P (x ∷ xs) (suc i) d h inside = item_at P xs i d h.1 (omega arith)

no_call : kept_call.Call
no_call = record { number = 0; session = None; passed = 0; up = []; down = [] }

-- the session of the call of this number, which waits, does nothing at the next tick
session_waits : (ahead : ℕ) (floor : LeastPassed) (old new : ℕ → ℕ) (from : ℕ) (to : Option ℕ) (number : ℕ) (xs : List kept_call.Call) (ks : List Call)
    → CallsLag floor old xs ks
    → AreAbove 0 (numbers_of ks)
    → old number + 1 ≡ ahead
    → new number ≡ ahead
    → AreSameBut number old new
    → from ≤ number
    → IsBelow number to
    → AllByRecursion (WaitsBetween from to ahead) xs
    → SessionDid floor new false [] xs number point.unit_row ks
session_waits ahead floor old new from to number xs ks h above next gone others up below wait = at (place_of number (numbers_of ks)) refl
  where
    at : (o : Option ℕ) → place_of number (numbers_of ks) ≡ o → SessionDid floor new false [] xs number point.unit_row ks
    at None e = lags_elsewhere floor old new 0 number point.unit_row xs ks h above e others
    at (Some i) e =
        let x : kept_call.Call = get_or xs i no_call in
        let inside : i < length xs = subst (λ n. i < n) (ap length (same_numbers floor old xs ks h) ∙ map_length (λ (y : kept_call.Call). y.number) xs) (place_within number (numbers_of ks) i e).0 in
        subst (λ (ys : List kept_call.Call). SessionDid floor new false [] ys number point.unit_row ks) (set-get_or xs i no_call)
        (did_at floor old new 0 number point.unit_row false [] xs ks i no_call x h above e others
        (λ k here lags.
        let same : x.number ≡ number = sym lags.number ∙ here in
        let passed : x.passed ≤ old number = lags.passed in
        subst (λ t. CallDid floor t false [] x k point.unit_row) (sym gone)
        (waits_did floor (old number) ahead x k lags next
        (item_at (WaitsBetween from to ahead) xs i no_call wait inside (subst (λ n. from ≤ n) (sym same) up) (subst (λ n. IsBelow n to) (sym same) below) (omega (arith, next))))))

-- those of these calls, which wait, give nothing at their unit ticks
waiting_pass : (ahead : ℕ) (floor : LeastPassed) (before from : ℕ) (to : Option ℕ) (kept : kept_channel.Channel) (xs ys : List ℕ) (least : ℕ) (w : World)
    → before + 1 ≡ ahead
    → AllByRecursion (WaitsBetween from to ahead) kept.calls
    → AllByRecursion (λ m. from ≤ m) xs
    → AllByRecursion (λ m. IsBelow m to) xs
    → AreAbove least (xs ++ ys)
    → StandsAt ahead floor (clock_of before (xs ++ ys)) kept w
    → ((each session_passes xs w).entries ≡ []) × StandsAt ahead floor (clock_of before ys) kept (each session_passes xs w).world
waiting_pass ahead floor before from to kept [] ys least w next wait up below above s = (refl, s)
waiting_pass ahead floor before from to kept (m ∷ xs) ys least w next wait up below above s =
    let others : List ℕ = xs ++ ys in
    let did = session_waits ahead floor (clock_of before (m ∷ others)) (clock_of before others) from to m kept.calls w.calls s.calls s.tidy.numbers
    (ap (λ t. t + 1) (clock_first before m others) ∙ next) (clock_gone before m others above.1 ∙ next) (clock_same before m others) up.0 below.0 wait in
    let one = rests_step ahead floor (clock_of before (m ∷ others)) (clock_of before others) kept kept w m false [] point.unit_row s refl refl refl did in
    let rest = waiting_pass ahead floor before from to kept xs ys m (session_passes m w).world next wait up.1 below.1 above.1 one.1 in
    (ap (λ es. es ++ (each session_passes xs (session_passes m w).world).entries) one.0 ∙ rest.0, rest.1)

-- Steps up to a call number.

-- the unit tick of the sessions of the calls below a number
abbrev pub passed_to : ℕ → World → Step
passed_to from w = each session_passes (low_of from (numbers_of w.calls)) w

-- the calls from a number on, whose sessions were not passed yet
abbrev pub to_pass : ℕ → World → List ℕ
to_pass from w = high_of from (numbers_of w.calls)

-- the unit tick of all sessions goes on from any number
pub passed_then : (from : ℕ) (w : World) → sessions_pass w ≡ and_then (passed_to from w) (each session_passes (to_pass from w))
passed_then from w =
    ap (λ ns. each session_passes ns w) (sym (low_high from (numbers_of w.calls)))
    ∙ each-append session_passes (low_of from (numbers_of w.calls)) (to_pass from w) w

-- before the first call no session was passed
pub passes_begin : (ahead : ℕ) (floor : LeastPassed) (before : ℕ) (kept : kept_channel.Channel) (w : World) → StandsAt ahead floor (λ c. before) kept w → ((passed_to 0 w).entries ≡ []) × StandsAt ahead floor (clock_of before (to_pass 0 w)) kept (passed_to 0 w).world
passes_begin ahead floor before kept w s =
    let none = none_low 0 (numbers_of w.calls) (all_from 0 0 (numbers_of w.calls) s.tidy.numbers (omega arith)) in
    subst (λ ns. ((each session_passes ns w).entries ≡ []) × StandsAt ahead floor (clock_of before (to_pass 0 w)) kept (each session_passes ns w).world) (sym none.0)
    (refl, reclocked ahead floor (λ c. before) (clock_of before (to_pass 0 w)) kept w s (clocks_begin floor before (to_pass 0 w) kept.calls w.calls none.1 s.calls))

-- What a step came to that gave no more than one before it.
pub record Skips (ahead : ℕ) (floor : LeastPassed) (clock : ℕ → ℕ) (kept : kept_channel.Channel) (old new : Step) : Type 0 where
  pub entries : new.entries ≡ old.entries
  pub stands : StandsAt ahead floor clock kept new.world
  pub passes : (m most : ℕ) → most ≤ m + passes_of old → most ≤ m + passes_of new

skips : (ahead : ℕ) (floor : LeastPassed) (clock : ℕ → ℕ) (kept : kept_channel.Channel) (old new : Step) (ns : List ℕ) → new ≡ and_then old (each session_passes ns) → ((each session_passes ns old.world).entries ≡ []) × StandsAt ahead floor clock kept (each session_passes ns old.world).world → Skips ahead floor clock kept old new
skips ahead floor clock kept old new ns e h =
    subst (λ (z : Step). Skips ahead floor clock kept old z) (sym e)
    (record {
      entries = ap (λ es. old.entries ++ es) h.0 ∙ append-nil old.entries;
      stands = h.1;
      passes = λ m most few. passes_front old (each session_passes ns) m most few;
    })

-- the sessions of the calls up to the one that was found wait
skipped : (ahead : ℕ) (floor : LeastPassed) (before from number : ℕ) (kept : kept_channel.Channel) (w : World)
    → AreAbove 0 (numbers_of w.calls)
    → before + 1 ≡ ahead
    → from ≤ number
    → AllByRecursion (WaitsBetween from (Some number) ahead) kept.calls
    → StandsAt ahead floor (clock_of before (to_pass from w)) kept (passed_to from w).world
    → Skips ahead floor (clock_of before (to_pass number w)) kept (passed_to from w) (passed_to number w)
skipped ahead floor before from number kept w above next up wait s =
    let ns : List ℕ = numbers_of w.calls in
    let ms : List ℕ = high_of from ns in
    let split : low_of number ms ++ high_of number ms ≡ ms = low_high number ms in
    subst (λ left. Skips ahead floor (clock_of before left) kept (passed_to from w) (passed_to number w)) (sym (high_more from number ns up))
    (skips ahead floor (clock_of before (high_of number ms)) kept (passed_to from w) (passed_to number w) (low_of number ms)
    (ap (λ z. each session_passes z w) (low_more from number ns up) ∙ each-append session_passes (low_of from ns) (low_of number ms) w)
    (waiting_pass ahead floor before from (Some number) kept (low_of number ms) (high_of number ms) 0 (passed_to from w).world next wait
    (low_all (λ m. from ≤ m) number ms (high_from from 0 ns above)) (low_below number ms)
    (subst (AreAbove 0) (sym split) (high_above from 0 ns above))
    (subst (λ z. StandsAt ahead floor (clock_of before z) kept (passed_to from w).world) (sym split) s)))

all_below : (ns : List ℕ) → AllByRecursion (λ m. IsBelow m None) ns
all_below [] = tt
all_below (n ∷ ns) = (tt, all_below ns)

-- and where none was found those of all others
pub all_skipped : (ahead : ℕ) (floor : LeastPassed) (before from : ℕ) (first kept : kept_channel.Channel) (w : World)
    → StandsAt ahead floor (λ c. before) first w
    → ahead ≡ first.tick
    → before + 1 ≡ ahead
    → kept.tick ≡ first.tick
    → AllByRecursion (WaitsBetween from None kept.tick) kept.calls
    → StandsAt ahead floor (clock_of before (to_pass from w)) kept (passed_to from w).world
    → Skips ahead floor (λ c. ahead) kept (passed_to from w) (sessions_pass w)
all_skipped ahead floor before from first kept w begun now next same wait s =
    let ns : List ℕ = numbers_of w.calls in
    let ms : List ℕ = high_of from ns in
    let above : AreAbove 0 ns = begun.tidy.numbers in
    subst (λ t. Skips ahead floor (λ c. t) kept (passed_to from w) (sessions_pass w)) next
    (skips ahead floor (clock_of before []) kept (passed_to from w) (sessions_pass w) ms (passed_then from w)
    (waiting_pass ahead floor before from None kept ms [] 0 (passed_to from w).world next
    (subst (λ t. AllByRecursion (WaitsBetween from None t) kept.calls) (same ∙ sym now) wait)
    (high_from from 0 ns above) (all_below ms)
    (subst (AreAbove 0) (sym (append-nil ms)) (high_above from 0 ns above))
    (subst (λ z. StandsAt ahead floor (clock_of before z) kept (passed_to from w).world) (sym (append-nil ms)) s)))

-- The calls whose sessions were passed, and those that were not, are the calls that there were.

of_numbers : (P : ℕ → Type 0) (ks : List Call) → AllByRecursion P (numbers_of ks) → AllByRecursion (λ k. P k.number) ks
of_numbers P [] h = tt
of_numbers P (k ∷ ks) h = (h.0, of_numbers P ks h.1)

number_stays : (ns : List ℕ) → Stays (λ up down tick k. waits k.number ns ≡ true)
number_stays ns = record { seat = λ up down tick k o h. h; carry = λ up down tick k items h. h }

still_among : (before : ℕ) (ms ns : List ℕ) (w : World) → w.tick ≡ before + 1 → AllByRecursion (λ k. waits k.number ns ≡ true) w.calls → AllByRecursion (λ k. waits k.number ns ≡ true) (each session_passes ms w).world.calls
still_among before ms ns w now all =
    let held = each_holds (λ up down tick k. waits k.number ns ≡ true) before session_passes ms w
    (λ c u held. settled_holds (λ up down tick k. waits k.number ns ≡ true) (number_stays ns) before (session_acts c u point.unit_row (session_of c u.calls)) (session_acts_holds (λ up down tick k. waits k.number ns ≡ true) (number_stays ns) before c u point.unit_row (session_of c u.calls) held))
    (now, all) in
    held.1

nowhere : (number : ℕ) (ns : List ℕ) (ks : List Call) → waits number ns ≡ false → AllByRecursion (λ k. waits k.number ns ≡ true) ks → place_of number (numbers_of ks) ≡ None
nowhere number ns [] none all = refl
nowhere number ns (k ∷ ks) none all = at (k.number == number) refl (nowhere number ns ks none all.1)
  where
    at : (b : Bool) → (k.number == number) ≡ b → place_of number (numbers_of ks) ≡ None → place_of number (numbers_of (k ∷ ks)) ≡ None
    at true e rest =
        let wrong : true ≡ false = sym all.0 ∙ ap (λ c. waits c ns) (eqb-true k.number number e) ∙ none in cc
    at false e rest = place_behind number k.number (numbers_of ks) e ∙ ap next_place rest

-- The session of the call that was found is passed, if there still is such a call.
record Turns (ahead : ℕ) (floor : LeastPassed) (before number : ℕ) (kept : kept_channel.Channel) (left : List ℕ) (old new : Step) : Type 0 where
  pub clock : ℕ → ℕ
  pub stands : StandsAt ahead floor clock kept old.world
  pub next : clock number + 1 ≡ ahead
  pub gone : clock_of before left number ≡ ahead
  pub others : AreSameBut number clock (clock_of before left)
  pub more : new ≡ and_then old (session_passes number)

turns : (ahead : ℕ) (floor : LeastPassed) (before number : ℕ) (kept : kept_channel.Channel) (w : World)
    → AreAbove 0 (numbers_of w.calls)
    → w.tick ≡ before + 1
    → before + 1 ≡ ahead
    → StandsAt ahead floor (clock_of before (to_pass number w)) kept (passed_to number w).world
    → Turns ahead floor before number kept (to_pass (number + 1) w) (passed_to number w) (passed_to (number + 1) w)
turns ahead floor before number kept w above now next s =
    at (leads_or_lacks number 0 (to_pass number w) (high_from number 0 (numbers_of w.calls) above) (high_above number 0 (numbers_of w.calls) above))
  where
    ns : List ℕ
    ns = numbers_of w.calls

    ms : List ℕ
    ms = to_pass number w

    old : Step
    old = passed_to number w

    rest : high_of (number + 1) ns ≡ high_of (number + 1) ms
    rest = high_more number (number + 1) ns (omega arith)

    at : Leads number ms ⊎ Lacks number ms → Turns ahead floor before number kept (to_pass (number + 1) w) old (passed_to (number + 1) w)
    at (inl h) =
        let left : List ℕ = high_of (number + 1) ms in
        subst (λ z. Turns ahead floor before number kept z old (passed_to (number + 1) w)) (sym rest)
        (record {
          clock = clock_of before (number ∷ left);
          stands = subst (λ z. StandsAt ahead floor (clock_of before z) kept old.world) h.high s;
          next = ap (λ t. t + 1) (clock_first before number left) ∙ next;
          gone = clock_gone before number left h.above ∙ next;
          others = clock_same before number left;
          more =
              ap (λ z. each session_passes z w) (low_more number (number + 1) ns (omega arith) ∙ ap (λ z. low_of number ns ++ z) h.low)
              ∙ each-append session_passes (low_of number ns) (number ∷ []) w
              ∙ ap (followed_by old) (each_one session_passes number old.world);
        })
    at (inr h) =
        let u : World = old.world in
        let known : AllByRecursion (λ k. waits k.number ns ≡ true) w.calls = of_numbers (λ c. waits c ns ≡ true) w.calls (all_wait ns) in
        let none : place_of number (numbers_of u.calls) ≡ None = nowhere number ns u.calls (absent number ns h.none) (still_among before (low_of number ns) ns w now known) in
        let gives : session_passes number u ≡ quiet_step u = ap (λ o. settled (session_acts number u point.unit_row o)) (no_session number u.calls none) in
        subst (λ z. Turns ahead floor before number kept z old (passed_to (number + 1) w)) (sym (rest ∙ h.high))
        (record {
          clock = λ c. if c == number then before else clock_of before ms c;
          stands =
              reclocked ahead floor (clock_of before ms) (λ c. if c == number then before else clock_of before ms c) kept u s
              (all_stood floor (clock_of before ms) (λ c. if c == number then before else clock_of before ms c) number kept.calls u.calls s.calls none
              (λ c other. sym (ap (λ b. if b then before else clock_of before ms c) (ne_eqb c number other))));
          next = ap (λ b. (if b then before else clock_of before ms number) + 1) (eq-eqb number number refl) ∙ next;
          gone = ap (λ b. if b then before else before + 1) h.none ∙ next;
          others = λ c other. ap (λ b. if b then before else clock_of before ms c) (ne_eqb c number other);
          more =
              ap (λ z. each session_passes z w) (low_more number (number + 1) ns (omega arith) ∙ ap (λ z. low_of number ns ++ z) h.low ∙ append-nil (low_of number ns))
              ∙ sym (quiet_behind old)
              ∙ ap (followed_by old) (sym gives);
        })

-- The next call was found: how the step goes on, over those between and its own session.
pub record Found (ahead : ℕ) (floor : LeastPassed) (before from number : ℕ) (kept : kept_channel.Channel) (w : World) : Type 0 where
  pub clock : ℕ → ℕ
  pub stands : StandsAt ahead floor clock kept (passed_to number w).world
  pub next : clock number + 1 ≡ ahead
  pub gone : clock_of before (to_pass (number + 1) w) number ≡ ahead
  pub others : AreSameBut number clock (clock_of before (to_pass (number + 1) w))
  pub entries : (passed_to (number + 1) w).entries ≡ (passed_to from w).entries ++ (session_passes number (passed_to number w).world).entries
  pub world : (passed_to (number + 1) w).world ≡ (session_passes number (passed_to number w).world).world
  pub passes : (m old most : ℕ) → old ≤ m + passes_of (passed_to from w) → most ≤ old + passes_of (session_passes number (passed_to number w).world) → most ≤ m + passes_of (passed_to (number + 1) w)

pub found : (ahead : ℕ) (floor : LeastPassed) (before from number : ℕ) (first kept : kept_channel.Channel) (w : World)
    → StandsAt ahead floor (λ c. before) first w
    → ahead ≡ first.tick
    → before + 1 ≡ ahead
    → kept.tick ≡ first.tick
    → from ≤ number
    → AllByRecursion (WaitsBetween from (Some number) kept.tick) kept.calls
    → StandsAt ahead floor (clock_of before (to_pass from w)) kept (passed_to from w).world
    → Found ahead floor before from number kept w
found ahead floor before from number first kept w begun now next same up wait s =
    let above : AreAbove 0 (numbers_of w.calls) = begun.tidy.numbers in
    let skip = skipped ahead floor before from number kept w above next up (subst (λ t. AllByRecursion (WaitsBetween from (Some number) t) kept.calls) (same ∙ sym now) wait) s in
    let turn = turns ahead floor before number kept w above (begun.tick ∙ sym now ∙ sym next) next skip.stands in
    let step : World → Step = session_passes number in
    record {
      clock = turn.clock;
      stands = turn.stands;
      next = turn.next;
      gone = turn.gone;
      others = turn.others;
      entries = ap (λ (z : Step). z.entries) turn.more ∙ ap (λ es. es ++ (step (passed_to number w).world).entries) skip.entries;
      world = ap (λ (z : Step). z.world) turn.more;
      passes =
          λ m old most few more.
          subst (λ (z : Step). most ≤ m + passes_of z) (sym turn.more)
          (passes_more (passed_to number w) step m old most (skip.passes m old few) more);
    }
