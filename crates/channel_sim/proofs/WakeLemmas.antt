-- Sessions that are known to do nothing in fewer ticks than so many.
use Rattle.std.proofs.Common.{◌≡◌, ℕ, ◌+◌, ◌-◌, ◌<◌, ◌≤◌, zero, suc, false, Bool, Option, Some, None, IfSome, List, [], ◌∷◌, get_or, refl, ap, sym, subst, arith}
use Rattle.std.proofs.Math.ListN.{set}
use Rattle.link_frames.specs.declared.note.Note.{Note}
use Rattle.link_frames.specs.Row.{Row}
use Rattle.psap_machine.specs.declared.session.Session.{Session}
use Rattle.psap_machine.specs.Point.{Point}
use Rattle.psap_machine.specs.PointRows as point
use Rattle.psap_machine.specs.SessionStands.{SessionStandsFor}
use Rattle.channel_sim.specs.declared.calls.call.Call as kept_call
use Rattle.channel_sim.specs.World.{Call}
use Rattle.channel_sim.specs.inner.Acts.{CallDid, SessionDid}
use Rattle.channel_sim.specs.inner.Beside.{Waits}
use Rattle.channel_sim.specs.inner.Places.{place_of}
use Rattle.channel_sim.specs.inner.Turns.{WaitsUntil}
use Rattle.channel_sim.specs.inner.Seats.{DueLater, IsQuietFor}
use Rattle.channel_sim.specs.Lag.{LeastPassed, AreSameBut, SessionLags, SeatLags, CallLags, CallsLag}
use Rattle.channel_sim.specs.Tidy.{AreAbove, numbers_of}
use Rattle.channel_sim.specs.Quiet.{SessionRests, CallRests}
use Rattle.channel_sim.proofs.CallsLemmas.{did_at}
use Rattle.channel_sim.proofs.EndJump.{point_later}
use Rattle.channel_sim.proofs.LagLemmas.{rested, nobody_acts, session_passed, lags_by}

seat_quiet : (m n : ℕ) (a : Option Session) (b : Option Point) → SeatLags m a b → DueLater (m + n) a → IfSome b (SessionRests n)
seat_quiet m n None None h later = tt
seat_quiet m n None (Some s) h later = absurd h
seat_quiet m n (Some k) None h later = absurd h
seat_quiet m n (Some k) (Some s) h later =
    record {
      due = subst (λ z. IfSome (point.due_of z) (λ due. n < due)) (sym h.aged) (point_later m n h.was (later h.was h.stands));
      live = h.live;
    }

-- a call whose session does nothing before a tick rests up to it
pub call_until : (floor : LeastPassed) (tick n until : ℕ) (x : kept_call.Call) (k : Call) → CallLags floor tick x k → WaitsUntil until x → tick + n < until → CallRests n k
call_until floor tick n until x k h wait low =
    let within : x.passed ≤ tick = h.passed in
    seat_quiet (tick - x.passed) n x.session k.session h.session (wait ((tick - x.passed) + n) (omega arith))

-- a session that waits up to the next tick does nothing at it
pub wait_did : (floor : LeastPassed) (before tick : ℕ) (x : kept_call.Call) (k : Call) → CallLags floor before x k → before + 1 ≡ tick → Waits tick x → CallDid floor tick false [] x k point.unit_row
wait_did floor before tick x k h next wait = at x.session refl
  where
    at : (o : Option Session) → x.session ≡ o → CallDid floor tick false [] x k point.unit_row
    at None e = nobody_acts floor before tick x k point.unit_row h (omega (arith, next)) e
    at (Some session) e = rested floor before tick x k session h next e (subst (DueLater (tick - x.passed)) e wait)

-- the same of one that is quiet for longer
pub quiet_did : (floor : LeastPassed) (before tick quiet : ℕ) (x : kept_call.Call) (k : Call) → CallLags floor before x k → before + 1 ≡ tick → IsQuietFor quiet x.session → tick - x.passed < quiet → CallDid floor tick false [] x k point.unit_row
quiet_did floor before tick quiet x k h next known low = wait_did floor before tick x k h next (known (tick - x.passed) low)

-- the call at a place, written back
pub written_same : (xs : List kept_call.Call) (i : ℕ) (d : kept_call.Call) → set xs i (get_or xs i d) ≡ xs
written_same [] i d = refl
written_same (x ∷ xs) zero d = refl
written_same (x ∷ xs) (suc i) d = ap (λ ys. x ∷ ys) (written_same xs i d)

-- and of the call at a place among others
pub waiting_did : (floor : LeastPassed) (before after : ℕ → ℕ) (tick c : ℕ) (xs : List kept_call.Call) (ks : List Call) (i : ℕ) (d : kept_call.Call) → CallsLag floor before xs ks → AreAbove 0 (numbers_of ks) → place_of c (numbers_of ks) ≡ Some i → AreSameBut c before after → before c + 1 ≡ tick → after c ≡ tick → Waits tick (get_or xs i d) → SessionDid floor after false [] xs c point.unit_row ks
waiting_did floor before after tick c xs ks i d h above place others next passed wait =
    subst (λ ys. SessionDid floor after false [] ys c point.unit_row ks) (written_same xs i d)
    (did_at floor before after 0 c point.unit_row false [] xs ks i d (get_or xs i d) h above place others
    (λ k number lags. subst (λ t. CallDid floor t false [] (get_or xs i d) k point.unit_row) (sym passed) (wait_did floor (before c) tick (get_or xs i d) k lags next wait)))

-- The call that did this, by its equations.

pub heard_as : (floor : LeastPassed) (clock : ℕ) (done : Bool) (items : List Note) (x y : kept_call.Call) (a b : Option Session) (k : Call) (row : Point → Row Point) → y ≡ x → b ≡ a → CallDid floor clock done items (record x { session = a }) k row → CallDid floor clock done items (record y { session = b }) k row
heard_as floor clock done items x y a b k row same seat did =
    subst (λ (z : kept_call.Call). CallDid floor clock done items (record z { session = b }) k row) (sym same)
    (subst (λ (o : Option Session). CallDid floor clock done items (record x { session = o }) k row) (sym seat) did)

pub acted_as : (floor : LeastPassed) (clock : ℕ) (done : Bool) (items : List Note) (x y : kept_call.Call) (a b : Option Session) (k : Call) (row : Point → Row Point) → y ≡ x → b ≡ a → CallDid floor clock done items (record x { session = a; passed = clock }) k row → CallDid floor clock done items (record y { session = b; passed = clock }) k row
acted_as floor clock done items x y a b k row same seat did =
    subst (λ (z : kept_call.Call). CallDid floor clock done items (record z { session = b; passed = clock }) k row) (sym same)
    (subst (λ (o : Option Session). CallDid floor clock done items (record x { session = o; passed = clock }) k row) (sym seat) did)

-- a session that was passed by all ticks that it lagged by
pub passed_whole : (n lag : ℕ) (old new : Session) (s : Point) → n ≡ lag → 0 < lag → ((q : Point) → SessionStandsFor old q → SessionStandsFor new (point.units n q).new) → SessionLags lag old s → SessionLags 0 new s
passed_whole n lag old new s e some passes h =
    lags_by (lag - n) 0 new s (omega (arith, e)) (session_passed n lag old new s (omega (arith, e)) (omega (arith, e)) passes h)
