-- A session of a call that lags, that hears something, or that acts.
use Rattle.std.proofs.Common.{◌≡◌, ℕ, ◌-◌, ◌<◌, ◌≤◌, Bool, true, false, inl, inr, Option, Some, None, IfSome, List, [], ◌∷◌, refl, ap, sym, ◌∙◌, subst, arith}
use Rattle.std.specs.Option.{is_some}
use Rattle.link_frames.specs.declared.frame.End.TheVariants as «end»
use Rattle.link_frames.specs.declared.note.Note.{Note}
use Rattle.link_frames.specs.declared.note.Note.TheVariants as note
use Rattle.link_frames.specs.declared.note.Why.TheVariants as why
use Rattle.link_frames.specs.Ranks.{Deadline, soonest}
use Rattle.link_frames.specs.Row.{Row}
use Rattle.psap_machine.specs.declared.session.Session.{Session}
use Rattle.psap_machine.specs.Point.{Point, Phase, Listening, Asking, Telling, Talking, Clearing, Over}
use Rattle.psap_machine.specs.PointRows.{aged, aged_in, due_of, deadlines, point_row, Ended}
use Rattle.psap_machine.specs.SessionStands.{SessionStandsFor}
use Rattle.channel_sim.specs.declared.calls.call.Call as kept_call
use Rattle.channel_sim.specs.World.{Call}
use Rattle.trace_fit.specs.Seats.{left_by, unless_over}
use Rattle.channel_sim.specs.inner.Acts.{seat_items, seat_after, CallDid}
use Rattle.channel_sim.specs.Lag.{LeastPassed, SessionLags, SeatLags, CallLags, IsFrom}
use Rattle.channel_sim.proofs.EndJump.{point_none}

pub soonest_later : {A : Type 0} (ds : List (Deadline A)) → IfSome (soonest ds) (λ due. 0 < due)
soonest_later [] = tt
soonest_later (d ∷ ds) = omega arith

pub due_later : (s : Point) → IfSome (due_of s) (λ due. 0 < due)
due_later s = soonest_later (deadlines (aged 1 s) (aged 1 s).phase)

pub not_over : (s : Point) → (s.phase ≡ Over → ⊥) → left_by s ≡ Some s
not_over s live = at s.phase live
  where
    at : (p : Phase) → (p ≡ Over → ⊥) → unless_over s p ≡ Some s
    at Listening h = refl
    at (Asking r) h = refl
    at (Telling r) h = refl
    at Talking h = refl
    at (Clearing r) h = refl
    at Over h = absurd (h refl)

pub is_over : (s : Point) → s.phase ≡ Over → left_by s ≡ None
is_over s e = ap (unless_over s) e

-- one that lags by no tick
pub lag_none : (n : ℕ) (kept : Session) (s : Point) → n ≡ 0 → SessionLags n kept s → SessionStandsFor kept s
lag_none n kept s e h =
    subst (SessionStandsFor kept) (sym (h.aged ∙ ap (λ m. aged m h.was) e ∙ point_none h.was)) h.stands

pub stands_now : (n : ℕ) (kept : Session) (s : Point) → n ≡ 0 → SessionStandsFor kept s → left_by s ≡ Some s → SessionLags n kept s
stands_now n kept s e h live =
    record {
      was = s;
      stands = h;
      aged = sym (ap (λ m. aged m s) e ∙ point_none s);
      quiet = subst (λ m. IfSome (due_of s) (λ due. m < due)) (sym e) (due_later s);
      live = live;
    }

from_gone : (floor : LeastPassed) (x : kept_call.Call) → IsFrom floor x → IsFrom floor (record x { session = None })
from_gone floor x (inl low) = inl low
from_gone floor x (inr low) = inr (low.0, tt)

-- What a session gives that hears something, and the call behind it.
pub heard_over : (floor : LeastPassed) (clock : ℕ) (x : kept_call.Call) (k : Call) (row : Point → Row Point) (session new : Session) (items : List Note) (over : Bool)
    → CallLags floor clock x k
    → x.session ≡ Some session
    → ((s : Point) → SessionLags (clock - x.passed) session s → (items ≡ (row s).items) × (left_by (row s).new ≡ None))
    → CallDid floor clock true items (record x { session = None }) k row
heard_over floor clock x k row session new items over h e did = at k.session refl (subst (λ o. SeatLags (clock - x.passed) o k.session) e h.session)
  where
    at : (o : Option Point) → k.session ≡ o → SeatLags (clock - x.passed) (Some session) o → CallDid floor clock true items (record x { session = None }) k row
    at None f seat = absurd seat
    at (Some s) f seat =
        record {
          items = (did s seat).0 ∙ ap (seat_items row) (sym f);
          acts = λ there. ap is_some f;
          rests = λ wrong. cc;
          stands =
              record {
                number = h.number;
                up = h.up;
                down = h.down;
                passed = h.passed;
                from = from_gone floor x h.from;
                session = subst (λ o. SeatLags (clock - x.passed) None o) (sym (ap (seat_after row) f ∙ (did s seat).1)) tt;
              };
        }

pub heard_on : (floor : LeastPassed) (clock passed : ℕ) (x : kept_call.Call) (k : Call) (row : Point → Row Point) (session new : Session) (items : List Note)
    → CallLags floor clock x k
    → x.session ≡ Some session
    → passed ≤ clock
    → IsFrom floor (record x { session = Some new; passed = passed })
    → ((s : Point) → SessionLags (clock - x.passed) session s → (items ≡ (row s).items) × (left_by (row s).new ≡ Some (row s).new) × SessionLags (clock - passed) new (row s).new)
    → CallDid floor clock true items (record x { session = Some new; passed = passed }) k row
heard_on floor clock passed x k row session new items h e within from did = at k.session refl (subst (λ o. SeatLags (clock - x.passed) o k.session) e h.session)
  where
    at : (o : Option Point) → k.session ≡ o → SeatLags (clock - x.passed) (Some session) o → CallDid floor clock true items (record x { session = Some new; passed = passed }) k row
    at None f seat = absurd seat
    at (Some s) f seat =
        record {
          items = (did s seat).0 ∙ ap (seat_items row) (sym f);
          acts = λ there. ap is_some f;
          rests = λ wrong. cc;
          stands =
              record {
                number = h.number;
                up = h.up;
                down = h.down;
                passed = within;
                from = from;
                session = subst (λ o. SeatLags (clock - passed) (Some new) o) (sym (ap (seat_after row) f ∙ (did s seat).1)) (did s seat).2;
              };
        }

-- where there is no session, nobody does anything
pub none_did : (floor : LeastPassed) (clock : ℕ) (x : kept_call.Call) (k : Call) (row : Point → Row Point) → CallLags floor clock x k → x.session ≡ None → CallDid floor clock false [] x k row
none_did floor clock x k row h e = at k.session refl (subst (λ o. SeatLags (clock - x.passed) o k.session) e h.session)
  where
    at : (o : Option Point) → k.session ≡ o → SeatLags (clock - x.passed) None o → CallDid floor clock false [] x k row
    at (Some s) f seat = absurd seat
    at None f seat =
        record {
          items = ap (seat_items row) (sym f);
          acts = λ wrong. cc;
          rests = λ same. ap (λ o. is_some (seat_after row o)) f ∙ ap is_some (sym f);
          stands =
              record {
                number = h.number;
                up = h.up;
                down = h.down;
                passed = h.passed;
                from = h.from;
                session = subst (λ o. SeatLags (clock - x.passed) x.session (seat_after row o)) (sym f) (subst (λ o. SeatLags (clock - x.passed) o None) (sym e) tt);
              };
        }

-- Elapsed time keeps the call and the phase.
call_aged : (n : ℕ) (s : Point) (p : Phase) → (aged_in n s p).call ≡ s.call
call_aged n s Listening = refl
call_aged n s (Asking r) = refl
call_aged n s (Telling r) = refl
call_aged n s Talking = refl
call_aged n s (Clearing r) = refl
call_aged n s Over = refl

pub phase_aged : (n : ℕ) (s : Point) (p : Phase) → (aged_in n s p).phase ≡ s.phase
phase_aged n s Listening = refl
phase_aged n s (Asking r) = refl
phase_aged n s (Telling r) = refl
phase_aged n s Talking = refl
phase_aged n s (Clearing r) = refl
phase_aged n s Over = refl

-- a session that is let go is over, however far it lags
ends_in : (s : Point) (p : Phase) → s.phase ≡ p → (p ≡ Over → ⊥) → ((point_row s (Ended why.Release)).items ≡ note.Down «end».Point s.call why.Release ∷ []) × ((point_row s (Ended why.Release)).new.phase ≡ Over) × (left_by (point_row s (Ended why.Release)).new ≡ None)
ends_in s Over e live = absurd (live refl)
ends_in s Listening e live = rw e (refl, refl, refl)
ends_in s (Asking r) e live = rw e (refl, refl, refl)
ends_in s (Telling r) e live = rw e (refl, refl, refl)
ends_in s Talking e live = rw e (refl, refl, refl)
ends_in s (Clearing r) e live = rw e (refl, refl, refl)

pub live_now : (s : Point) → left_by s ≡ Some s → s.phase ≡ Over → ⊥
live_now s live e = let over : left_by s ≡ None = is_over s e in cc

pub ended : (n : ℕ) (kept : Session) (s : Point) (h : SessionLags n kept s) → ((point_row s (Ended why.Release)).items ≡ (point_row h.was (Ended why.Release)).items) × ((point_row h.was (Ended why.Release)).new.phase ≡ Over) × (left_by (point_row s (Ended why.Release)).new ≡ None)
ended n kept s h =
    let now = ends_in s s.phase refl (live_now s h.live) in
    let was = ends_in h.was h.was.phase refl (λ e. live_now s h.live (ap (λ z. z.phase) h.aged ∙ phase_aged n h.was h.was.phase ∙ e)) in
    let call : s.call ≡ h.was.call = ap (λ z. z.call) h.aged ∙ call_aged n h.was h.was.phase in
    (now.0 ∙ ap (λ z. note.Down «end».Point z why.Release ∷ []) call ∙ sym was.0, was.1, now.2)

-- there is a session, and that cannot be
pub no_seat : {A : Type 0} (floor : LeastPassed) (clock : ℕ) (x : kept_call.Call) (k : Call) (session : Session) → CallLags floor clock x k → x.session ≡ Some session → ((s : Point) → SessionLags (clock - x.passed) session s → ⊥) → A
no_seat {A = A} floor clock x k session h e never = at k.session (subst (λ o. SeatLags (clock - x.passed) o k.session) e h.session)
  where
    at : (o : Option Point) → SeatLags (clock - x.passed) (Some session) o → A
    at None seat = absurd seat
    at (Some s) seat = absurd (never s seat)
