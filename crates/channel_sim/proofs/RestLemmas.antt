-- A session that is settled and lags, and hears something.
use Rattle.std.proofs.Common.{◌≡◌, ◌⊎◌, ℕ, ◌+◌, ◌-◌, ◌≤◌, inl, inr, Option, Some, None, List, refl, ap, sym, ◌∙◌, subst, arith}
use Rattle.link_frames.specs.declared.note.Note.{Note}
use Rattle.psap_machine.specs.declared.session.Session.{Session}
use Rattle.psap_machine.specs.Point.{Point, Phase, Listening, Asking, Telling, Talking, Clearing, Over}
use Rattle.psap_machine.specs.PointRows.{Heard, point_row, due_of}
use Rattle.psap_machine.specs.SessionStands.{SessionStandsFor, IsSettled, AtRest}
use Rattle.psap_machine.proofs.Settled.{IsLater, Leaves, settled_row, settles, talks_or_over}
use Rattle.channel_sim.specs.declared.calls.call.Call as kept_call
use Rattle.channel_sim.specs.World.{Call}
use Rattle.channel_sim.specs.inner.Acts.{IsUpTo}
use Rattle.trace_fit.specs.Seats.{left_by}
use Rattle.channel_sim.specs.Lag.{LeastPassed, CallLags, IsFrom, SeatLags, SessionLags}
use Rattle.channel_sim.proofs.AsleepLemmas.{none_due, rest_later}
use Rattle.channel_sim.proofs.SeatLemmas.{is_over, lag_none, not_over, phase_aged, stands_now}

-- Behind what it heard it lags by as much, where it is settled then too; else not at all.
pub record StaysBehind (n : ℕ) (new : Session) (q : Point) : Type 0 where
  pub live : left_by q ≡ Some q
  pub lags : IsSettled new → SessionLags n new q
  pub stands : (IsSettled new → ⊥) → SessionStandsFor new q

alive : (q : Point) (p : Phase) → q.phase ≡ p → (p ≡ Over → ⊥) → left_by q ≡ Some q
alive q p e other = not_over q (λ over. other (sym e ∙ over))

same_then : (n : ℕ) (new : Session) (p q : Point) (f : Phase) → SessionStandsFor new p → p.phase ≡ f → (f ≡ Talking → ⊥) → (f ≡ Over → ⊥) → q ≡ p → StaysBehind n new q
same_then n new p q f stands e talks over same =
    record {
      live = alive q f (ap (λ z. z.phase) same ∙ e) over;
      lags =
          λ settled.
          absurd (at (talks_or_over new p stands settled));
      stands = λ no. subst (SessionStandsFor new) (sym same) stands;
    }
  where
    at : (p.phase ≡ Talking) ⊎ (p.phase ≡ Over) → ⊥
    at (inl talking) = talks (sym e ∙ talking)
    at (inr gone) = over (sym e ∙ gone)

behind : (n : ℕ) (new : Session) (p q : Point) (f : Phase) → SessionStandsFor new p → (p.phase ≡ Over → ⊥) → p.phase ≡ f → Leaves n p q f → StaysBehind n new q
behind n new p q Listening stands on e l = same_then n new p q Listening stands e (λ wrong. cc) (λ wrong. cc) l
behind n new p q (Asking r) stands on e l = same_then n new p q (Asking r) stands e (λ wrong. cc) (λ wrong. cc) l
behind n new p q (Telling r) stands on e l = same_then n new p q (Telling r) stands e (λ wrong. cc) (λ wrong. cc) l
behind n new p q (Clearing r) stands on e l = same_then n new p q (Clearing r) stands e (λ wrong. cc) (λ wrong. cc) l
behind n new p q Over stands on e l = absurd (on e)
behind n new p q Talking stands on e l =
    let settled = settles new p stands e l.1 in
    let live = alive q Talking (ap (λ z. z.phase) l.0 ∙ phase_aged n p p.phase ∙ e) (λ wrong. cc) in
    record {
      live = live;
      lags = λ same. record { was = p; stands = stands; aged = l.0; quiet = rest_later n new p settled stands; live = live };
      stands = λ no. absurd (no settled);
    }

later : (n : ℕ) (session : Session) (s : Point) (e : Heard) → IsSettled session → (h : SessionLags n session s) → IsLater n (point_row h.was e) (point_row s e)
later n session s e settled h =
    subst (λ z. IsLater n (point_row h.was e) (point_row z e)) (sym h.aged) (settled_row n session h.was e settled h.stands)

pub rest_items : (n : ℕ) (session : Session) (s : Point) (e : Heard) → IsSettled session → (h : SessionLags n session s) → (point_row s e).items ≡ (point_row h.was e).items
rest_items n session s e settled h = (later n session s e settled h).items

pub rest_heard : (n : ℕ) (session new : Session) (s : Point) (e : Heard) → IsSettled session → (h : SessionLags n session s) → SessionStandsFor new (point_row h.was e).new → ((point_row h.was e).new.phase ≡ Over → ⊥) → StaysBehind n new (point_row s e).new
rest_heard n session new s e settled h stands on =
    let p : Point = (point_row h.was e).new in
    behind n new p (point_row s e).new p.phase stands on refl (later n session s e settled h).new

over_then : (n : ℕ) (p q : Point) (f : Phase) → f ≡ Over → Leaves n p q f → q.phase ≡ Over
over_then n p q Over e l = l
over_then n p q Listening e l = cc
over_then n p q (Asking r) e l = cc
over_then n p q (Telling r) e l = cc
over_then n p q Talking e l = cc
over_then n p q (Clearing r) e l = cc

-- one that acts is not settled
pub acting_from : (floor : LeastPassed) (before tick due : ℕ) (x : kept_call.Call) (k : Call) (session : Session) → CallLags floor before x k → before + 1 ≡ tick → x.session ≡ Some session → ((s : Point) → SessionStandsFor session s → due_of s ≡ Some due) → floor.waking ≤ tick
acting_from floor before tick due x k session h next seat acts = at h.from
  where
    there : (o : Option Point) → SeatLags (before - x.passed) (Some session) o → IsSettled session → floor.waking ≤ tick
    there None lags settled = absurd lags
    there (Some s) lags settled = let none = none_due session lags.was settled lags.stands in let some = acts lags.was lags.stands in cc

    at : IsFrom floor x → floor.waking ≤ tick
    at (inl low) = let within : x.passed ≤ before = h.passed in omega arith
    at (inr low) = there k.session (subst (λ o. SeatLags (before - x.passed) o k.session) seat h.session) (subst AtRest seat low.1)

-- one that is over is so however far it lagged
pub rest_over : (n : ℕ) (session : Session) (s : Point) (e : Heard) → IsSettled session → (h : SessionLags n session s) → (point_row h.was e).new.phase ≡ Over → (point_row s e).new.phase ≡ Over
rest_over n session s e settled h over =
    let p : Point = (point_row h.was e).new in
    over_then n p (point_row s e).new p.phase over (later n session s e settled h).new

-- What a session gives that hears something, and is passed up to this tick, or settled.

pub gone_now : (tick : ℕ) (x : kept_call.Call) (session : Session) (s : Point) (e : Heard) (items : List Note) → x.session ≡ Some session → IsUpTo tick x → SessionLags (tick - x.passed) session s
    → ((q : Point) → SessionStandsFor session q → items ≡ (point_row q e).items)
    → ((q : Point) → SessionStandsFor session q → (point_row q e).new.phase ≡ Over)
    → (items ≡ (point_row s e).items) × (left_by (point_row s e).new ≡ None)
gone_now tick x session s e items seat (inl passed) lags gives over =
    let one = lag_none (tick - x.passed) session s (omega arith) lags in (gives s one, is_over (point_row s e).new (over s one))
gone_now tick x session s e items seat (inr rests) lags gives over =
    let settled : IsSettled session = subst AtRest seat rests in (
      gives lags.was lags.stands ∙ sym (rest_items (tick - x.passed) session s e settled lags),
      is_over (point_row s e).new (rest_over (tick - x.passed) session s e settled lags (over lags.was lags.stands)),
    )

-- where it is settled then, it lags as before
pub lags_on : (tick : ℕ) (x : kept_call.Call) (session new : Session) (s : Point) (e : Heard) (items : List Note) → x.session ≡ Some session → IsUpTo tick x → SessionLags (tick - x.passed) session s
    → ((q : Point) → SessionStandsFor session q → items ≡ (point_row q e).items)
    → ((q : Point) → SessionStandsFor session q → SessionStandsFor new (point_row q e).new)
    → ((q : Point) → SessionStandsFor session q → (point_row q e).new.phase ≡ Over → ⊥)
    → IsSettled new
    → (items ≡ (point_row s e).items) × (left_by (point_row s e).new ≡ Some (point_row s e).new) × SessionLags (tick - x.passed) new (point_row s e).new
lags_on tick x session new s e items seat (inl passed) lags gives stands on now =
    let one = lag_none (tick - x.passed) session s (omega arith) lags in
    let live = not_over (point_row s e).new (on s one) in
    (gives s one, live, stands_now (tick - x.passed) new (point_row s e).new (omega arith) (stands s one) live)
lags_on tick x session new s e items seat (inr rests) lags gives stands on now =
    let settled : IsSettled session = subst AtRest seat rests in
    let was = lags.was in
    let behind = rest_heard (tick - x.passed) session new s e settled lags (stands was lags.stands) (on was lags.stands) in
    (gives was lags.stands ∙ sym (rest_items (tick - x.passed) session s e settled lags), behind.live, behind.lags now)

-- where it is not, it is passed up to this tick
pub wakes_now : (tick : ℕ) (x : kept_call.Call) (session new : Session) (s : Point) (e : Heard) (items : List Note) → x.session ≡ Some session → IsUpTo tick x → SessionLags (tick - x.passed) session s
    → ((q : Point) → SessionStandsFor session q → items ≡ (point_row q e).items)
    → ((q : Point) → SessionStandsFor session q → SessionStandsFor new (point_row q e).new)
    → ((q : Point) → SessionStandsFor session q → (point_row q e).new.phase ≡ Over → ⊥)
    → (IsSettled new → ⊥)
    → (items ≡ (point_row s e).items) × (left_by (point_row s e).new ≡ Some (point_row s e).new) × SessionLags (tick - tick) new (point_row s e).new
wakes_now tick x session new s e items seat (inl passed) lags gives stands on never =
    let one = lag_none (tick - x.passed) session s (omega arith) lags in
    let live = not_over (point_row s e).new (on s one) in
    (gives s one, live, stands_now (tick - tick) new (point_row s e).new (omega arith) (stands s one) live)
wakes_now tick x session new s e items seat (inr rests) lags gives stands on never =
    let settled : IsSettled session = subst AtRest seat rests in
    let was = lags.was in
    let behind = rest_heard (tick - x.passed) session new s e settled lags (stands was lags.stands) (on was lags.stands) in
    (gives was lags.stands ∙ sym (rest_items (tick - x.passed) session s e settled lags), behind.live, stands_now (tick - tick) new (point_row s e).new (omega arith) (behind.stands never) behind.live)

pub from_settled : (floor : LeastPassed) (x : kept_call.Call) (new : Session) → IsSettled new → IsFrom floor x → IsFrom floor (record x { session = Some new })
from_settled floor x new now (inl low) = inl low
from_settled floor x new now (inr low) = inr (low.0, now)
