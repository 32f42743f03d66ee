-- Sessions that are settled, or wait: that they rest.
use Rattle.std.proofs.Common.{◌≡◌, ℕ, ◌+◌, ◌<◌, Option, Some, None, IfSome, refl, ap, sym, ◌∙◌, subst, arith, rules}
use Rattle.psap_machine.specs.declared.session.Session.{Session}
use Rattle.psap_machine.specs.Point.{Point}
use Rattle.psap_machine.specs.PointRows as point
use Rattle.psap_machine.specs.SessionStands.{SessionStandsFor, IsSettled, AtRest}
use Rattle.channel_sim.specs.inner.Seats.{DueLater}
use Rattle.channel_sim.specs.Lag.{SessionLags, SeatLags}
use Rattle.channel_sim.specs.Quiet.{SessionRests}
use Rattle.channel_sim.proofs.EndJump.{point_later}

-- What they stand for rests.

-- in a session that is settled nothing is due
pub none_due : (kept : Session) (s : Point) → IsSettled kept → SessionStandsFor kept s → point.due_of s ≡ None
none_due kept s none h = search rules

none_later : (n : ℕ) (o : Option ℕ) → o ≡ None → IfSome o (λ due. n < due)
none_later n None e = tt
none_later n (Some due) e = cc

-- n ticks on nothing is due either
still_none : (m : ℕ) (kept : Session) (s : Point) → AtRest (Some kept) → SessionLags m kept s → point.due_of s ≡ None
still_none m kept s none h = at (point.due_of s) refl
  where
    at : (o : Option ℕ) → point.due_of s ≡ o → point.due_of s ≡ None
    at None e = e
    at (Some due) e =
        let late : IfSome (point.due_of (point.aged m h.was)) (λ d. due < d) = point_later m due h.was (none_later (m + due) (point.due_of h.was) (none_due kept h.was none h.stands)) in
        let wrong : due < due = subst (λ o. IfSome o (λ d. due < d)) (ap point.due_of (sym h.aged) ∙ e) late in
        absurd (omega arith)

seat_rests : (m n : ℕ) (a : Option Session) (b : Option Point) → SeatLags m a b → AtRest a → IfSome b (SessionRests n)
seat_rests m n None None h none = tt
seat_rests m n None (Some s) h none = absurd h
seat_rests m n (Some k) None h none = absurd h
seat_rests m n (Some k) (Some s) h none = record { due = none_later n (point.due_of s) (still_none m k s none h); live = h.live }

-- and so it is later than any number of ticks
pub rest_later : (n : ℕ) (kept : Session) (s : Point) → IsSettled kept → SessionStandsFor kept s → IfSome (point.due_of s) (λ due. n < due)
rest_later n kept s none h = none_later n (point.due_of s) (none_due kept s none h)

pub due_later : (n : ℕ) (a : Option Session) → AtRest a → DueLater n a
due_later n None none = tt
due_later n (Some kept) none = λ s stands. rest_later n kept s none stands
