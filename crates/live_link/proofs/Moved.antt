-- Both ends at their places, as seats and clocks.
use Rattle.std.specs.Prelude.{◌≡◌, ℕ, true, false, Bool, Option, Some, None, IfSome, ◌==◌, if◌then◌else◌}
use Rattle.std.proofs.Common.{refl, sym, ap, ◌∙◌}
use Rattle.std.proofs.lemmas.Bool.{eqb-false, eq-eqb, ne_eqb}
use Rattle.link_frames.specs.declared.frame.End.{End}
use Rattle.link_frames.specs.declared.frame.End.TheVariants as «end»
use Rattle.link_frames.specs.Owes.{Seat}
use Rattle.trace_model.specs.Safety.{is_leg}
use Rattle.trace_fit.specs.inner.FitAt.{Seats, Clocks, Moves}
use Rattle.live_link.proofs.Owed.{Place, seat_for}

pub record Places : Type 0 where
  pub vehicle : Place
  pub point : Place

abbrev pub place : Places → End → Place
place ps «end».Vehicle = ps.vehicle
place ps «end».Point = ps.point

-- one end is at another place
abbrev pub with_end : End → Place → Places → Places
with_end «end».Vehicle q ps = record { vehicle = q; point = ps.point }
with_end «end».Point q ps = record { vehicle = ps.vehicle; point = q }

pub again : (e : End) (q r : Place) (ps : Places) → with_end e q (with_end e r ps) ≡ with_end e q ps
again «end».Vehicle q r ps = refl
again «end».Point q r ps = refl

abbrev pub seats : Places → Seats
seats ps e c = seat_for c (place ps e)

abbrev pub clocks : Places → Clocks
clocks ps e c = (place ps e).clock

pub here_is : (e : End) (q : Place) (ps : Places) → place (with_end e q ps) e ≡ q
here_is «end».Vehicle q ps = refl
here_is «end».Point q ps = refl

-- what holds of an end's new place, and of the other's old one, holds of each place
pub each_end : (P : End → Place → Type 0) (e : End) (q : Place) (ps : Places) → P e q →
    ((f : End) → (e ≡ f → ⊥) → P f (place ps f)) → (f : End) → P f (place (with_end e q ps) f)
each_end P «end».Vehicle q ps here old «end».Vehicle = here
each_end P «end».Vehicle q ps here old «end».Point = old «end».Point (λ h. cc)
each_end P «end».Point q ps here old «end».Vehicle = old «end».Vehicle (λ h. cc)
each_end P «end».Point q ps here old «end».Point = here

pub own_seat : (p : Place) → seat_for p.call p ≡ p.seat
own_seat p = ap (λ b. if b then p.seat else None) (eq-eqb p.call p.call refl)

neither : (b : Bool) (s : Option Seat) → (if b then s else s) ≡ s
neither true s = refl
neither false s = refl

-- an end that isn't in a call, or is in this one, has this seat in it
pub seat_here : (c : ℕ) (p : Place) → IfSome p.seat (λ k. p.call ≡ c) → seat_for c p ≡ p.seat
seat_here c p h = at p.seat refl h
  where
    at : (s : Option Seat) → p.seat ≡ s → IfSome s (λ k. p.call ≡ c) → seat_for c p ≡ p.seat
    at None e k = ap (λ z. if p.call == c then z else None) e ∙ neither (p.call == c) None ∙ sym e
    at (Some s) e k = ap (λ b. if b then p.seat else None) (eq-eqb p.call c k)

-- and none in another
pub seat_apart : (c d : ℕ) (p : Place) → (d == c) ≡ false → IfSome p.seat (λ k. p.call ≡ c) → seat_for d p ≡ None
seat_apart c d p apart h = at p.seat refl h
  where
    at : (s : Option Seat) → p.seat ≡ s → IfSome s (λ k. p.call ≡ c) → seat_for d p ≡ None
    at None e k = ap (λ z. if p.call == d then z else None) e ∙ neither (p.call == d) None
    at (Some s) e k =
        ap (λ b. if b then p.seat else None) (ne_eqb p.call d (λ same. eqb-false d c apart (sym same ∙ k)))

-- One end moves in one call, and nothing else moves.
pub moves : (e : End) (c : ℕ) (q : Place) (ps : Places)
    → IfSome (place ps e).seat (λ k. (place ps e).call ≡ c)
    → IfSome q.seat (λ k. q.call ≡ c)
    → q.clock ≡ (place ps e).clock
    → Moves (clocks ps) (clocks (with_end e q ps)) (seats ps) (seats (with_end e q ps)) e c q.seat
moves e c q ps old new clock =
    record {
      here = ap (seat_for c) (here_is e q ps) ∙ seat_here c q new;
      others = others e old;
      clocks = other_clocks e clock;
    }
  where
    others : (e : End) → IfSome (place ps e).seat (λ k. (place ps e).call ≡ c) → (f : End) (d : ℕ) → is_leg f d e c ≡ false →
        seats (with_end e q ps) f d ≡ seats ps f d
    others «end».Vehicle old «end».Vehicle d apart =
        seat_apart c d q apart new ∙ sym (seat_apart c d ps.vehicle apart old)
    others «end».Vehicle old «end».Point d apart = refl
    others «end».Point old «end».Vehicle d apart = refl
    others «end».Point old «end».Point d apart =
        seat_apart c d q apart new ∙ sym (seat_apart c d ps.point apart old)

    other_clocks : (e : End) → q.clock ≡ (place ps e).clock → (f : End) (d : ℕ) → is_leg f d e c ≡ false →
        clocks (with_end e q ps) f d ≡ clocks ps f d
    other_clocks «end».Vehicle k «end».Vehicle d apart = k
    other_clocks «end».Vehicle k «end».Point d apart = refl
    other_clocks «end».Point k «end».Vehicle d apart = refl
    other_clocks «end».Point k «end».Point d apart = k
