-- Turns that owe what they must, one behind the other.
use Rattle.std.specs.Prelude.{◌≡◌, ◌≤◌, ℕ, Bool, true, false, List, [], ◌∷◌, ◌++◌, ◌&&◌, Option, Some, None, IfSome}
use Rattle.std.proofs.Common.{refl, sym, subst, inl, arith}
use Rattle.link_frames.specs.declared.frame.End.{End}
use Rattle.link_frames.specs.Owes.{Seat}
use Rattle.live_link.specs.Turns.{Turn}
use Rattle.live_link.proofs.Owed.{Place, OwedFrom, Events}

pub events_append : (e : End) (p q r : Place) (xs ys : List Turn) → Events e p xs q → Events e q ys r →
    Events e p (xs ++ ys) r
events_append e p q r [] ys h k = subst (λ (z : Place). Events e z ys r) (sym h) k
events_append e p q r (x ∷ xs) ys h k = (h.0, h.1, events_append e h.0 q r xs ys h.2 k)

pub events_then : (e : End) (n : ℕ) (p q : Place) (xs ys : List Turn) → Events e p xs q → OwedFrom e n q ys →
    OwedFrom e n p (xs ++ ys)
events_then e n p q [] ys h k = subst (λ (z : Place). OwedFrom e n z ys) (sym h) k
events_then e n p q (x ∷ xs) ys h k = (h.0, inl h.1, events_then e n h.0 q xs ys h.2 k)

pub owed_less : (e : End) (m n : ℕ) → m ≤ n → (p : Place) (ts : List Turn) → OwedFrom e n p ts → OwedFrom e m p ts
owed_less e m n low p [] h = omega (arith, low, h)
owed_less e m n low p (t ∷ ts) h = (h.0, h.1, owed_less e m n low h.0 ts h.2)

pub both : (a b : Bool) → (a && b) ≡ true → (a ≡ true) × (b ≡ true)
both true b h = (refl, h)
both false b h = cc

pub any_seat : (P : Type 0) → P → (s : Option Seat) → IfSome s (λ k. P)
any_seat P h None = tt
any_seat P h (Some k) = h
