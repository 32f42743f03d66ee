-- The vehicles that rest are passed up to now, one behind the other.
use Rattle.std.proofs.Common.{◌≡◌, ℕ, zero, suc, List, [], ◌∷◌, ◌+◌, ◌<◌, Some, length, get_or, take, refl, ap, sym, ◌∙◌, subst, arith}
use Rattle.channel_sim.specs.World.{World}
use Rattle.channel_sim.specs.World as world
use Rattle.channel_sim.specs.WorldStands.{WorldStandsFor}
use Rattle.call_floor.specs.declared.seat.Seat as kept_seat
use Rattle.call_floor.specs.Floor.{Floor, Stand, own, stand_of}
use Rattle.call_floor.specs.FloorLines.{ends}
use Rattle.call_floor.specs.inner.Changes.{ArePaired}
use Rattle.call_floor.specs.inner.FloorAt.{FloorIs, Now, Resting, Rests, SeatIs, SeatsAre}
use Rattle.call_floor.proofs.Paired.{Changed, paired}

abbrev pub IsCaught : (tick : ℕ) → kept_seat.Seat → kept_seat.Seat → Type 0
IsCaught tick x y =
    (y.number ≡ x.number) × ((floor : ℕ) (u : World) → Rests floor x u → u.tick ≡ tick → WorldStandsFor y.world u)

-- one that wasn't changed yet
pub change_at : (P : kept_seat.Seat → kept_seat.Seat → Type 0) (i : ℕ) (xs ys : List kept_seat.Seat) (x : kept_seat.Seat) → Changed P i xs ys → x ≡ get_or ys i x → x ≡ get_or xs i x
change_at P zero xs ys x h at = subst (λ l. x ≡ get_or l 0 x) h at
change_at P (suc i) [] ys x h at = subst (λ l. x ≡ get_or l (suc i) x) h at
change_at P (suc i) (q ∷ qs) [] x h at = absurd h
change_at P (suc i) (q ∷ qs) (z ∷ zs) x h at = change_at P i qs zs x h.1 at

-- the vehicle at a place, and the ends up to it
pub record RestAt (floor : ℕ) (w : Floor) (ss : List Stand) (i : ℕ) (x : kept_seat.Seat) : Type 0 where
  pub stand : Stand
  pub rests : Rests floor x (own w stand)
  pub more : ends (take (suc i) ss) ≡ ends (take i ss) + world.ends (own w stand)

pub rest_at : (floor : ℕ) (w : Floor) (xs : List kept_seat.Seat) (ss : List Stand) (i : ℕ) (x : kept_seat.Seat) → SeatsAre (Resting floor) w xs ss → i < length xs → x ≡ get_or xs i x → RestAt floor w ss i x
rest_at floor w [] ss i x h low at = absurd (omega arith)
rest_at floor w (y ∷ ys) [] i x h low at = absurd h
rest_at floor w (y ∷ ys) (s ∷ ss) zero x h low at =
    let one : SeatIs (Resting floor) w y s = h.0 in
    record { stand = s; rests = subst (λ (z : kept_seat.Seat). Rests floor z (own w s)) (sym at) one.world; more = omega arith }
rest_at floor w (y ∷ ys) (s ∷ ss) (suc i) x h low at =
    let rest : RestAt floor w ss i x = rest_at floor w ys ss i x h.1 (omega arith) at in
    record { stand = rest.stand; rests = rest.rests; more = omega (arith, rest.more) }

some_stand : (a b : Stand) → Some a ≡ Some b → a ≡ b
some_stand a b e = cc

-- each stands for its own world
pub caught_all : (floor tick : ℕ) (xs ys : List kept_seat.Seat) (w : Floor) → w.tick ≡ tick → ArePaired (IsCaught tick) xs ys → FloorIs (Resting floor) xs w → FloorIs Now ys w
caught_all floor tick xs ys w now p h =
    paired (IsCaught tick) (Resting floor) Now w w (λ x y q. q.0) one xs ys p refl h
  where
    one : (x y : kept_seat.Seat) (s t : Stand) → IsCaught tick x y → s.number ≡ x.number → s.number ≡ t.number → stand_of s.number w.stands ≡ Some s → stand_of t.number w.stands ≡ Some t → Rests floor x (own w s) → WorldStandsFor y.world (own w t)
    one x y s t q kept same found behind r =
        let here : s ≡ t = some_stand s t (sym found ∙ ap (λ m. stand_of m w.stands) same ∙ behind) in
        subst (λ (z : Stand). WorldStandsFor y.world (own w z)) here (q.1 floor (own w s) r now)
