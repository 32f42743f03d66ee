-- A turn within a line, in the own world of its vehicle, and in that of another.
use Rattle.std.proofs.Common.{◌≡◌, ℕ, Bool, true, false, List, [], ◌==◌, ◌⊎◌, inl, inr, Option, Some, None, option_map, refl, ap, sym, ◌∙◌, subst, eqb-true}
use Rattle.channel_sim.specs.World.{World, Step}
use Rattle.call_floor.specs.Floor.{own_of, Floor, Stand, stand_of, own, put, drawn_by, turn_in, turn}
use Rattle.call_floor.proofs.Apart.{Still, put_other, turn_same, turn_other}

-- any property of numbers
abbrev pub any : ℕ → Type 0
any n = Unit {0}

pub some_world : (x y : World) → Some x ≡ Some y → x ≡ y
some_world x y e = cc

-- a vehicle that isn't there has no turn
pub turn_none : (a : ℕ) (act : World → Step) (w : Floor) → own_of a w ≡ None → ((turn a act w).entries ≡ []) × ((turn a act w).floor ≡ w)
turn_none a act w h = by (stand_of a w.stands) h
  where
    by : (o : Option Stand) → option_map (own w) o ≡ None → ((turn_in a act w o).entries ≡ []) × ((turn_in a act w o).floor ≡ w)
    by None e = (refl, refl)
    by (Some s) e = cc

pub turn_its : (a : ℕ) (act : World → Step) → Still any act → (w : Floor) (u : World) → own_of a w ≡ Some u → own_of a (turn a act w).floor ≡ Some (act u).world
turn_its a act still w u h = (turn_same any a act still w (stand_of a w.stands) u refl h).there

pub turn_others : (a v : ℕ) → (a == v) ≡ false → (act : World → Step) → Still any act → (w : Floor) (u : World) → own_of v w ≡ Some u → own_of v (turn a act w).floor ≡ Some u
turn_others a v apart act still w u h = (turn_other any a v apart act still w (stand_of a w.stands) u h).there

pub turn_away : (a v : ℕ) (act : World → Step) (w : Floor) → own_of v w ≡ None → own_of v (turn a act w).floor ≡ None
turn_away a v act w h = by (a == v) refl
  where
    by : (b : Bool) → (a == v) ≡ b → own_of v (turn a act w).floor ≡ None
    by true e =
        let here : a ≡ v = eqb-true a v e in
        let none : own_of a w ≡ None = ap (λ n. own_of n w) here ∙ h in
        ap (own_of v) (turn_none a act w none).1 ∙ h
    by false e = other (stand_of a w.stands)
      where
        under : (ds : List ℕ) (ss : List Stand) (o : Option Stand) → option_map (own w) o ≡ None → option_map (own (record w { stands = ss; drawn = ds })) o ≡ None
        under ds ss None f = refl
        under ds ss (Some s) f = cc

        other : (o : Option Stand) → own_of v (turn_in a act w o).floor ≡ None
        other None = h
        other (Some s) =
            let later : World = (act (own w s)).world in
            ap (option_map (own (turn_in a act w (Some s)).floor)) (put_other a v later e w.stands)
            ∙ under (drawn_by a later.drawn w.drawn) (put a later w.stands) (stand_of v w.stands) h

-- where an own world behind a turn comes from
abbrev pub ComesOf : (v a : ℕ) → (World → Step) → Floor → World → Type 0
ComesOf v a act w later =
    (u : World) × (own_of v w ≡ Some u) × (((a ≡ v) × (later ≡ (act u).world)) ⊎ (((a == v) ≡ false) × (later ≡ u)))

pub comes_of : (v a : ℕ) (act : World → Step) → Still any act → (w : Floor) (later : World) → own_of v (turn a act w).floor ≡ Some later → ComesOf v a act w later
comes_of v a act still w later h = by (own_of v w) refl (a == v) refl
  where
    by : (o : Option World) → own_of v w ≡ o → (b : Bool) → (a == v) ≡ b → ComesOf v a act w later
    by None e b f = let none = turn_away a v act w e in cc
    by (Some u) e true f =
        let here : a ≡ v = eqb-true a v f in
        let its : own_of v (turn a act w).floor ≡ Some (act u).world = subst (λ n. own_of n (turn a act w).floor ≡ Some (act u).world) here (turn_its a act still w u (ap (λ n. own_of n w) here ∙ e)) in
        (u, e, inl (here, some_world later (act u).world (sym h ∙ its)))
    by (Some u) e false f = (u, e, inr (f, some_world later u (sym h ∙ turn_others a v f act still w u e)))
