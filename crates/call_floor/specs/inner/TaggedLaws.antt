-- The laws of a listener hold of one that hands entries on as a vehicle's.
use Rattle.std.specs.Prelude.{◌≡◌, ℕ, List, [], ◌∷◌, ◌++◌, map}
use Rattle.std.proofs.Common.{refl, ap, ◌∙◌, subst}
use Rattle.trace_model.specs.declared.entry.Entry.{Entry}
use Rattle.call_floor.specs.declared.entry.FloorEntry.{FloorEntry}
use Rattle.call_floor.specs.declared.listener.Tagged.{Tagged}
use Rattle.call_floor.specs.Floor.{entry_of}
use Rattle.call_floor.specs.Tagged.{heard, TaggedGrew}

map_more : (v : ℕ) (xs ys : List Entry) → map (entry_of v) xs ++ map (entry_of v) ys ≡ map (entry_of v) (xs ++ ys)
map_more v [] ys = refl
map_more v (x ∷ xs) ys = ap (λ l. entry_of v x ∷ l) (map_more v xs ys)

pub Tagged-unchanged : {H : Type 0} (grew : H → H → List FloorEntry → Type 0) → ((a : H) → grew a a []) → (a : Tagged H)
    → TaggedGrew grew a a []
Tagged-unchanged grew h a = (refl, refl, h (heard a))

pub Tagged-twice : {H : Type 0} (grew : H → H → List FloorEntry → Type 0)
    → ((a b c : H) (s t : List FloorEntry) → grew a b s → grew b c t → grew a c (s ++ t))
    → (a b c : Tagged H) (s t : List Entry) → TaggedGrew grew a b s → TaggedGrew grew b c t
    → TaggedGrew grew a c (s ++ t)
Tagged-twice grew h a b c s t x y = (
  y.0 ∙ x.0,
  y.1 ∙ x.1,
  subst (grew (heard a) (heard c)) (map_more a.vehicle s t)
      (h (heard a) (heard b) (heard c) (map (entry_of a.vehicle) s) (map (entry_of a.vehicle) t) x.2
      (subst (λ v. grew (heard b) (heard c) (map (entry_of v) t)) x.1 y.2)),
)

pub Tagged-whole : {H : Type 0} (grew partly : H → H → List FloorEntry → Type 0)
    → ((a b : H) (s : List FloorEntry) → grew a b s → partly a b s)
    → (a b : Tagged H) (s : List Entry) → TaggedGrew grew a b s → TaggedGrew partly a b s
Tagged-whole grew partly h a b s x = (x.0, x.1, h (heard a) (heard b) (map (entry_of a.vehicle) s) x.2)

pub Tagged-then_partly : {H : Type 0} (grew partly : H → H → List FloorEntry → Type 0)
    → ((a b c : H) (s t : List FloorEntry) → grew a b s → partly b c t → partly a c (s ++ t))
    → (a b c : Tagged H) (s t : List Entry) → TaggedGrew grew a b s → TaggedGrew partly b c t
    → TaggedGrew partly a c (s ++ t)
Tagged-then_partly grew partly h a b c s t x y = (
  y.0 ∙ x.0,
  y.1 ∙ x.1,
  subst (partly (heard a) (heard c)) (map_more a.vehicle s t)
      (h (heard a) (heard b) (heard c) (map (entry_of a.vehicle) s) (map (entry_of a.vehicle) t) x.2
      (subst (λ v. partly (heard b) (heard c) (map (entry_of v) t)) x.1 y.2)),
)

pub Tagged-longer : {H : Type 0} (partly : H → H → List FloorEntry → Type 0)
    → ((a b : H) (s t : List FloorEntry) → partly a b s → partly a b (s ++ t))
    → (a b : Tagged H) (s t : List Entry) → TaggedGrew partly a b s → TaggedGrew partly a b (s ++ t)
Tagged-longer partly h a b s t x = (
  x.0,
  x.1,
  subst (partly (heard a) (heard b)) (map_more a.vehicle s t)
      (h (heard a) (heard b) (map (entry_of a.vehicle) s) (map (entry_of a.vehicle) t) x.2),
)
