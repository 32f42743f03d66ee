-- Vehicles whose fact lines came one after another have distinct numbers, and each joins a floor on which it isn't yet.
use Rattle.std.specs.Prelude.{◌≡◌, ◌≢◌, ℕ, ◌==◌, nat_lt, Bool, true, false, cond, List, [], ◌∷◌, ◌++◌, Option, Some, None}
use Rattle.std.proofs.Common.{refl, sym, ap, subst, ◌∙◌, eqb, eq-eqb}
use Rattle.std.proofs.lemmas.Bool.{eqb-true, false≢true, cond_both, false_from_ne_true}
use Rattle.msd_fit.specs.declared.facts.Facts.{Facts}
use Rattle.trace_text.specs.Facts.{facts_in}
use Rattle.trace_text.specs.declared.fact_line.FactLine.{FactLine}
use Rattle.floor_text.specs.VehicleFacts.{VehicleFacts, has_facts, with_fact}
use Rattle.call_floor.specs.Floor.{Stand, first_stand, joined, stand_of}
use Rattle.floor_command.specs.inner.FloorStage.{AreDistinct, AreNew}

-- one more line leaves another vehicle's lines as they are
has-with_fact : (u v : ℕ) (f : FactLine) (known : List VehicleFacts) → (v == u) ≡ false
    → has_facts u (with_fact v f known) ≡ has_facts u known
has-with_fact u v f [] other = rw other refl
has-with_fact u v f (k ∷ ks) other =
    by_test (k.number == v) (has-with_fact u v f ks other)
  where
    by_test : (b : Bool) → has_facts u (with_fact v f ks) ≡ has_facts u ks
        → has_facts u (cond b (record { number = k.number; lines = k.lines ++ f ∷ [] } ∷ ks) (k ∷ with_fact v f ks))
        ≡ has_facts u (k ∷ ks)
    by_test true rest = refl
    by_test false rest = ap (λ b. cond (k.number == u) true b) rest

symmetric : (a b : ℕ) → (a == b) ≡ false → (b == a) ≡ false
symmetric a b other =
    false_from_ne_true (b == a)
    (λ same. false≢true (sym other ∙ eq-eqb a b (sym (eqb-true b a same))))

pub distinct-with_fact : (v : ℕ) (f : FactLine) (known : List VehicleFacts) → AreDistinct known
    → AreDistinct (with_fact v f known)
distinct-with_fact v f [] are = (refl, tt)
distinct-with_fact v f (k ∷ ks) are = by_test (k.number == v) refl (distinct-with_fact v f ks are.1)
  where
    by_test : (b : Bool) → (k.number == v) ≡ b → AreDistinct (with_fact v f ks)
        → AreDistinct (cond b (record { number = k.number; lines = k.lines ++ f ∷ [] } ∷ ks) (k ∷ with_fact v f ks))
    by_test true test rest = are
    by_test false test rest = (has-with_fact k.number v f ks (symmetric k.number v test) ∙ are.0, rest)

-- who joins is there, and the others are as before
pub stand_of-joined_other : (u : ℕ) (s : Stand) (stands : List Stand) → (s.number == u) ≡ false
    → stand_of u (joined s stands) ≡ stand_of u stands
stand_of-joined_other u s [] other = rw other refl
stand_of-joined_other u s (x ∷ xs) other =
    by_test (nat_lt s.number x.number) (stand_of-joined_other u s xs other)
  where
    by_test : (b : Bool) → stand_of u (joined s xs) ≡ stand_of u xs → stand_of u (cond b (s ∷ x ∷ xs) (x ∷ joined s xs)) ≡ stand_of u (x ∷ xs)
    by_test true rest = ap (λ b. cond b (Some s) (stand_of u (x ∷ xs))) other
    by_test false rest = ap (λ o. cond (x.number == u) (Some x) o) rest

-- where nobody with a number has facts, it is another than that of who has
other_number : (v : ℕ) (k : VehicleFacts) (ks : List VehicleFacts) → has_facts v (k ∷ ks) ≡ false
    → ((k.number == v) ≡ false) × (has_facts v ks ≡ false)
other_number v k ks none = by_test (k.number == v) refl none
  where
    by_test : (b : Bool) → (k.number == v) ≡ b → cond b true (has_facts v ks) ≡ false
        → ((k.number == v) ≡ false) × (has_facts v ks ≡ false)
    by_test true test none = absurd (false≢true (sym none))
    by_test false test none = (test, none)

-- the others are still to join
pub new-joined : (s : Stand) (stands : List Stand) (ks : List VehicleFacts) → has_facts s.number ks ≡ false
    → AreNew stands ks → AreNew (joined s stands) ks
new-joined s stands [] none are = tt
new-joined s stands (k ∷ ks) none are =
    let other = other_number s.number k ks none in (
      stand_of-joined_other k.number s stands (symmetric k.number s.number other.0) ∙ are.0,
      new-joined s stands ks other.1 are.1,
    )

pub new-first : (ks : List VehicleFacts) → AreNew [] ks
new-first [] = tt
new-first (k ∷ ks) = (refl, new-first ks)
