-- The floor that is built vehicle by vehicle is that of all vehicles with facts.
use Rattle.std.specs.Prelude.{◌≡◌, ℕ, zero, suc, ◌+◌, ◌<◌, ◌≤◌, List, [], ◌∷◌, length, drop, slice_get, Option, Some, None, Result, Ok, Err, IfSome}
use Rattle.std.proofs.Common.{sym, ap, refl, subst, arith, ◌∙◌}
use Rattle.msd_fit.specs.declared.facts.Facts.{Facts}
use Rattle.trace_text.specs.Facts.{facts_in}
use Rattle.floor_text.specs.VehicleFacts.{VehicleFacts, has_facts}
use Rattle.call_floor.specs.Floor.{Stand, first_stand, floor_with, joined, stand_of}
use Rattle.call_floor.specs.FloorStands.{FloorStandsFor, numbers_drawn, ticks_elapsed}
use Rattle.call_floor.specs.declared.floor.Floor.{Floor}
use Rattle.floor_command.specs.FloorScript.{stands_in, stands_with}
use Rattle.floor_command.specs.declared.stage.Halt.{Halt}
use Rattle.floor_command.specs.declared.stage.Halt.TheVariants as halt
use Rattle.floor_command.specs.inner.FloorStage.{AreDistinct, AreNew, Builds, Joins}
use Rattle.floor_command.proofs.Distinct.{new-joined, new-first}

-- The floor of the first so many vehicles: the others are still to join it, and then it is that of all.
pub record BuiltSoFar (known : List VehicleFacts) (places : ℕ) (floor : Floor) : Type 0 where
  pub stands : List Stand
  pub floor_stands : FloorStandsFor floor (floor_with stands)
  pub rest : stands_with stands (drop places known) ≡ stands_in known
  pub news : AreNew stands (drop places known)
  pub distinct : AreDistinct (drop places known)
  pub calls : numbers_drawn floor ≡ 0
  pub ticks : ticks_elapsed floor ≡ 0

pub built_none : (known : List VehicleFacts) (floor : Floor) → AreDistinct known → FloorStandsFor floor (floor_with [])
    → numbers_drawn floor ≡ 0 → ticks_elapsed floor ≡ 0 → BuiltSoFar known 0 floor
built_none known floor distinct stands calls ticks =
    record {
      stands = [];
      floor_stands = stands;
      rest = refl;
      news = new-first known;
      distinct = distinct;
      calls = calls;
      ticks = ticks;
    }

drop-at : (known : List VehicleFacts) (i : ℕ) (k : VehicleFacts) → slice_get known i ≡ Some k
    → drop i known ≡ k ∷ drop (suc i) known
drop-at [] i k at = absurd cc
drop-at (x ∷ xs) zero k at = cc
drop-at (x ∷ xs) (suc i) k at = drop-at xs i k at

-- one vehicle more joined
pub built_more : (known : List VehicleFacts) (i : ℕ) (k : VehicleFacts) (old new : Floor) (b : BuiltSoFar known i old)
    → slice_get known i ≡ Some k → Joins k b.stands old (Ok new) → BuiltSoFar known (i + 1) new
built_more known i k old new b at joins =
    let next : drop i known ≡ k ∷ drop (i + 1) known =
    drop-at known i k at ∙ ap (λ n. k ∷ drop n known) (suc-more i) in
    let news : AreNew b.stands (k ∷ drop (i + 1) known) = subst (AreNew b.stands) next b.news in
    let distinct : AreDistinct (k ∷ drop (i + 1) known) = subst AreDistinct next b.distinct in
    record {
      stands = joined (first_stand k.number joins.0) b.stands;
      floor_stands = joins.2;
      rest = sym (with_facts b.stands k (drop (i + 1) known) joins.0 joins.1)
          ∙ ap (stands_with b.stands) (sym next) ∙ b.rest;
      news = new-joined (first_stand k.number joins.0) b.stands (drop (i + 1) known) distinct.0 news.1;
      distinct = distinct.1;
      calls = joins.3 ∙ b.calls;
      ticks = joins.4 ∙ b.ticks;
    }
  where
    suc-more : (n : ℕ) → suc n ≡ n + 1
    suc-more n = omega arith

    with_facts : (stands : List Stand) (k : VehicleFacts) (ks : List VehicleFacts) (facts : Facts)
        → facts_in k.lines ≡ Some facts
        → stands_with stands (k ∷ ks) ≡ stands_with (joined (first_stand k.number facts) stands) ks
    with_facts stands k ks facts is = rw (stands_with, is) refl

-- where one lacks facts there is no such floor
pub built_lacks : (known : List VehicleFacts) (i : ℕ) (k : VehicleFacts) (old : Floor) → BuiltSoFar known i old
    → slice_get known i ≡ Some k → facts_in k.lines ≡ None → stands_in known ≡ None
built_lacks known i k old b at none =
    sym b.rest ∙ ap (stands_with b.stands) (drop-at known i k at) ∙ lacks b.stands k (drop (suc i) known) none
  where
    lacks : (stands : List Stand) (k : VehicleFacts) (ks : List VehicleFacts) → facts_in k.lines ≡ None
        → stands_with stands (k ∷ ks) ≡ None
    lacks stands k ks is = rw (stands_with, is) refl

-- the vehicle that joins next isn't there yet
pub new_at : (known : List VehicleFacts) (i : ℕ) (k : VehicleFacts) (old : Floor) (b : BuiltSoFar known i old)
    → slice_get known i ≡ Some k → stand_of k.number b.stands ≡ None
new_at known i k old b at = (subst (AreNew b.stands) (drop-at known i k at) b.news).0

-- a number that is taken out is the one that went in
pub unwrapped : (o : Option ℕ) (n v : ℕ) → IfSome o (λ x. x ≡ n) → o ≡ Some v → v ≡ n
unwrapped None n v is some = absurd cc
unwrapped (Some x) n v is some = let same : v ≡ x = cc in same ∙ is

-- a vehicle joined with its facts
pub joins_with : (number : ℕ) (k : VehicleFacts) (stands : List Stand) (facts : Facts) (old new : Floor)
    → number ≡ k.number → facts_in k.lines ≡ Some facts
    → (stand_of number stands ≡ None → FloorStandsFor new (floor_with (joined (first_stand number facts) stands)))
    → numbers_drawn new ≡ numbers_drawn old → ticks_elapsed new ≡ ticks_elapsed old
    → stand_of k.number stands ≡ None → Joins k stands old (Ok new)
joins_with number k stands facts old new is known joins calls ticks none = (
  facts,
  known,
  subst (λ (v : ℕ). FloorStandsFor new (floor_with (joined (first_stand v facts) stands))) is
      (joins (subst (λ (v : ℕ). stand_of v stands ≡ None) (sym is) none)),
  calls,
  ticks,
)

-- all joined
pub built_all : (known : List VehicleFacts) (i : ℕ) (floor : Floor) → length known ≤ i → BuiltSoFar known i floor
    → Builds known (Ok floor)
built_all known i floor all b = (
  b.stands,
  sym b.rest ∙ ap (stands_with b.stands) (drop-all known i all),
  b.floor_stands,
  b.calls,
  b.ticks,
)
  where
    drop-all : (ks : List VehicleFacts) (n : ℕ) → length ks ≤ n → drop n ks ≡ []
    drop-all [] zero all = refl
    drop-all [] (suc n) all = refl
    drop-all (k ∷ ks) zero all = absurd (omega (arith, all))
    drop-all (k ∷ ks) (suc n) all = drop-all ks n (omega (arith, all))

-- a place in front of the end has a vehicle
pub at_place : (known : List VehicleFacts) (i : ℕ) → i < length known → (k : VehicleFacts) × (slice_get known i ≡ Some k)
at_place [] i less = absurd (omega (arith, less))
at_place (k ∷ ks) zero less = (k, refl)
at_place (k ∷ ks) (suc i) less = at_place ks i (omega (arith, less))

-- the floor so far is that of which a vehicle joins, and where one doesn't, that answer ends it
pub built_lacks_halt : (known : List VehicleFacts) (i : ℕ) (k : VehicleFacts) (old : Floor) (h : Halt)
    → (b : BuiltSoFar known i old) → slice_get known i ≡ Some k → Joins k b.stands old (Err h)
    → Builds known (Err h)
built_lacks_halt known i k old (halt.Refused why) b at joins = (joins.0, built_lacks known i k old b at joins.1)
built_lacks_halt known i k old halt.Memory b at joins = tt
built_lacks_halt known i k old (halt.Floor fault) b at joins = absurd joins
