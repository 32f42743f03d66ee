-- Each call caught up, one behind the other.
use Rattle.std.proofs.Common.{◌≡◌, ℕ, ◌+◌, ◌<◌, ◌≤◌, ◌^◌, inl, inr, List, [], ◌∷◌, ◌++◌, length, get_or, take, drop, ap, sym, ◌∙◌, subst, arith, add-one, drop-cons, length-drop}
use Rattle.std.proofs.Math.ListN.{set}
use Rattle.std.proofs.lemmas.List.{take_more_set, drop-set-lt}
use Rattle.channel_sim.specs.declared.calls.call.Call as kept
use Rattle.channel_sim.specs.World.{Call}
use Rattle.channel_sim.specs.Lag.{LeastPassed, CallLags, CallsLag, IsFrom, level}
use Rattle.channel_sim.specs.inner.Acts.{IsUpTo}
use Rattle.channel_sim.specs.inner.Turns.{Sleeps}
use Rattle.channel_sim.proofs.ArrivalLemmas.{lag_append}
use Rattle.channel_sim.proofs.ChangeLemmas.{lag_at, same_lengths}
use Rattle.channel_sim.proofs.StepLemmas.{take_all}

-- where the rests are one, the index is inside of both
pub same_length : (before now : List kept.Call) (i : ℕ) → i < length now → drop i now ≡ drop i before → i < length before
same_length before now i inside rest = omega (arith, length-drop i now, length-drop i before, ap length rest)

-- and the call there is one
pub same_item : (before now : List kept.Call) (i : ℕ) (d : kept.Call) → i < length now → drop i now ≡ drop i before → get_or now i d ≡ get_or before i d
same_item before now i d inside rest =
    let inside' : i < length before = same_length before now i inside rest in
    let a = drop-cons now i d inside in
    let b = drop-cons before i d inside' in
    cc

-- a call that was passed up to a tick, or is settled
pub from_reached : (floor : LeastPassed) (tick : ℕ) (y : kept.Call) → floor.settled ≤ floor.waking → IsUpTo tick y → IsFrom floor y → IsFrom (level floor.settled tick) y
from_reached floor tick y low (inl passed) from = inl (omega arith)
from_reached floor tick y low (inr rests) (inl far) = inr (omega arith, rests)
from_reached floor tick y low (inr rests) (inr at) = inr (at.0, rests)

pub from_now : (tick : ℕ) (to : LeastPassed) (y : kept.Call) → to.waking ≤ tick → y.passed ≡ tick → {floor : LeastPassed} → IsFrom floor y → IsFrom to y
from_now tick to y low passed from = inl (omega arith)

-- fewer ticks ago than one pass takes
pub soon : (floor : LeastPassed) (tick : ℕ) (x : kept.Call) (k : Call) → CallLags floor tick x k → tick < floor.waking + 2 ^ 32 → tick < floor.settled + 2 ^ 32 → tick < x.passed + 2 ^ 32
soon floor tick x k h small late = at h.from
  where
    at : IsFrom floor x → tick < x.passed + 2 ^ 32
    at (inl low) = omega arith
    at (inr low) = let settled : floor.settled ≤ x.passed = low.0 in omega arith

pub soon_waking : (floor : LeastPassed) (tick : ℕ) (x : kept.Call) (k : Call) → CallLags floor tick x k → (Sleeps x → ⊥) → tick < floor.waking + 2 ^ 32 → tick < x.passed + 2 ^ 32
soon_waking floor tick x k h awake small = at h.from
  where
    at : IsFrom floor x → tick < x.passed + 2 ^ 32
    at (inl low) = omega arith
    at (inr low) = absurd (awake low.1)

-- one call more
pub caught_more : (floor to : LeastPassed) (tick : ℕ) (before now : List kept.Call) (ks : List Call) (i : ℕ) (d y : kept.Call) → i < length now → CallsLag floor (λ c. tick) before ks → CallsLag to (λ c. tick) (take i now) (take i ks) → drop i now ≡ drop i before → ((k : Call) → CallLags floor tick (get_or now i d) k → CallLags floor tick y k) → (IsFrom floor y → IsFrom to y) → CallsLag to (λ c. tick) (take (i + 1) (set now i y)) (take (i + 1) ks)
caught_more floor to tick before now ks i d y inside h done rest caught from =
    let inside' : i < length before = same_length before now i inside rest in
    let at = lag_at floor (λ c. tick) before ks i d h inside' in
    let k = at.0 in
    let one : CallLags floor tick y k = caught k (subst (λ x. CallLags floor tick x k) (sym (same_item before now i d inside rest)) at.1) in
    let new : CallLags to tick y k = record { number = one.number; up = one.up; down = one.down; passed = one.passed; from = from one.from; session = one.session } in
    let more : take (i + 1) ks ≡ take i ks ++ k ∷ [] = ap (λ n. take n ks) (add-one i) ∙ at.3 in
    subst (λ xs. CallsLag to (λ c. tick) xs (take (i + 1) ks)) (sym (take_more_set now i y inside))
    (subst (CallsLag to (λ c. tick) (take i now ++ y ∷ [])) (sym more) (lag_append to (λ c. tick) (take i now) (take i ks) y k done new))

pub rest_more : (before now : List kept.Call) (i : ℕ) (y : kept.Call) → i < length now → drop i now ≡ drop i before → drop (i + 1) (set now i y) ≡ drop (i + 1) before
rest_more before now i y inside rest =
    let inside' : i < length before = same_length before now i inside rest in
    let a = drop-cons now i y inside in
    let b = drop-cons before i y inside' in
    drop-set-lt (i + 1) now i y (omega arith) ∙ rw add-one (cc)

-- the first ones, so many, are all of them
pub all_caught : (floor to : LeastPassed) (tick n : ℕ) (before now : List kept.Call) (ks : List Call) → length before ≤ n → length now ≤ n → CallsLag floor (λ c. tick) before ks → CallsLag to (λ c. tick) (take n now) (take n ks) → CallsLag to (λ c. tick) now ks
all_caught floor to tick n before now ks old new h done =
    let all : length ks ≤ n = subst (λ m. m ≤ n) (same_lengths floor (λ c. tick) before ks h) old in
    subst (λ xs. CallsLag to (λ c. tick) xs ks) (take_all n now new) (subst (CallsLag to (λ c. tick) (take n now)) (take_all n ks all) done)
