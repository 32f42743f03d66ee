-- Places and numbers of the calls that were drawn for a vehicle: each is the other's inverse, and what is drawn later
-- leaves both as they are.
use Rattle.std.proofs.Common.{◌≡◌, ℕ, zero, suc, Bool, true, false, List, [], ◌∷◌, ◌++◌, ◌==◌, ◌+◌, ◌≤◌, ◌<◌, inl, inr, Some, length, slice_get, if◌then◌else◌, refl, ap, sym, ◌∙◌, subst, arith, eqb-true, eq-eqb}
use Rattle.std.proofs.lemmas.Bool.{eqb-false}
use Rattle.call_floor.specs.inner.Placed.{IsDrawn}
use Rattle.call_floor.specs.Parts.{how_many, place, number}

pub place_number : (v : ℕ) (ds : List ℕ) (k : ℕ) → place v ds (number v ds k) ≡ k
place_number v [] k = refl
place_number v (d ∷ ds) zero = refl
place_number v (d ∷ ds) (suc k) =
    elim (d == v) as (λ b. (if b then suc (place v ds (if b then number v ds k else number v ds (suc k))) else place v ds (if b then number v ds k else number v ds (suc k))) ≡ suc k) [ true ↦ ap suc (place_number v ds k) | false ↦ place_number v ds (suc k) ]

pub number_zero : (v : ℕ) (ds : List ℕ) → number v ds 0 ≡ 0
number_zero v [] = refl
number_zero v (d ∷ ds) = refl

pub place_zero : (v : ℕ) (ds : List ℕ) → place v ds 0 ≡ 0
place_zero v [] = refl
place_zero v (d ∷ ds) = refl

-- what has an inverse tells numbers apart
pub apart : (f g : ℕ → ℕ) → ((k : ℕ) → g (f k) ≡ k) → (a b : ℕ) → (f a == f b) ≡ (a == b)
apart f g back a b = by (a == b) refl
  where
    other : (a == b) ≡ false → (x : Bool) → (f a == f b) ≡ x → x ≡ false
    other e false h = refl
    other e true h = absurd (eqb-false a b e (sym (back a) ∙ (ap g (eqb-true (f a) (f b) h) ∙ back b)))

    by : (x : Bool) → (a == b) ≡ x → (f a == f b) ≡ x
    by true e = eq-eqb (f a) (f b) (ap f (eqb-true a b e))
    by false e = other e (f a == f b) refl

pub how_many_le : (v : ℕ) (ds : List ℕ) → how_many v ds ≤ length ds
how_many_le v [] = omega arith
how_many_le v (d ∷ ds) =
    let rest = how_many_le v ds in
    elim (d == v) as (λ b. (if b then suc (how_many v ds) else how_many v ds) ≤ suc (length ds)) [ true ↦ omega (arith, rest) | false ↦ omega (arith, rest) ]

-- the numbers that are drawn next follow those drawn
pub number_behind : (v : ℕ) (ds : List ℕ) (k : ℕ) → how_many v ds ≤ k → number v ds (suc k) + how_many v ds ≡ suc k + length ds
number_behind v [] k h = refl
number_behind v (d ∷ ds) k h = by (d == v) h (λ j low. number_behind v ds j low)
  where
    first : ((j : ℕ) → how_many v ds ≤ j → number v ds (suc j) + how_many v ds ≡ suc j + length ds) → (k : ℕ) → suc (how_many v ds) ≤ k → suc (number v ds k) + suc (how_many v ds) ≡ suc k + suc (length ds)
    first further zero low = absurd (omega arith)
    first further (suc j) low = let rest = further j (omega arith) in omega (arith, rest)

    by : (b : Bool) → (if b then suc (how_many v ds) else how_many v ds) ≤ k → ((j : ℕ) → how_many v ds ≤ j → number v ds (suc j) + how_many v ds ≡ suc j + length ds) → suc (if b then number v ds k else number v ds (suc k)) + (if b then suc (how_many v ds) else how_many v ds) ≡ suc k + suc (length ds)
    by true low further = first further k low
    by false low further = let rest = further k low in omega (arith, rest)

-- what is drawn later leaves the numbers of the calls drawn before
pub number_kept : (v : ℕ) (ds more : List ℕ) (k : ℕ) → k ≤ how_many v ds → number v (ds ++ more) k ≡ number v ds k
number_kept v [] more zero h = number_zero v more
number_kept v [] more (suc k) h = absurd (omega arith)
number_kept v (d ∷ ds) more zero h = refl
number_kept v (d ∷ ds) more (suc k) h = by (d == v) h (λ j low. number_kept v ds more j low)
  where
    by : (b : Bool) → suc k ≤ (if b then suc (how_many v ds) else how_many v ds) → ((j : ℕ) → j ≤ how_many v ds → number v (ds ++ more) j ≡ number v ds j) → suc (if b then number v (ds ++ more) k else number v (ds ++ more) (suc k)) ≡ suc (if b then number v ds k else number v ds (suc k))
    by true low further = ap suc (further k (omega arith))
    by false low further = ap suc (further (suc k) low)

-- what is drawn for itself leaves all
pub number_own : (v : ℕ) (ds : List ℕ) (k : ℕ) → number v (ds ++ v ∷ []) k ≡ number v ds k
number_own v [] zero = refl
number_own v [] (suc k) = ap (λ b. suc (if b then k else suc k)) (eq-eqb v v refl)
number_own v (d ∷ ds) zero = refl
number_own v (d ∷ ds) (suc k) =
    ap (λ n. suc (if d == v then n else number v (ds ++ v ∷ []) (suc k))) (number_own v ds k)
    ∙ ap (λ n. suc (if d == v then number v ds k else n)) (number_own v ds (suc k))

pub place_own : (v : ℕ) (ds : List ℕ) (c : ℕ) → place v (ds ++ v ∷ []) c ≡ place v ds c
place_own v [] zero = refl
place_own v [] (suc c) = ap (λ b. if b then suc c else c) (eq-eqb v v refl)
place_own v (d ∷ ds) zero = refl
place_own v (d ∷ ds) (suc c) = ap (λ n. if d == v then suc n else n) (place_own v ds c)

pub how_many_own : (v : ℕ) (ds : List ℕ) → how_many v (ds ++ v ∷ []) ≡ suc (how_many v ds)
how_many_own v [] = ap (λ b. if b then 1 else 0) (eq-eqb v v refl)
how_many_own v (d ∷ ds) = ap (λ n. if d == v then suc n else n) (how_many_own v ds) ∙ elim (d == v) as (λ b. (if b then suc (suc (how_many v ds)) else suc (how_many v ds)) ≡ suc (if b then suc (how_many v ds) else how_many v ds)) [ true ↦ refl | false ↦ refl ]

pub how_many_other : (v u : ℕ) → (u == v) ≡ false → (ds : List ℕ) → how_many v (ds ++ u ∷ []) ≡ how_many v ds
how_many_other v u h [] = ap (λ b. if b then 1 else 0) h
how_many_other v u h (d ∷ ds) = ap (λ n. if d == v then suc n else n) (how_many_other v u h ds)

pub length_more : (ds : List ℕ) (u : ℕ) → length (ds ++ u ∷ []) ≡ suc (length ds)
length_more [] u = refl
length_more (d ∷ ds) u = ap suc (length_more ds u)

-- The number of a call that was drawn for the vehicle comes back from its place, which is one of those drawn.

same_vehicle : (d v : ℕ) → Some d ≡ Some v → d ≡ v
same_vehicle d v e = cc

pub number_place : (v : ℕ) (ds : List ℕ) (c : ℕ) → slice_get ds c ≡ Some v → number v ds (place v ds (suc c)) ≡ suc c
number_place v [] c h = cc
number_place v (d ∷ ds) zero h =
    let here : (d == v) ≡ true = eq-eqb d v (same_vehicle d v h) in
    ap (λ b. number v (d ∷ ds) (if b then suc (place v ds 0) else place v ds 0)) here
    ∙ ap (λ b. suc (if b then number v ds (place v ds 0) else number v ds (suc (place v ds 0)))) here
    ∙ ap suc (ap (number v ds) (place_zero v ds) ∙ number_zero v ds)
number_place v (d ∷ ds) (suc c) h = by (d == v) refl (number_place v ds c h)
  where
    later : (d == v) ≡ false → (p : ℕ) → number v ds p ≡ suc c → number v (d ∷ ds) p ≡ suc (suc c)
    later e zero back = absurd (omega (arith, back, number_zero v ds))
    later e (suc p) back = ap (λ b. suc (if b then number v ds p else number v ds (suc p))) e ∙ ap suc back

    by : (b : Bool) → (d == v) ≡ b → number v ds (place v ds (suc c)) ≡ suc c → number v (d ∷ ds) (if b then suc (place v ds (suc c)) else place v ds (suc c)) ≡ suc (suc c)
    by true e back =
        ap (λ b. suc (if b then number v ds (place v ds (suc c)) else number v ds (suc (place v ds (suc c))))) e ∙ ap suc back
    by false e back = later e (place v ds (suc c)) back

pub place_low : (v : ℕ) (ds : List ℕ) (c : ℕ) → c < length ds → place v ds (suc c) ≤ how_many v ds
place_low v [] c h = absurd (omega arith)
place_low v (d ∷ ds) zero h =
    let none = place_zero v ds in
    elim (d == v) as (λ b. (if b then suc (place v ds 0) else place v ds 0) ≤ (if b then suc (how_many v ds) else how_many v ds)) [ true ↦ omega (arith, none) | false ↦ omega (arith, none) ]
place_low v (d ∷ ds) (suc c) h =
    let rest = place_low v ds c (omega arith) in
    elim (d == v) as (λ b. (if b then suc (place v ds (suc c)) else place v ds (suc c)) ≤ (if b then suc (how_many v ds) else how_many v ds)) [ true ↦ omega (arith, rest) | false ↦ rest ]

pub drawn_low : {A : Type 0} (ds : List A) (c : ℕ) (v : A) → slice_get ds c ≡ Some v → c < length ds
drawn_low [] c v h = cc
drawn_low (d ∷ ds) zero v h = omega arith
drawn_low (d ∷ ds) (suc c) v h = let rest = drawn_low ds c v h in omega (arith, rest)

pub number_drawn : (v : ℕ) (ds : List ℕ) (c p : ℕ) → suc p ≤ how_many v ds → IsDrawn v ds c (number v ds (suc p) + c)
number_drawn v [] c p h = absurd (omega arith)
number_drawn v (d ∷ ds) c p h = by (d == v) refl h
    (λ q low. subst (IsDrawn v ds (suc c)) (moved (number v ds (suc q))) (number_drawn v ds (suc c) q low))
  where
    moved : (x : ℕ) → x + suc c ≡ suc x + c
    moved x = omega arith

    first : (d == v) ≡ true → ((q : ℕ) → suc q ≤ how_many v ds → IsDrawn v ds (suc c) (suc (number v ds (suc q)) + c)) → (q : ℕ) → q ≤ how_many v ds → IsDrawn v (d ∷ ds) c (suc (number v ds q) + c)
    first e further zero low = inl (omega (arith, number_zero v ds), eqb-true d v e)
    first e further (suc q) low = inr (further q low)

    by : (b : Bool) → (d == v) ≡ b → suc p ≤ (if b then suc (how_many v ds) else how_many v ds) → ((q : ℕ) → suc q ≤ how_many v ds → IsDrawn v ds (suc c) (suc (number v ds (suc q)) + c)) → IsDrawn v (d ∷ ds) c (suc (if b then number v ds p else number v ds (suc p)) + c)
    by true e low further = first e further p (omega arith)
    by false e low further = inr (further p low)

pub drawn_above : (v : ℕ) (ds : List ℕ) (c n : ℕ) → IsDrawn v ds c n → c < n
drawn_above v [] c n h = absurd h
drawn_above v (d ∷ ds) c n (inl h) = omega (arith, h.0)
drawn_above v (d ∷ ds) c n (inr h) = let low = drawn_above v ds (suc c) n h in omega (arith, low)

-- numbers rise with the places
pub number_rises : (v : ℕ) (ds : List ℕ) (a b : ℕ) → a < b → number v ds a < number v ds b
number_rises v [] a b h = h
number_rises v (d ∷ ds) zero zero h = absurd (omega arith)
number_rises v (d ∷ ds) (suc a) zero h = absurd (omega arith)
number_rises v (d ∷ ds) zero (suc b) h = omega arith
number_rises v (d ∷ ds) (suc a) (suc b) h =
    let one = number_rises v ds a b (omega arith) in
    let two = number_rises v ds (suc a) (suc b) h in
    elim (d == v) as (λ x. suc (if x then number v ds a else number v ds (suc a)) < suc (if x then number v ds b else number v ds (suc b))) [ true ↦ omega (arith, one) | false ↦ omega (arith, two) ]
