-- The elements of a list are changed, one after the other.
use Rattle.std.proofs.Common.{◌≡◌, ℕ, zero, suc, List, [], ◌∷◌, ◌++◌, ◌<◌, ◌≤◌, IfSome, map, take, drop, set, slice_get, length, get_or, refl, ap, sym, subst, arith}
use Rattle.std.specs.List.{AllByRecursion}

pub changed_more : {A : Type 0} (f : A → A) (xs : List A) (i : ℕ) (x : A) → i < length xs → x ≡ get_or (map f (take i xs) ++ drop i xs) i x → set (map f (take i xs) ++ drop i xs) i (f x) ≡ map f (take (suc i) xs) ++ drop (suc i) xs
changed_more f [] i x low at = absurd (omega arith)
changed_more f (y ∷ ys) zero x low at = ap (λ z. f z ∷ ys) at
changed_more f (y ∷ ys) (suc i) x low at = ap (λ l. f y ∷ l) (changed_more f ys i x (omega arith) at)

pub changed_length : {A : Type 0} (f : A → A) (xs : List A) (i : ℕ) → length (map f (take i xs) ++ drop i xs) ≡ length xs
changed_length f [] zero = refl
changed_length f [] (suc i) = refl
changed_length f (y ∷ ys) zero = refl
changed_length f (y ∷ ys) (suc i) = ap suc (changed_length f ys i)

pub changed_all : {A : Type 0} (f : A → A) (xs : List A) (i : ℕ) → length xs ≤ i → map f (take i xs) ++ drop i xs ≡ map f xs
changed_all f [] zero low = refl
changed_all f [] (suc i) low = refl
changed_all f (y ∷ ys) zero low = absurd (omega arith)
changed_all f (y ∷ ys) (suc i) low = ap (λ l. f y ∷ l) (changed_all f ys i (omega arith))

-- What holds of each of the first elements, and of the next one.

pub all_more : {A : Type 0} (P : A → Type 0) (xs : List A) (i : ℕ) (x : A) → AllByRecursion P (take i xs) → i < length xs → x ≡ get_or xs i x → P x → AllByRecursion P (take (suc i) xs)
all_more P [] i x a low at p = tt
all_more P (y ∷ ys) zero x a low at p = (subst P at p, tt)
all_more P (y ∷ ys) (suc i) x a low at p = (a.0, all_more P ys i x a.1 (omega arith) at p)

pub all_taken : {A : Type 0} (P : A → Type 0) (xs : List A) (i : ℕ) → AllByRecursion P (take i xs) → length xs ≤ i → AllByRecursion P xs
all_taken P [] i a low = tt
all_taken P (y ∷ ys) zero a low = absurd (omega arith)
all_taken P (y ∷ ys) (suc i) a low = (a.0, all_taken P ys i a.1 (omega arith))

-- the element at a place
pub some_at : {A : Type 0} (P : A → Type 0) (xs : List A) (i : ℕ) (x : A) → i < length xs → x ≡ get_or xs i x → P x → IfSome (slice_get xs i) P
some_at P [] i x low at p = tt
some_at P (y ∷ ys) zero x low at p = subst P at p
some_at P (y ∷ ys) (suc i) x low at p = some_at P ys i x (omega arith) at p

pub at_some : {A : Type 0} (P : A → Type 0) (xs : List A) (i : ℕ) (x : A) → i < length xs → x ≡ get_or xs i x → IfSome (slice_get xs i) P → P x
at_some P [] i x low at h = absurd (omega arith)
at_some P (y ∷ ys) zero x low at h = subst P (sym at) h
at_some P (y ∷ ys) (suc i) x low at h = at_some P ys i x (omega arith) at h
