-- What holds of each element of a list, by recursion on it.
use Rattle.std.specs.Prelude.{ℕ, List, [], ◌∷◌, ◌++◌, slice_get, IfSome}
use Rattle.std.specs.List.{AllByRecursion}
use Rattle.std.proofs.Common.{zero, suc}

pub all_append : {X : Type 0} (P : X → Type 0) → (xs ys : List X) → AllByRecursion P xs → AllByRecursion P ys →
    AllByRecursion P (xs ++ ys)
all_append P [] ys a b = b
all_append P (x ∷ xs) ys a b = (a.0, all_append P xs ys a.1 b)

pub all_into : {X : Type 0} (P Q : X → Type 0) → ((x : X) → P x → Q x) → (xs : List X) → AllByRecursion P xs →
    AllByRecursion Q xs
all_into P Q f [] a = tt
all_into P Q f (x ∷ xs) a = (f x a.0, all_into P Q f xs a.1)

pub all_at : {X : Type 0} (P : X → Type 0) → (xs : List X) (i : ℕ) → AllByRecursion P xs → IfSome (slice_get xs i) P
all_at P [] i a = tt
all_at P (x ∷ xs) zero a = a.0
all_at P (x ∷ xs) (suc i) a = all_at P xs i a.1
