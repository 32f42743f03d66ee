-- The place of a number among others, and a list with one element changed. Cited by the private functions on the calls
-- of a `World` alone.
use Rattle.std.specs.Prelude.{ℕ, zero, suc, ◌==◌, List, [], ◌∷◌, Option, Some, None, if◌then◌else◌}

-- the place one further on
abbrev pub next_place : Option ℕ → Option ℕ
next_place None = None
next_place (Some i) = Some (suc i)

-- the first place of a number, from 0
abbrev pub place_of : ℕ → List ℕ → Option ℕ
place_of c [] = None
place_of c (n ∷ ns) = if n == c then Some 0 else next_place (place_of c ns)

-- the list with the element at a place changed
abbrev pub changed : {A : Type 0} → ℕ → (A → A) → List A → List A
changed i f [] = []
changed zero f (x ∷ xs) = f x ∷ xs
changed (suc i) f (x ∷ xs) = x ∷ changed i f xs
