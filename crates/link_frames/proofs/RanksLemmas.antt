-- A list of deadlines: how long nothing acts, and that what is due is at least a tick away.
use Rattle.std.proofs.Common.{◌≡◌, ◌≤◌, ◌+◌, ℕ, false, suc, List, [], ◌∷◌, Some, refl, arith, IfSome, nat_eq}
use Rattle.std.specs.List.{AllByRecursion}
use Rattle.std.proofs.lemmas.Bool.Decides.{nat_tests}
use Rattle.link_frames.specs.Ranks.{Deadline, first_of, soonest, least_left}

-- each has at least n ticks left
abbrev pub EachLeaves : {A : Type 0} → ℕ → List (Deadline A) → Type 0
EachLeaves n ds = AllByRecursion (λ d. n ≤ d.left) ds

least_leaves : {A : Type 0} (n k : ℕ) (ds : List (Deadline A)) → n ≤ least_left k ds → (n ≤ k) × EachLeaves n ds
least_leaves n k [] h = (h, tt)
least_leaves n k (d ∷ ds) h =
    let below : n ≤ least_left d.left ds = omega arith in (omega arith, least_leaves n d.left ds below)

-- up to what is due each line leaves one tick less
pub due_leaves : {A : Type 0} (n : ℕ) (ds : List (Deadline A))
    → IfSome (soonest ds) (λ due. suc n ≤ due)
    → EachLeaves n ds
due_leaves n [] h = tt
due_leaves n (d ∷ ds) h = let below : n ≤ least_left d.left ds = omega (arith, h) in least_leaves n d.left ds below

-- nothing acts while each line has a tick left
pub none_acts : {A : Type 0} (n : ℕ) (none : A) (ds : List (Deadline A)) → EachLeaves (suc n) ds → first_of none ds ≡ none
none_acts n none [] h = refl
none_acts n none (d ∷ ds) h =
    let some : nat_eq d.left 0 ≡ false = (let least : suc n ≤ d.left = h.0 in grind (arith, nat_tests)) in
    rw some (none_acts n none ds h.1)

-- what is due is at least a tick away
pub due_at_least : {A : Type 0} (ds : List (Deadline A)) (due : ℕ) → soonest ds ≡ Some due → 1 ≤ due
due_at_least [] due e = cc
due_at_least (d ∷ ds) due e = let same : least_left d.left ds + 1 ≡ due = cc in omega arith
