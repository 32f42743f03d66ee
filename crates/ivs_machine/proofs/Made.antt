-- Lemmas on the sets that were made.
use Rattle.std.proofs.Common.{◌≡◌, ◌<◌, ◌+◌, ℕ, true, false, List, [], ◌∷◌, nat_eq, min, zero, suc, refl, arith}
use Rattle.std.specs.Prelude.{Some, None}
use Rattle.std.proofs.lemmas.Bool.Decides.{nat_tests}
use Rattle.link_frames.specs.declared.frame.End.TheVariants as «end»
use Rattle.link_frames.specs.declared.frame.Frame.TheVariants as frame
use Rattle.link_frames.specs.Legs.{Kept, made_by}
use Rattle.link_frames.specs.Owes.{set_for}
use Rattle.ivs_machine.specs.Vehicle.{served, octets_for}
use Rattle.ivs_machine.specs.VehicleKept.{AreRising, IsLast}

-- a request above all those made has no set
pub none_above : (r : ℕ) (sets : List Kept) → served sets < r → set_for r sets ≡ None
none_above r [] h = refl
none_above r (set ∷ sets) h =
    let below : served sets < r = grind arith in
    let apart : nat_eq set.0 r ≡ false = grind (arith, nat_tests) in
    rw (none_above r sets below) (rw apart refl)

-- so its set is the one that is made now
pub newest_for : (r : ℕ) (octets : List ℕ) (sets : List Kept) → served sets < r → set_for r ((r, octets) ∷ sets) ≡ Some octets
newest_for r octets sets h =
    let same : nat_eq r r ≡ true = grind (arith, nat_tests) in
    rw (none_above r sets h) (rw same refl)

-- the set made last is its request's only one
pub last_for : (r : ℕ) (sets : List Kept) → AreRising sets → IsLast r sets → set_for r sets ≡ Some (octets_for r sets)
last_for r [] rising h = absurd h
last_for r (set ∷ sets) rising h =
    let below : served sets < r = (let least : served sets < set.0 = rising.0 in let is : set.0 ≡ r = h in omega arith) in
    let same : nat_eq set.0 r ≡ true = (let is : set.0 ≡ r = h in grind (arith, nat_tests)) in
    rw (none_above r sets below) (rw same refl)

-- an attempt other than the first makes no set
sent_again : (r n : ℕ) (octets : List ℕ) (sets : List Kept) → 0 < n → made_by «end».Vehicle sets (frame.Content r n octets) ≡ sets
sent_again r zero octets sets h = absurd (omega arith)
sent_again r (suc n) octets sets h = refl

pub made_again : (r attempt : ℕ) (octets : List ℕ) (sets : List Kept) → made_by «end».Vehicle sets (frame.Content r (min (attempt + 1) 255) octets) ≡ sets
made_again r attempt octets sets = sent_again r (min (attempt + 1) 255) octets sets (omega arith)
