-- The readings of the vehicle's type and of its identification.
use Rattle.std.proofs.Common.{◌≡◌, ℕ, ◌+◌, ◌-◌, ◌<◌, ◌≤◌, Ok, Err, refl, sym, ap, ◌∙◌, arith}
use Rattle.per_bits.specs.Bits.{Part}
use Rattle.per_bits.specs.declared.refusals.Refusal.{Refusal}
use Rattle.per_types.specs.Types.{root, added, enumerated}
use Rattle.per_types.specs.declared.index.EnumIndex.{EnumIndex}
use Rattle.per_types.specs.declared.index.EnumIndex.TheVariants.{Root, Added}
use Rattle.per_types.specs.Reading.{enum_at, index_tree, tree_at}
use Rattle.per_types.proofs.Decided.{only_type}
use Rattle.msd_codec.specs.inner.Reading.{MovesOn}
use Rattle.msd_codec.proofs.Steps.{tree_moves}

enum_tree : (p q : Part) (i : EnumIndex) → enum_at 13 p ≡ Ok (i, q) → tree_at (enumerated 13) p ≡ Ok (index_tree i, q)
unfolding tree_at
enum_tree p q i e = rw e refl

pub enum_err : (p : Part) (e : Refusal × Part) → enum_at 13 p ≡ Err e → tree_at (enumerated 13) p ≡ Err e
unfolding tree_at
enum_err p e h = rw h refl

pub enum_moves : (p q : Part) (i : EnumIndex) → enum_at 13 p ≡ Ok (i, q) → MovesOn p q
enum_moves p q i e = tree_moves (enumerated 13) (omega arith) p q _ (enum_tree p q i e)

pub root_below : (p q : Part) (i : EnumIndex) (n : ℕ) → enum_at 13 p ≡ Ok (i, q) → i ≡ Root n → n < 13
root_below p q i n e is =
    let read : tree_at (enumerated 13) p ≡ Ok (root n, q) = enum_tree p q i e ∙ ap (λ (j : EnumIndex). Ok (index_tree j, q)) is in
    let takes = (only_type (enumerated 13) (omega arith) p (Ok (root n, q))).0 (sym read) in
    takes.1.1.known

pub added_below : (p q : Part) (i : EnumIndex) (n : ℕ) → enum_at 13 p ≡ Ok (i, q) → i ≡ Added n → n ≤ 63
added_below p q i n e is =
    let read : tree_at (enumerated 13) p ≡ Ok (added n, q) = enum_tree p q i e ∙ ap (λ (j : EnumIndex). Ok (index_tree j, q)) is in
    let takes = (only_type (enumerated 13) (omega arith) p (Ok (added n, q))).0 (sym read) in
    takes.1.1.0

pub root_tree : (p q : Part) (i : EnumIndex) (n m : ℕ) → enum_at 13 p ≡ Ok (i, q) → i ≡ Root n → m ≡ n + 1 → tree_at (enumerated 13) p ≡ Ok (root (m - 1), q)
root_tree p q i n m e is more =
    let same : n ≡ m - 1 = omega (arith, more) in
    enum_tree p q i e ∙ ap (λ (j : EnumIndex). Ok (index_tree j, q)) is ∙ ap (λ (k : ℕ). Ok (root k, q)) same

pub added_tree : (p q : Part) (i : EnumIndex) (n m : ℕ) → enum_at 13 p ≡ Ok (i, q) → i ≡ Added n → m ≡ n → tree_at (enumerated 13) p ≡ Ok (added m, q)
added_tree p q i n m e is same = enum_tree p q i e ∙ ap (λ (j : EnumIndex). Ok (index_tree j, q)) is ∙ ap (λ (k : ℕ). Ok (added k, q)) (sym same)
