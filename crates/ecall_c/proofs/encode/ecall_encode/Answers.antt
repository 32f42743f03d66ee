use Rattle.std.proofs.Common.{sym, subst, ℕ, List}
use Rattle.per_types.specs.Types.{Tree}
use Rattle.msd_codec.specs.Trees.{tree}
use Rattle.msd_codec.specs.Sets.{AreCanonical, NeedsMoreBits}
use Rattle.ecall_c.specs.Flat.{msd_of}
use Rattle.ecall_c.proofs.encode.ecall_encode.Goals as goal

pub returns-in-Ok-clause-written : goal.returns-in-Ok-clause-written
returns-in-Ok-clause-written c =
    λ _. subst (λ (octets : List ℕ). AreCanonical octets (tree (msd_of c.args.octets.now c.args.set.now)))
    (sym c.encoded.ensures.octets)
    (subst (λ (octets : List ℕ). AreCanonical octets (tree (msd_of c.args.octets.now c.args.set.now)))
    (sym c.as_slice.ensures.value)
    (subst (λ (t : Tree). AreCanonical c.in-Ok.written.items t) c.in-Some.ensures.value c.in-Ok.ensures.canonical))

pub returns-in-Err-clause-long : goal.returns-in-Err-clause-long
returns-in-Err-clause-long c =
    λ _. subst (λ (n : ℕ). NeedsMoreBits (tree (msd_of c.args.octets.now c.args.set.now)) n)
    (sym c.fault-in-Err.ensures.bits)
    (subst (λ (t : Tree). NeedsMoreBits t c.in-Err.long.bits) c.in-Some.ensures.value c.in-Err.ensures.long)
