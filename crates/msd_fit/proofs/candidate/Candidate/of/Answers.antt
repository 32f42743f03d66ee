use Rattle.std.proofs.Common.{rules, arith}
use Rattle.per_bits.specs.Parts.{AreOctets}
use Rattle.per_bits.proofs.Octets.{are_octets}
use Rattle.msd_fit.proofs.Stored.{stores}
use Rattle.msd_fit.proofs.candidate.Candidate.of.Goals as goal

pub invariant_of-result : goal.invariant_of-result
invariant_of-result c =
    let both = c.is_candidate.ensures.exact.0 (search rules) in
    let each : AreOctets c.args.oid.now = are_octets _ (λ i. omega (arith, c.type_inv.oid i)) in
    let others : AreOctets c.args.content.now = are_octets _ (λ i. omega (arith, c.type_inv.content i)) in
    stores _ _ _ _ both.1 both.0 each others c.put.ensures c.put-2.ensures
