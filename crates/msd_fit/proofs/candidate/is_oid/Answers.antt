use Rattle.std.proofs.Common.{rules, ◌≡◌, ap, ◌∙◌, arith}
use Rattle.per_bits.specs.Bits.{octets_of}
use Rattle.per_bits.specs.Parts.{AreOctets}
use Rattle.per_bits.proofs.Octets.{octets_of_bits, are_octets}
use Rattle.msd_fit.proofs.Arcs.{tested}
use Rattle.msd_fit.proofs.candidate.is_oid.Goals as goal

pub returns-clause-exact : goal.returns-clause-exact
returns-clause-exact c =
    let octets = c.args.octets.now in
    let each : AreOctets octets = are_octets octets (λ i. omega (arith, c.type_inv.octets i)) in
    let same : octets_of c.octs_of.result.bits ≡ octets =
    ap (λ p. octets_of p.bits) c.octs_of.ensures ∙ octets_of_bits octets each in
    rw (← same) (search rules)

pub returns-clause-test : goal.returns-clause-test
returns-clause-test c = tested c.is_some.result c.args.octets.now (returns-clause-exact c)
