use Rattle.std.proofs.Common.{◌≡◌, ap, sym, subst, ◌∙◌}
use Rattle.per_bits.specs.Bits.{octets_of}
use Rattle.per_bits.specs.Parts.{IsOid}
use Rattle.per_bits.proofs.Octets.{octets_of_bits}
use Rattle.msd_fit.proofs.fitting.extra_of.Goals as goal

pub known-requires : goal.known-requires
known-requires c =
    let same : octets_of c.octs_of.result.bits ≡ c.oid.result.now =
    ap (λ p. octets_of p.bits) c.octs_of.ensures ∙ octets_of_bits _ c.oid.ensures.octets in
    subst IsOid (sym same) c.oid.ensures.oid
