use Rattle.std.proofs.Common.{◌+◌, ◌*◌, ◌++◌, refl, sym, subst}
use Rattle.per_bits.specs.Bits.{Part, digits, octets_of}
use Rattle.per_bits.specs.Parts.{IsOid}
use Rattle.per_types.specs.Spelling.{OidElements}
use Rattle.per_types.proofs.Written.{Spelled, written, oid_spelled, string_long}
use Rattle.per_types.proofs.writers.write_oid.Goals as goal

pub returns : goal.returns
returns c =
    let IsOne : Part → Type 0 = λ p. IsOid (octets_of p.bits) in
    let Has : Part → Type 0 = λ p. Spelled (OidElements (octets_of p.bits)) (digits 8 c.count.result ++ c.bits.result.bits) in
    let oid = subst IsOne (sym c.octs-octets.ensures.value) c.octs-octets.ensures.oid in
    let spelled = oid_spelled c.bits.result c.octs-octets.result c.count.result c.count.result c.bits.ensures.value c.count.ensures.size c.count.ensures.few c.count.ensures.value refl oid in
    written (OidElements (octets_of c.args.value.bits)) c.args.to.now c.write_string.new.to (digits 8 c.count.result ++ c.bits.result.bits) (8 + 8 * c.count.result) c.write_string.result
    (subst Has c.octs-octets.ensures.value spelled)
    (string_long c.bits.result c.octs-octets.result c.count.result c.count.result c.bits.ensures.value c.count.ensures.size)
    c.write_string.ensures.ok c.write_string.ensures.full
