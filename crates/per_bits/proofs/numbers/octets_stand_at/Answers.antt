use Rattle.std.proofs.Common.{sym, ◌∙◌, arith}
use Rattle.per_bits.specs.Bits.{octet_bits}
use Rattle.per_bits.proofs.Places.{octets_more, octets_differ, length_octet_bits}
use Rattle.per_bits.proofs.numbers.octets_stand_at.Goals as goal

pub returns-then-number_at-octet : goal.returns-then-number_at-octet
returns-then-number_at-octet c = (
  λ h. cc,
  λ e. absurd (c.if-number_at-octet.true (c.number_at.ensures.value ∙ octets_differ (octet_bits c.args.octets.now) c.args.start c.loop-i.i c.args.other.now (omega arith) (omega (arith, c.type_inv.other c.loop-i.i)) e)),
)

pub loop-i-preserved : goal.loop-i-preserved
loop-i-preserved c = octets_more (octet_bits c.args.octets.now) c.args.start c.loop-i.i c.args.other.now (omega arith) (omega (arith, length_octet_bits c.args.octets.now)) c.loop-i.invariant (sym c.number_at.ensures.value ∙ c.if-number_at-octet.false)
