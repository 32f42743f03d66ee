use Rattle.std.proofs.Common.{arith}
use Rattle.per_bits.specs.Bits.{octets_of}
use Rattle.per_bits.proofs.Octets.{arcs_step, arcs_bad}
use Rattle.per_bits.proofs.strings.Octs.is_oid.Goals as goal
use Rattle.per_bits.proofs.strings.Octs.is_oid.Goals.{else-begins-via-then-begins+else-octet, else-begins-via-else-begins}

pub returns-then-octet : goal.returns-then-octet
returns-then-octet c = (
  λ h. cc,
  λ oid. absurd (arcs_bad (octets_of c.args.self.now.bits) c.loop-i.i c.at-octet.result c.loop-i.begins (omega arith) c.at-octet.ensures c.if-begins.true c.if-octet.true c.loop-i.invariant oid.1),
)

pub loop-i-preserved : goal.loop-i-preserved
loop-i-preserved c =
    elim c.else-begins.branch [
      | else-begins-via-then-begins+else-octet w ↦ arcs_step (octets_of c.args.self.now.bits) c.loop-i.i c.at-octet.result c.loop-i.begins (omega arith) c.at-octet.ensures (λ h. w.if-octet.false) c.loop-i.invariant
      | else-begins-via-else-begins w ↦ arcs_step (octets_of c.args.self.now.bits) c.loop-i.i c.at-octet.result c.loop-i.begins (omega arith) c.at-octet.ensures (λ h. absurd (cc)) c.loop-i.invariant
    ]
