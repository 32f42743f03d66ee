use Rattle.std.proofs.Common.{◌≡◌, length, ap, arith}
use Rattle.per_bits.proofs.Places.{length_field, length_octet_bits}
use Rattle.per_bits.proofs.parts.Bits.octets_equal.Goals as goal

pub returns-then-self-ne0 : goal.returns-then-self-ne0
returns-then-self-ne0 c =
    let long : length c.args.self.now.bits ≡ c.self.inside.len = rw (← c.self.view_is) (length_field c.self.inside.octets.now c.self.inside.start c.self.inside.len c.self.invariant.0) in
    (λ h. cc, λ e. absurd (omega (arith, ap length e, length_octet_bits c.args.other.now)))

pub returns-then-self-other : goal.returns-then-self-other
returns-then-self-other c =
    let long : length c.args.self.now.bits ≡ c.self.inside.len = rw (← c.self.view_is) (length_field c.self.inside.octets.now c.self.inside.start c.self.inside.len c.self.invariant.0) in
    (λ h. cc, λ e. absurd (omega (arith, ap length e, length_octet_bits c.args.other.now)))
