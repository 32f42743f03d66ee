use Rattle.std.proofs.Common.{◌≤◌, ◌+◌, length, arith}
use Rattle.per_bits.proofs.Places.{in_place, length_field, part_is}
use Rattle.per_bits.proofs.parts.Bits.part.Goals as goal

pub returns-clause-value : goal.returns-clause-value
returns-clause-value c =
    let fits : c.args.start + c.args.len ≤ length c.args.self.now.bits = c.requires in
    let within = rw (← c.self.view_is, length_field c.self.inside.octets.now c.self.inside.start c.self.inside.len c.self.invariant.0) at fits in
    rw (← c.self.view_is) (part_is c.self.inside.octets.now c.self.inside.start c.self.inside.len c.args.start c.args.len (omega arith))

pub returns-clause-in_place : goal.returns-clause-in_place
returns-clause-in_place c =
    let fits : c.args.start + c.args.len ≤ length c.args.self.now.bits = c.requires in
    let within = rw (← c.self.view_is, length_field c.self.inside.octets.now c.self.inside.start c.self.inside.len c.self.invariant.0) at fits in
    in_place c.self.inside.octets.now (c.self.inside.start + c.args.start) c.args.len (omega arith) c.self.invariant.1
