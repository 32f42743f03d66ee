use Rattle.std.proofs.Common.{◌≡◌, ◌+◌, ◌-◌, ◌++◌, ◌∙◌, false, length, take, drop, replicate, ap, arith}
use Rattle.std.proofs.lemmas.List.{take_at, drop_at}
use Rattle.per_bits.specs.Bits.{digits, octet_bits}
use Rattle.per_bits.proofs.Places.{length_prefix}
use Rattle.per_bits.proofs.Buffer.{front_long}
use Rattle.per_bits.proofs.writing.BitBuf.append.Goals as goal

pub put_at-requires-clause-room : goal.put_at-requires-clause-room
put_at-requires-clause-room c =
    let long : length c.args.self.now ≡ c.self.inside.len = rw (← c.self.view_is) (length_prefix c.self.inside.octets c.self.inside.len (omega arith)) in
    omega arith

pub invariant_of-self : goal.invariant_of-self
invariant_of-self c =
    let stood : length c.args.self.now ≡ c.self.inside.len = rw (← c.self.view_is) (length_prefix c.self.inside.octets c.self.inside.len (omega arith)) in
    let long = front_long c.self.inside.octets c.self.inside.len c.args.width c.args.value (c.self.inside.len + c.args.width) (omega arith) (omega arith) in (
      omega arith,
      ap (drop (c.self.inside.len + c.args.width)) c.put_at.ensures
          ∙ drop_at (take c.self.inside.len (octet_bits c.self.inside.octets) ++ digits c.args.width c.args.value) (replicate (1184 - (c.self.inside.len + c.args.width)) false) (c.self.inside.len + c.args.width) long,
    )

pub returns : goal.returns
returns c =
    let long = front_long c.self.inside.octets c.self.inside.len c.args.width c.args.value (c.self.inside.len + c.args.width) (omega arith) (omega arith) in
    ap (take (c.self.inside.len + c.args.width)) c.put_at.ensures
    ∙ take_at (take c.self.inside.len (octet_bits c.self.inside.octets) ++ digits c.args.width c.args.value) (replicate (1184 - (c.self.inside.len + c.args.width)) false) (c.self.inside.len + c.args.width) long
    ∙ ap (λ l. l ++ digits c.args.width c.args.value) c.self.view_is
