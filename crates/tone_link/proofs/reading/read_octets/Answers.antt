use Rattle.std.proofs.Common.{◌*◌, arith}
use Rattle.std.proofs.lemmas.Result.{err_from_is_err_and}
use Rattle.per_bits.proofs.Places.{length_octet_bits}
use Rattle.per_bits.specs.Bits.{octet_bits}
use Rattle.tone_link.proofs.Said.{octet_behind, unsure_behind}
use Rattle.tone_link.proofs.reading.read_octets.Goals as goal

pub returns-in_err-read_octet : goal.returns-in_err-read_octet
returns-in_err-read_octet c =
    let p = err_from_is_err_and c.from_residual.result c.from_residual.ensures.1 in
    rw (p.1, p.2)
    (unsure_behind c.args.samples.now (octet_bits c.loop-i.octets.items) (8 * c.loop-i.i) _
    (omega (arith, length_octet_bits c.loop-i.octets.items, c.loop-i.invariant.0)) c.loop-i.invariant.2 c.in_err-read_octet.ensures)

pub loop-i-preserved : goal.loop-i-preserved
loop-i-preserved c =
    octet_behind c.args.samples.now c.loop-i.octets.items c.push.new.self.items c.loop-i.i c.in_ok-read_octet.field-0
    c.push.ensures.items c.loop-i.invariant.0 c.loop-i.invariant.1 c.loop-i.invariant.2
    c.in_ok-read_octet.ensures.0 c.in_ok-read_octet.ensures.1
