use Rattle.std.proofs.Common.{◌≡◌, ◌+◌, ◌-◌, ◌∙◌, ap, arith}
use borrow.Rule.Slice.PartMut.{put_mid}
use Rattle.per_bits.specs.Bits.{octet_bits}
use Rattle.per_bits.proofs.Buffer.{window_set}
use Rattle.per_bits.proofs.writing.put_window.Goals as goal

pub returns : goal.returns
returns c =
    let eight : c.args.at + 8 - c.args.at ≡ 8 = omega arith in
    ap (λ n. octet_bits (put_mid c.args.at n c.args.octets.now c.copy_from_slice.new.self)) eight
    ∙ ap (λ l. octet_bits (put_mid c.args.at 8 c.args.octets.now l)) (c.copy_from_slice.ensures.after ∙ c.to_be_bytes.ensures)
    ∙ window_set c.args.octets.now c.args.at c.args.window
