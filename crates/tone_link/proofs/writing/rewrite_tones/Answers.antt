use Rattle.std.proofs.Common.{arith, length, ap, ◌≤◌}
use Rattle.tone_link.proofs.ToneLaws.{frame_sizes}
use Rattle.tone_link.proofs.Written.{octet_room}
use Rattle.tone_link.proofs.writing.rewrite_tones.Goals as goal

pub push_octet-requires : goal.push_octet-requires
push_octet-requires c =
    let few : length c.as_slice-octet-items.result.now ≤ 143 =
    omega (arith, ap length c.as_slice-octet-items.ensures.value, ap length c.write-octets.ensures, (frame_sizes c.args.frame.now c.frame_laws.ensures.is_frame).1) in
    octet_room c.loop-octet.samples.items c.as_slice-octet-items.result.now c.loop-octet.octet-index c.loop-octet.invariant (omega arith) few
