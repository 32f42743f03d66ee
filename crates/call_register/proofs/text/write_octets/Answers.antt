use Rattle.std.proofs.Common.{◌≡◌, rules, subst, sym}
use Rattle.std.specs.Str.{IsUtf8}
use Rattle.hex.specs.Hex.{encode_lower}
use Rattle.call_register.proofs.PlainLemmas.{hexadecimal_is_text}
use Rattle.call_register.proofs.text.write_octets.Goals as goal

pub unreachable-requires : goal.unreachable-requires
unreachable-requires c =
    let digits : c.encode_to_slice.new.output ≡ encode_lower c.args.octets.now = search rules in
    absurd (c.in-Err.ensures.cases.0 (subst IsUtf8 (sym digits) (hexadecimal_is_text c.args.octets.now)))
