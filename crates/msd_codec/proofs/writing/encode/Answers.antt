use Rattle.std.proofs.Common.{◌≡◌, rules, sym, ap, ◌∙◌}
use Rattle.per_bits.specs.Bits.{padded}
use Rattle.msd_codec.specs.Module.{ecall_message}
use Rattle.msd_codec.specs.Canonical.{canonical_bits}
use Rattle.msd_codec.specs.Trees.{tree}
use Rattle.msd_codec.specs.Sets.{NeedsMoreBits}
use Rattle.per_types.specs.Types.{Ty}
use Rattle.msd_codec.proofs.BothFormats.{module_is}
use Rattle.msd_codec.proofs.CanonicalBits.{put_alone, needed}
use Rattle.msd_codec.proofs.writing.encode.Goals as goal

pub returns-then-is_err-clause-bits : goal.returns-then-is_err-clause-bits
returns-then-is_err-clause-bits c =
    let long : NeedsMoreBits (tree c.args.msd.now) c.message_len.result = search rules in
    rw (← module_is c.args.msd.now) (needed (tree c.args.msd.now) c.message_len.result long)

pub returns-clause-octets : goal.returns-clause-octets
returns-clause-octets c =
    let put : c.write_message.new.to ≡ canonical_bits (ecall_message c.args.msd.now.format) (tree c.args.msd.now) = put_alone (ecall_message c.args.msd.now.format) (tree c.args.msd.now) c.new-to.result c.write_message.new.to c.write_message.result c.write_message.ensures c.new-to.ensures (sym c.if-is_err.ensures.value) in
    let there : c.try_extend_from_slice.new.self.items ≡ c.octets.result.now = search rules in
    there ∙ c.octets.ensures.value ∙ ap padded (put ∙ ap (λ (t : Ty). canonical_bits t (tree c.args.msd.now)) (sym (module_is c.args.msd.now)))
