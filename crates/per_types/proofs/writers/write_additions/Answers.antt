use Rattle.std.proofs.Common.{length, ap, sym, ◌∙◌, refl}
use Rattle.per_bits.specs.Bits.{Part}
use Rattle.per_bits.specs.Parts.{members_of}
use Rattle.per_types.specs.Spelling.{SectionElements}
use Rattle.per_types.proofs.Written.{written, section_elements}
use Rattle.per_types.proofs.writers.write_additions.Goals as goal

pub returns : goal.returns
returns c =
    let spelled = section_elements (members_of c.args.value.bits) c.args.value.bits c.bits.ensures.section in
    written (SectionElements (members_of c.args.value.bits)) c.args.to.now c.put_bits.new.self c.bits.result.bits (length c.bits.result.bits) c.put_bits.result
    (record { elements = spelled.elements; spell = spelled.spell; bits = spelled.bits ∙ sym (ap (λ (p : Part). p.bits) c.bits.ensures.value) })
    refl c.put_bits.ensures.ok c.put_bits.ensures.full
