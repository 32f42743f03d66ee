use Rattle.std.proofs.Common.{◌∷◌, [], ◌++◌, false, take, ap, ◌∙◌, arith}
use Rattle.std.proofs.lemmas.List.{take_more, replicate_more}
use Rattle.std.proofs.lemmas.Option.{get_or_from_slice_get}
use Rattle.per_bits.proofs.sections.absent.Goals as goal

pub loop-i-preserved : goal.loop-i-preserved
loop-i-preserved c =
    take_more c.args.present.now.bits c.loop-i.i false (omega arith)
    ∙ ap (λ b. take c.loop-i.i c.args.present.now.bits ++ b ∷ []) (get_or_from_slice_get c.args.present.now.bits c.loop-i.i false false c.if-bit.ensures.value)
    ∙ ap (λ l. l ++ false ∷ []) c.loop-i.invariant
    ∙ replicate_more c.loop-i.i false
