use Rattle.std.proofs.Common.{◌++◌, ◌∙◌, take, ap, arith}
use Rattle.std.proofs.lemmas.List.{append_assoc}
use Rattle.per_bits.specs.Bits.{Part, digits, value_of}
use Rattle.per_bits.proofs.Buffer.{next_bits}
use Rattle.per_bits.proofs.writing.BitBuf.put_bits.Goals as goal

pub loop-done-preserved : goal.loop-done-preserved
loop-done-preserved c = (
  omega arith,
  c.append.ensures
      ∙ ap (λ l. l ++ digits c.min-n.result c.number.result) c.loop-done.invariant.1
      ∙ ap (λ x. (c.args.self.now ++ take c.loop-done.done c.args.bits.bits) ++ digits c.min-n.result x)
      (c.number.ensures.value ∙ ap (λ (p : Part). value_of (take c.min-n.result p.bits)) c.part.ensures.value)
      ∙ append_assoc c.args.self.now (take c.loop-done.done c.args.bits.bits) _
      ∙ ap (λ l. c.args.self.now ++ l) (next_bits c.args.bits.bits c.loop-done.done c.min-n.result (omega arith)),
)
