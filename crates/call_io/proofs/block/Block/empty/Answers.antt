use Rattle.std.proofs.Common.{◌∙◌, arith}
use Rattle.call_io.proofs.BlockLemmas.{handed-on, told_more}
use Rattle.call_io.proofs.block.Block.empty.Goals as goal

pub loop-self-preserved : goal.loop-self-preserved
loop-self-preserved g c =
    let more = told_more _ _ _ c.in_ok-self.ensures.bytes in (
      handed-on _ _ c.loop-self.self.bytes c.loop-self.self.start c.loop-self.self.end c.in_ok-self.field-0 c.in_ok-self.ensures.bytes ∙ c.loop-self.invariant.0,
      c.in_ok-self.ensures.stood ∙ c.loop-self.invariant.1,
      (c.loop-self.invariant.2.0, omega arith),
    )
