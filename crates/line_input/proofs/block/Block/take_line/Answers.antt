use Rattle.std.proofs.Common.{arith}
use Rattle.line_input.proofs.LentLemmas.{LendsLine-first}
use Rattle.line_input.proofs.block.Block.take_line.Goals as goal

pub returns-in-Some-clause-takes : goal.returns-in-Some-clause-takes
returns-in-Some-clause-takes c =
    let held = c.self.inside in
    rw (← c.self.view_is) (LendsLine-first held.block held.at c.min-until.result held.«end» held.given c.in-Some.len held.ended (omega arith)
    (omega (arith, c.self.invariant.4, c.min-until.ensures)) (omega (arith, c.min-until.ensures, c.min-most.ensures)) c.self.invariant.3 c.in-Some.ensures)
