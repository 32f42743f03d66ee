use Rattle.std.proofs.Common.{inl, inr, arith, sym, ◌∙◌, length-take}
use Rattle.std.proofs.lemmas.Bool.{eqb-true, false≢true}
use Rattle.line_input.proofs.BlockLemmas.{EndsLines-none, EndsLines-read}
use Rattle.line_input.proofs.FeedLemmas.{Refills-idle, Refills-read, slice_range-empty}
use Rattle.line_input.proofs.block.Block.refill.Goals as goal
use Rattle.line_input.proofs.block.Block.refill.Goals.{then-self-via-then-self, then-self-via-else-self+then-self-2}

pub returns-then-self-clause-ok : goal.returns-then-self-clause-ok
returns-then-self-clause-ok g c =
    rw (← c.self.view_is) (Refills-idle c.self.inside.block c.self.inside.at c.self.inside.«end» c.self.inside.given c.self.inside.ended _ c.self.invariant.0 (omega arith) c.self.invariant.3
    (elim c.then-self.branch [ then-self-via-then-self w ↦ inl w.if-self.true | then-self-via-else-self+then-self-2 w ↦ inr w.if-self-2.true ]))

pub returns-in-Ok-clause-ok : goal.returns-in-Ok-clause-ok
returns-in-Ok-clause-ok g c =
    rw (← c.self.view_is) (Refills-read c.read.new.into c.in-Ok.count _ _ _
    (slice_range-empty c.self.inside.block c.self.inside.at c.self.inside.«end» c.if-self.false)
    c.if-self-2.false c.in-Ok.ensures.bound (c.in-Ok.ensures.«end» (omega arith)) c.in-Ok.ensures.bytes)

pub invariant_of-self : goal.invariant_of-self
invariant_of-self g c =
    let lines = c.lines_len-self-inside.ensures in
    let within = c.in-Ok.ensures.bound in (
      omega arith,
      omega (arith, within),
      omega arith,
      λ e. sym (eqb-true c.in-Ok.count 0 e),
      omega (arith, lines.within, length-take c.in-Ok.count c.read.new.into),
      EndsLines-read c.read.new.into c.in-Ok.count c.lines_len-self-inside.result within lines.last,
      λ e. sym c.all_plain-self-inside.ensures ∙ e,
      omega arith,
      omega arith,
    )

pub invariant_of-self-in-Err : goal.invariant_of-self-in-Err
invariant_of-self-in-Err g c = (
  c.self.invariant.0,
  c.self.invariant.1,
  c.self.invariant.2,
  c.self.invariant.3,
  c.self.invariant.4,
  EndsLines-none c.read.new.into c.self.inside.at c.self.inside.«end» c.self.inside.lines_end c.if-self.false c.self.invariant.4,
  λ e. absurd (false≢true e),
  c.self.invariant.7,
  c.self.invariant.8,
)
