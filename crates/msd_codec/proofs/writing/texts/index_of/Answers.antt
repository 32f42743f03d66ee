use Rattle.std.proofs.Common.{arith, ◌∙◌, ap}
use Rattle.std.specs.Prelude.{slice_index}
use Rattle.msd_codec.proofs.TextNumbers.{indices, indexed}
use Rattle.msd_codec.proofs.writing.texts.index_of.Goals as goal

pub overflow_sub-character : goal.overflow_sub-character
overflow_sub-character c = (indexed _ c.requires).low

pub bounds-from : goal.bounds-from
bounds-from c = omega (arith, (indexed _ c.requires).high, c.from.ensures)

pub returns-clause-value : goal.returns-clause-value
unfolding indices
returns-clause-value c = ap (λ n. slice_index indices n) c.from.ensures ∙ (indexed _ c.requires).index

pub returns-clause-below : goal.returns-clause-below
unfolding indices
returns-clause-below c =
    let known = indexed _ c.requires in
    omega (arith, ap (λ n. slice_index indices n) c.from.ensures, known.index, known.small)
