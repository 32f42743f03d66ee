use Rattle.per_types.proofs.Sectionwise.{GoesOn}
use Rattle.per_types.proofs.readers.sections.opens.Given as goal

abbrev pub invariant-loop-i : goal.invariant-loop-i
invariant-loop-i l = GoesOn l.present.bits l.initial.c l.i l.c
