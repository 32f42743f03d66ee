use Rattle.std.proofs.Common.{◌≡◌}
use Rattle.std.specs.Prelude.{slice_get}
use Rattle.line_help.specs.Parts.{parts}
use Rattle.line_help.proofs.parts.part_at.Given as goal

abbrev pub invariant-loop-left : goal.invariant-loop-left
invariant-loop-left l = slice_get (parts l.separator l.rest) l.left ≡ slice_get (parts l.separator l.text) l.place

abbrev pub decreases-loop-left : goal.decreases-loop-left
decreases-loop-left l = l.left
