use Rattle.std.proofs.Common.{◌≡◌, ℕ, ◌+◌, ◌-◌, ◌<◌, ◌≤◌}
use Rattle.std.specs.Prelude.{IfSome, slice_get}
use Rattle.line_input.specs.Characters.{newline}
use Rattle.line_help.specs.Lines.{IsKept}
use Rattle.line_help.specs.Parts.{parts}
use Rattle.line_help.proofs.seen.Seen.before.Given as goal

abbrev pub invariant-loop-rest : goal.invariant-loop-rest
invariant-loop-rest l = (l.self.ended ≤ l.here)
    × ((j : ℕ) → slice_get (parts newline l.rest) j ≡ slice_get (parts newline l.self.text.now) (l.here - l.self.ended + j))
    × IfSome l.found (λ line. (line.number < l.number) × IsKept l.self.ended l.self.text.now line.number line.text.now)

abbrev pub decreases-loop-rest : goal.decreases-loop-rest
decreases-loop-rest l = l.number - l.here
