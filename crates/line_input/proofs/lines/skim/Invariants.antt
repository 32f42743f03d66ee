use Rattle.std.proofs.Common.{◌≡◌, true, ◌-◌}
use Rattle.line_input.specs.inner.Kinds.{reading}
use Rattle.line_input.specs.Reading.{begins_with_line}
use Rattle.line_input.proofs.SkimLemmas.{Skimmed}
use Rattle.line_input.proofs.lines.skim.Given as goal

-- Lines that are passed over were read; none was where a line that isn't was at hand. Where the source ended, it isn't
-- read.
abbrev pub invariant-loop-kind : goal.invariant-loop-kind
invariant-loop-kind g l =
    Skimmed (reading l.initial.reader.feed l.initial.number l.initial.reader.line) (reading l.reader.feed l.number l.reader.line) (g.I.Source.left l.initial.source) (g.I.Source.left l.source)
    × (g.I.Source.faults l.source ≡ g.I.Source.faults l.initial.source)
    × (begins_with_line l.initial.reader.feed.pending ≡ true → (l.reader.feed ≡ l.initial.reader.feed) × (l.source ≡ l.initial.source))
    × (l.initial.reader.feed.ended ≡ true → (l.reader.feed.ended ≡ true) × (l.source ≡ l.initial.source))

abbrev pub decreases-loop-kind : goal.decreases-loop-kind
decreases-loop-kind g l = 16777216 - l.reader.feed.given
