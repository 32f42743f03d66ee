use Rattle.std.proofs.Common.{◌≡◌, true, length, ◌-◌}
use Rattle.std.specs.List.{list_all, list_any}
use Rattle.line_input.specs.Characters.{is_newline}
use Rattle.line_input.specs.Lines.{is_printable}
use Rattle.line_input.proofs.GatherLemmas.{Gathering}
use Rattle.line_input.proofs.gather.gather.Given as goal

-- These bytes of the line were gathered, and where they are plain, each may stand in it; and while a newline is at hand,
-- and where the source ended, it isn't read.
abbrev pub invariant-loop-byte : goal.invariant-loop-byte
invariant-loop-byte g l =
    Gathering l.initial.block.feed l.block.feed (g.I.Source.left l.initial.source) (g.I.Source.left l.source) l.text.items
    × (g.I.Source.faults l.source ≡ g.I.Source.faults l.initial.source)
    × (list_any is_newline l.initial.block.feed.pending ≡ true → (list_any is_newline l.block.feed.pending ≡ true) × (l.source ≡ l.initial.source))
    × (l.initial.block.feed.ended ≡ true → (l.block.feed.ended ≡ true) × (l.source ≡ l.initial.source))
    × (l.plain ≡ true → list_all is_printable l.text.items ≡ true)

abbrev pub decreases-loop-byte : goal.decreases-loop-byte
decreases-loop-byte g l = 512 - length l.text.items
