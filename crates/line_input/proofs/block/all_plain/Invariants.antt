use Rattle.std.proofs.Common.{◌≡◌, take}
use Rattle.std.specs.List.{list_all}
use Rattle.line_input.specs.inner.Judged.{is_plain}
use Rattle.line_input.proofs.block.all_plain.Given as goal

-- so far all are plain
abbrev pub invariant-loop-byte : goal.invariant-loop-byte
invariant-loop-byte l = l.all ≡ list_all is_plain (take l.byte-index l.bytes)
