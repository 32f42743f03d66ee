use Rattle.std.proofs.Common.{◌≡◌, take}
use Rattle.std.specs.List.{list_all}
use Rattle.line_input.specs.Lines.{is_printable as is_printable_byte}
use Rattle.view_lines.proofs.judge.is_printable.Given as goal

-- so far all may stand
abbrev pub invariant-loop-byte : goal.invariant-loop-byte
invariant-loop-byte l = l.all ≡ list_all is_printable_byte (take l.byte-index l.line)
