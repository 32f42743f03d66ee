use Rattle.std.proofs.Common.{◌≡◌, take}
use Rattle.std.specs.List.{list_all}
use Rattle.trace_text.specs.EntryLines.{is_lower_digit}
use Rattle.trace_text.proofs.hexadecimal.is_lower.Given as goal

-- so far all are such digits
abbrev pub invariant-loop-byte : goal.invariant-loop-byte
invariant-loop-byte l = l.all ≡ list_all is_lower_digit (take l.byte-index l.text)
