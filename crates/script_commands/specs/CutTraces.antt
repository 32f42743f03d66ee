-- What stands written of a trace wherever writing ended: whole lines, which are those of a safe trace, or of such a
-- trace and the line that refuses a line of its script, and behind them less than one line. This project's profile.
-- Cited by the contract of `ecall`.
use Rattle.std.specs.Prelude.{◌≡◌, ℕ, ◌<◌, ◌⊎◌, List, [], ◌++◌, length}
use Rattle.trace_text.specs.EntryLine.{line_of, text_of}
use Rattle.trace_model.specs.Safety.{Safe}
use Rattle.trace_model.specs.Tallies.{last_tick}
use Rattle.trace_model.specs.declared.entry.Entry.{Entry}
use Rattle.line_input.specs.declared.reason.BadLine.{BadLine}
use Rattle.command_base.specs.Refusals.{refusal_line}
use Rattle.command_base.specs.declared.refusal.Refused.TheVariants as refused

-- these are the lines of a trace that is safe up to its last entry's tick
pub record AreSafeLines (lines : List ℕ) : Type 0 where
  pub entries : List Entry
  pub safe : Safe entries (last_tick entries)
  pub says : lines ≡ text_of entries

-- these are the lines of a safe trace, and the line that refuses a line of its script
pub record AreRefusedLines (lines : List ℕ) : Type 0 where
  pub traced : List ℕ
  pub bad : BadLine
  pub safe : AreSafeLines traced
  pub says : lines ≡ traced ++ refusal_line (refused.Line bad)

-- the line of an entry, or the line that refuses a line of the script
abbrev pub IsRunLine : List ℕ → Type 0
IsRunLine line = ((x : Entry) × (line ≡ line_of x)) ⊎ ((bad : BadLine) × (line ≡ refusal_line (refused.Line bad)))

-- the front of such a line that lacks its end
pub record IsPartOfLine (bytes : List ℕ) : Type 0 where
  pub rest : List ℕ
  pub some : 0 < length rest
  pub line : IsRunLine (bytes ++ rest)

-- The whole lines of what was written are those of a safe trace, or of such a trace and a refusal; behind them stands
-- nothing, or less than a line.
pub record IsSafelyCut (written : List ℕ) : Type 0 where
  pub lines : List ℕ
  pub unended : List ℕ
  pub split : written ≡ lines ++ unended
  pub whole : AreSafeLines lines ⊎ AreRefusedLines lines
  pub part : (unended ≡ []) ⊎ IsPartOfLine unended
