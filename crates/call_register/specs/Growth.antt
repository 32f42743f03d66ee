-- What it means that a register grew by some entries. This project's profile. Cited by the register as a listener.
use Rattle.std.specs.Prelude.{◌≡◌, List, ◌++◌}
use Rattle.trace_model.specs.declared.entry.Entry.{Entry}
use Rattle.call_register.specs.Rows.{Rows}
use Rattle.call_register.specs.Table.{table}

-- Of whatever trace a register held the table before, it holds the table of that trace followed by these entries.
abbrev pub RegisterGrew : (old new : Rows) → List Entry → Type 0
RegisterGrew old new entries = (before : List Entry) → old ≡ table before → new ≡ table (before ++ entries)
