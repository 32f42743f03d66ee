-- The line of an entry of a floor's trace: its tick, the number of its vehicle, or 0 where it is of none, and then its
-- item as in the trace of one vehicle. This project's profile. Cited by the contract of `write_floor_entry`, and
-- by the reply of `ecall floor`.
use Rattle.std.specs.Prelude.{ℕ, List, [], ◌∷◌, ◌++◌, decimal}
use Rattle.line_input.specs.Characters.{newline}
use Rattle.trace_model.specs.declared.entry.Entry.{Entry}
use Rattle.trace_text.specs.EntryLine.{note_words, spaced}

-- the line of an entry of this vehicle, its newline included
abbrev pub vehicle_line : ℕ → Entry → List ℕ
vehicle_line v entry = decimal entry.tick ++ spaced (decimal v ∷ note_words entry.note) ++ newline ∷ []
