-- The table of a trace: each call that came up at the point, in the order in which the calls first did, with what the
-- trace says of it behind its first `up point` item. This project's profile. Cited by the register.
use Rattle.std.specs.Prelude.{ℕ, ◌==◌, not, List, [], ◌∷◌, filter, Option, Some, None, if◌then◌else◌}
use Rattle.std.specs.List.{filter_map, slice_get}
use Rattle.link_frames.specs.declared.frame.End.TheVariants as «end»
use Rattle.link_frames.specs.declared.note.Note.{Note}
use Rattle.link_frames.specs.declared.note.Note.TheVariants as note
use Rattle.trace_model.specs.declared.entry.Entry.{Entry}
use Rattle.call_register.specs.Rows.{Row, Rows}
use Rattle.call_register.specs.declared.record.Ending.{Ending}
use Rattle.call_register.specs.declared.record.ShownSet.{ShownSet}

-- the call that comes up at the point by this item
abbrev pub call_up : Note → Option ℕ
call_up (note.Up «end».Point call) = Some call
call_up _ = None

-- the set that an item shows at a tick in this call
abbrev pub set_in : (call tick : ℕ) → Note → Option ShownSet
set_in call tick (note.Shown c request octets) =
    if c == call then Some (record { tick = tick; request = request; octets = octets }) else None
set_in call tick _ = None

-- the end of the point's leg of this call that an item tells at a tick
abbrev pub ending_in : (call tick : ℕ) → Note → Option Ending
ending_in call tick (note.Down «end».Point c why) =
    if c == call then Some (record { tick = tick; why = why }) else None
ending_in call tick _ = None

-- the sets that the point showed in this call by these entries
abbrev pub sets_of : ℕ → List Entry → List ShownSet
sets_of call entries = filter_map (λ x. set_in call x.tick x.note) entries

-- each end of the point's leg of this call by these entries
abbrev pub endings_of : ℕ → List Entry → List Ending
endings_of call entries = filter_map (λ x. ending_in call x.tick x.note) entries

-- what is told of a call that came up at a tick, in front of these entries: the end is the first one
abbrev pub row_of : (call from : ℕ) → List Entry → Row
row_of call from behind =
    record { from = from; sets = sets_of call behind; ending = slice_get (endings_of call behind) 0 }

-- the rows of the other calls
abbrev pub others : ℕ → Rows → Rows
others call rows = filter (λ row. not (row.0 == call)) rows

-- The rows where an item, at a tick, stands in front of entries whose rows are given: a call that comes up is the first
-- one, and its later `up point` items add nothing.
abbrev pub rows_with : Option ℕ → (tick : ℕ) → List Entry → Rows → Rows
rows_with None tick behind rows = rows
rows_with (Some call) tick behind rows = (call, row_of call tick behind) ∷ others call rows

-- the table of a trace
unfoldable pub table : List Entry → Rows
table [] = []
table (x ∷ xs) = rows_with (call_up x.note) x.tick xs (table xs)
