-- What one more entry does to a table. This project's profile. Scaffolding: cited by the contracts of private functions
-- alone.
use Rattle.std.specs.Prelude.{ℕ, ◌==◌, Bool, List, [], ◌∷◌, ◌++◌, map, Option, Some, None, if◌then◌else◌}
use Rattle.std.specs.List.{list_any}
use Rattle.std.specs.Option.{option_or}
use Rattle.trace_model.specs.declared.entry.Entry.{Entry}
use Rattle.call_register.specs.Rows.{Row, Rows}
use Rattle.call_register.specs.Table.{call_up, ending_in, row_of, set_in}
use Rattle.call_register.specs.declared.record.Ending.{Ending}
use Rattle.call_register.specs.declared.record.ShownSet.{ShownSet}

-- the row with one more set
abbrev pub with_set : ShownSet → Row → Row
with_set set row = record { from = row.from; sets = row.sets ++ set ∷ []; ending = row.ending }

-- the row with this end, unless it has one
abbrev pub with_ending : Ending → Row → Row
with_ending ending row = record { from = row.from; sets = row.sets; ending = option_or row.ending (Some ending) }

-- the row of a call changes so
abbrev pub at_call : ℕ → (Row → Row) → Rows → Rows
at_call call change rows = map (λ row. (row.0, if call == row.0 then change row.1 else row.1)) rows

-- whether there is a row of this call
abbrev pub has_call : ℕ → Rows → Bool
has_call call rows = list_any (λ row. call == row.0) rows

-- the rows where a call comes up at a tick: it is the last one, if there is none of it
abbrev pub with_call : (call tick : ℕ) → Rows → Rows
with_call call tick rows = if has_call call rows then rows else rows ++ (call, row_of call tick []) ∷ []

-- what an optional item adds to a list
abbrev pub listed : {A : Type 0} → Option A → List A
listed None = []
listed (Some x) = x ∷ []

-- what one more entry does to the row of a call
abbrev pub row_behind : Entry → ℕ × Row → ℕ × Row
row_behind x row = (
  row.0,
  record {
    from = row.1.from;
    sets = row.1.sets ++ listed (set_in row.0 x.tick x.note);
    ending = option_or row.1.ending (ending_in row.0 x.tick x.note);
  },
)

abbrev pub arrived : Option ℕ → (tick : ℕ) → Rows → Rows
arrived None tick rows = rows
arrived (Some call) tick rows = with_call call tick rows

-- the rows behind one more entry
abbrev pub heard : Rows → Entry → Rows
heard rows x = arrived (call_up x.note) x.tick (map (row_behind x) rows)
