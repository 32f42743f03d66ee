-- Code does what a table says: for each state that the code's old value stands for, the items are those of its row, and
-- the new value stands for the row's state. This project's profile. The contracts of `hear` and `pass` of both ends are
-- made of it.
use Rattle.std.specs.Prelude.{◌≡◌, List}
use Rattle.link_frames.specs.declared.note.Note.{Note}
use Rattle.link_frames.specs.Row.{Row}

pub record Does
    {Code State : Type 0}
    (Before After : Code → State → Type 0)
    (old new : Code)
    (items : List Note)
    (row : State → Row State) : Type 0 where
  pub gives : (s : State) → Before old s → items ≡ (row s).items
  pub stands : (s : State) → Before old s → After new (row s).new
