-- What an end does at an event: the items that it gives, in order, and its state afterwards. This project's profile.
-- The tables of both ends are functions to a `Row`; the contracts of `Ivs::hear` and `Session::hear` cite them.
use Rattle.std.specs.Prelude.{List, [], ◌∷◌}
use Rattle.link_frames.specs.declared.note.Note.{Note}
use Rattle.link_frames.specs.declared.note.Note.TheVariants as note

pub record Row (State : Type 0) : Type 0 where
  pub items : List Note
  pub new : State

-- an event that applies to nothing: the item `nothing`, and no change
abbrev pub nothing_row : {State : Type 0} → State → Row State
nothing_row old = record { items = note.Nothing ∷ []; new = old }

-- a frame that no row names: no item, and no change
abbrev pub silent : {State : Type 0} → State → Row State
silent old = record { items = []; new = old }
