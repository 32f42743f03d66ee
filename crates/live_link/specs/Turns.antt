-- What an end of a live link does, turn by turn: at each turn it hears one thing, or passes one tick, by a row of its
-- table. This project's profile. Cited by the runs of both ends and by the law of joint traces.
use Rattle.std.specs.Prelude.{ℕ, List, [], ◌∷◌, ◌++◌, Option}
use Rattle.link_frames.specs.declared.frame.Frame.{Frame}
use Rattle.link_frames.specs.declared.note.Note.{Note}
use Rattle.trace_model.specs.declared.entry.Entry.{Entry}
use Rattle.trace_model.specs.History.{told}

-- A frame of a call.
pub record Carried : Type 0 where
  pub call : ℕ
  pub frame : Frame

-- One turn: at which tick, the frame that was heard in it, if one was, and the items that the row gave.
pub record Turn : Type 0 where
  pub tick : ℕ
  pub came : Option Carried
  pub items : List Note

-- the entries of these turns
abbrev pub entries_of : List Turn → List Entry
entries_of [] = []
entries_of (t ∷ ts) = told t.tick t.items ++ entries_of ts
