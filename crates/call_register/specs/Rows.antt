-- What a register tells of one call. This project's profile. Cited by the model of a register, and by its table.
use Rattle.std.specs.Prelude.{ℕ, List, Option}
use Rattle.call_register.specs.declared.record.Ending.{Ending}
use Rattle.call_register.specs.declared.record.ShownSet.{ShownSet}

-- What a register tells of a call: from which tick on the point had it, the sets that the point showed in it, in order,
-- and when and why the point's leg went down, if it did.
pub record Row : Type 0 where
  pub from : ℕ
  pub sets : List ShownSet
  pub ending : Option Ending

-- a table: what is told of each call, behind the call's number
abbrev pub Rows : Type 0
Rows = List (ℕ × Row)
