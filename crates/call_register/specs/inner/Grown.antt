-- What it means that a register grew by some entries, and the laws of it that a listener owes. Scaffolding: cited by
-- the register.
use Rattle.std.proofs.Common.{List, [], ◌++◌, sym, ap, ◌∙◌, append_assoc}
use Rattle.std.proofs.lemmas.List.{append-nil}
use Rattle.trace_model.specs.declared.entry.Entry.{Entry}
use Rattle.call_register.specs.Rows.{Rows}
use Rattle.call_register.specs.Table.{table}
use Rattle.call_register.specs.Growth.{RegisterGrew}

pub RegisterGrew-nothing : (a : Rows) → RegisterGrew a a []
RegisterGrew-nothing a = λ before held. held ∙ ap table (sym (append-nil before))

pub RegisterGrew-append : (a b c : Rows) (s t : List Entry) → RegisterGrew a b s → RegisterGrew b c t
    → RegisterGrew a c (s ++ t)
RegisterGrew-append a b c s t first second =
    λ before held. second (before ++ s) (first before held) ∙ ap table (append_assoc before s t)
