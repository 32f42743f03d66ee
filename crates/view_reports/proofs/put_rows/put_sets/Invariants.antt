use Rattle.std.proofs.Common.{◌≡◌, ◌++◌}
use Rattle.view_reports.specs.Told.{sets_text}
use Rattle.view_reports.proofs.put_rows.put_sets.Given as goal

abbrev pub invariant-loop-set : goal.invariant-loop-set
invariant-loop-set l =
    l.text.items ++ sets_text l.layout l.set-iterator ≡ l.initial.text.items ++ sets_text l.layout l.rows.entries
