use Rattle.std.proofs.Common.{◌≡◌, ◌++◌}
use Rattle.view_reports.specs.Told.{calls_text}
use Rattle.view_reports.proofs.put_rows.put_calls.Given as goal

abbrev pub invariant-loop-number : goal.invariant-loop-number
invariant-loop-number l =
    l.text.items ++ calls_text l.layout l.number-iterator ≡ l.initial.text.items ++ calls_text l.layout l.rows.entries
