-- When a report has heard lines. This project's profile. Cited by what tells the lines of a trace.
use Rattle.std.specs.Prelude.{◌≡◌, ℕ, List}
use Rattle.view_reports.specs.Told.{watch_of}
use Rattle.view_reports.specs.declared.report.Report.{Report}
use Rattle.view_traces.specs.Told.{tick_behind}

-- A report has heard these lines: it keeps what is kept behind them, and the tick of their last entry.
pub record HasHeard (report : Report) (lines : List (List ℕ)) : Type 0 where
  pub watch : report.watch ≡ watch_of lines
  pub tick : report.tick ≡ tick_behind 0 lines
