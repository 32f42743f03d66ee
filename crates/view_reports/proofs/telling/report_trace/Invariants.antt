use Rattle.view_reports.proofs.telling.report_trace.Given as goal

abbrev pub ghosts-report_lines : goal.ghosts-report_lines
ghosts-report_lines g a = record { manner = a.manner }
