-- What a command tells of an input: by its word. This project's profile. Cited by the contract of `tell_input`.
use Rattle.std.specs.Prelude.{ℕ, List, Option}
use Rattle.view_lines.specs.Outcome.{Outcome}
use Rattle.view_lines.specs.declared.answer.Answer.{Answer}
use Rattle.view_reports.specs.Told as reports
use Rattle.view_sets.specs.Told as sets
use Rattle.view_traces.specs.Told as traces
use Rattle.view_commands.specs.declared.subject.Subject.{Subject}
use Rattle.view_commands.specs.declared.subject.Subject.TheVariants as subject

abbrev pub OutcomeOf : Subject → (left left' held held' : Option (List ℕ)) → Answer → Type 0
OutcomeOf subject.Sets left left' held held' a = Outcome sets.IsSetTold sets.IsEndTold left left' held held' a
OutcomeOf subject.Traces left left' held held' a =
    Outcome traces.IsLineTold traces.IsEndTold left left' held held' a
OutcomeOf (subject.Reports m) left left' held held' a =
    Outcome (reports.IsReported m) (reports.IsEndReported m) left left' held held' a
