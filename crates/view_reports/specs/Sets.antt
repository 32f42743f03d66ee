-- What is kept of a set of data of a call, and of all of a trace, in the order in which they were first sent, shown or
-- acknowledged. This project's profile. Cited by what is told of a line of a trace in a report.
use Rattle.std.specs.Prelude.{ℕ, nat_eq, ◌==◌, ◌&&◌, Bool, List, Option, Some, None}
use Rattle.std.specs.Cmp.Lexicographic.{pointwise}
use Rattle.std.specs.Map.{lookup}
use Rattle.std.specs.Option.{unwrap_or}
use Rattle.indexmap.specs.IndexMap.{insert_entry}
use Rattle.link_frames.specs.declared.frame.Frame.{Frame}
use Rattle.link_frames.specs.declared.frame.Frame.TheVariants as frame
use Rattle.link_frames.specs.declared.note.Note.{Note}
use Rattle.link_frames.specs.declared.note.Note.TheVariants as note
use Rattle.view_reports.specs.Sides.{first_of}
use Rattle.view_reports.specs.declared.handled.Handled.{Handled}
use Rattle.view_reports.specs.declared.handled.SetOf.{SetOf}
use Rattle.view_reports.specs.declared.times.Step.{Step}
use Rattle.view_reports.specs.declared.times.Step.TheVariants as step
use Rattle.view_reports.specs.declared.times.Times.{Times}

-- a set of which nothing was heard
abbrev pub no_times : Times
no_times = record { sent = None; shown = None; acked = None }

-- the times behind a step: the first of each kind is kept
abbrev pub times_behind : Times → Step → (now : ℕ) → Times
times_behind t step.Sent now = record { sent = first_of t.sent now; shown = t.shown; acked = t.acked }
times_behind t step.Shown now = record { sent = t.sent; shown = first_of t.shown now; acked = t.acked }
times_behind t step.Acked now = record { sent = t.sent; shown = t.shown; acked = first_of t.acked now }

-- whether the two are the same set for the same request of the same call
abbrev pub same_set : SetOf → SetOf → Bool
same_set a b = (a.call == b.call) && ((a.request == b.request) && pointwise nat_eq a.octets b.octets)

-- a set of a call, and what is done with it
abbrev pub handling : ℕ → ℕ → List ℕ → Step → Handled
handling call request octets s =
    record { set = record { call = call; request = request; octets = octets }; step = s }

-- the set that a frame carries
abbrev pub carried : ℕ → Frame → Option Handled
carried call (frame.Content request attempt octets) = Some (handling call request octets step.Sent)
carried call _ = None

-- the set that an item sends, shows or acknowledges
abbrev pub handled_by : Note → Option Handled
handled_by (note.Send e call frame) = carried call frame
handled_by (note.Shown call request octets) = Some (handling call request octets step.Shown)
handled_by (note.Acked call request octets) = Some (handling call request octets step.Acked)
handled_by _ = None

-- what is kept of each set
abbrev pub SetRows : Type 0
SetRows = List (SetOf × Times)

abbrev pub times_in : SetRows → SetOf → Times
times_in sets s = unwrap_or (lookup (same_set s) sets) no_times

-- the sets where this is done with one
abbrev pub sets_with : Option Handled → SetRows → (now : ℕ) → SetRows
sets_with None sets now = sets
sets_with (Some h) sets now = insert_entry same_set sets h.set (times_behind (times_in sets h.set) h.step now)

-- the sets behind an item
abbrev pub sets_behind : SetRows → Note → (now : ℕ) → SetRows
sets_behind sets n now = sets_with (handled_by n) sets now
