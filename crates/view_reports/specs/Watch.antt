-- How the next entry of a trace breaks the rules by which a trace is safe, by what is kept of the entries before it,
-- and what is kept behind it. This project's profile. Cited by what is told of a line of a trace in a report.
use Rattle.std.specs.Prelude.{ℕ, ◌-◌, ◌==◌, ◌&&◌, nat_lt, Bool, false, List, [], ◌++◌, Option, Some, None, if◌then◌else◌}
use Rattle.link_frames.specs.Legs.{is_data_timer, least_opening, muting_limit}
use Rattle.link_frames.specs.declared.frame.End.{End}
use Rattle.link_frames.specs.declared.frame.End.TheVariants as «end»
use Rattle.link_frames.specs.declared.note.Note.{Note}
use Rattle.link_frames.specs.declared.note.Note.TheVariants as note
use Rattle.trace_model.specs.Safety.{same_end}
use Rattle.trace_model.specs.declared.moved.LegOf.{LegOf}
use Rattle.view_reports.specs.Calls.{CallRows, calls_behind, side_in}
use Rattle.view_reports.specs.Muting.{begun, left_in, listed, long_breaks}
use Rattle.view_reports.specs.Sets.{SetRows, sets_behind, times_in}
use Rattle.view_reports.specs.Sides.{is_muted}
use Rattle.view_reports.specs.declared.breaks.Break.{Break}
use Rattle.view_reports.specs.declared.breaks.Break.TheVariants as broken
use Rattle.view_reports.specs.declared.side.Side.{Side}
use Rattle.view_reports.specs.declared.watch.Watch.{Watch}

-- nothing was heard
abbrev pub no_watch : Watch
no_watch = record { calls = []; sets = []; vehicle = []; point = []; owed = None }

-- rule 1: an item acknowledges a set that was not shown
abbrev pub unshown_by : ℕ → (shown : Option ℕ) → Option Break
unshown_by c None = Some (broken.Unshown c)
unshown_by c (Some tick) = None

abbrev pub unshown : SetRows → Note → Option Break
unshown sets (note.Acked c r octets) =
    unshown_by c (times_in sets (record { call = c; request = r; octets = octets })).shown
unshown sets _ = None

-- rule 2: an item isn't the opening of the voice that must open
abbrev pub is_opening : LegOf → Note → Bool
is_opening leg (note.Voice e c up down) = same_end e leg.of && ((c == leg.call) && (up && down))
is_opening leg _ = false

abbrev pub unopened : Option LegOf → CallRows → Note → (now : ℕ) → Option Break
unopened None calls n now = None
unopened (Some leg) calls n now =
    if is_opening leg n then None
    else Some (broken.Unopened leg.of leg.call (now - (side_in calls leg.of leg.call).since))

-- rule 3: a voice is muted within 20 ticks of its opening
abbrev pub soon_of : Side → End → ℕ → (now : ℕ) → Option Break
soon_of side e c now =
    if side.is_up && (side.talks && nat_lt (now - side.since) least_opening)
    then Some (broken.Soon e c (now - side.since))
    else None

abbrev pub soon : CallRows → Note → (now : ℕ) → Option Break
soon calls (note.Voice e c up down) now = if up && down then None else soon_of (side_in calls e c) e c now
soon calls _ now = None

-- all by which an entry at this tick breaks a rule, by the numbers of the rules
abbrev pub breaks_at : Watch → Note → (now : ℕ) → List Break
breaks_at w n now =
    listed (unshown w.sets n)
    ++ (listed (unopened w.owed w.calls n now)
    ++ (listed (soon w.calls n now)
    ++ (long_breaks w.calls «end».Vehicle now w.vehicle ++ long_breaks w.calls «end».Point now w.point)))

-- the opening that is owed of a leg, where it is muted
abbrev pub owed_if : Side → End → ℕ → Option LegOf
owed_if side e c = if is_muted side then Some (record { of = e; call = c }) else None

-- the opening that is owed behind an item: a wait for data ends, or a fault comes
abbrev pub owed_behind : CallRows → Note → Option LegOf
owed_behind calls (note.Ended e c timer) = if is_data_timer timer then owed_if (side_in calls e c) e c else None
owed_behind calls (note.Fault e c) = owed_if (side_in calls e c) e c
owed_behind calls _ = None

-- what is kept where the bound of some stretches has passed at a tick
abbrev pub judged_behind : Watch → (now : ℕ) → Watch
judged_behind w now = record {
  calls = w.calls;
  sets = w.sets;
  vehicle = left_in (muting_limit «end».Vehicle) now w.vehicle;
  point = left_in (muting_limit «end».Point) now w.point;
  owed = w.owed;
}

-- what is kept where an item is taken that stands in this line at this tick
abbrev pub taken_behind : Watch → Note → (line now : ℕ) → Watch
taken_behind w n line now = record {
  calls = calls_behind w.calls n line now;
  sets = sets_behind w.sets n now;
  vehicle = w.vehicle ++ begun «end».Vehicle n (calls_behind w.calls n line now) line now;
  point = w.point ++ begun «end».Point n (calls_behind w.calls n line now) line now;
  owed = owed_behind w.calls n;
}

-- what is kept behind an entry
abbrev pub watch_behind : Watch → Note → (line now : ℕ) → Watch
watch_behind w n line now = taken_behind (judged_behind w now) n line now
