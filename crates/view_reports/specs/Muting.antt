-- The stretches of muting of an end whose bound hasn't passed, in the order in which they began, and the breaks of
-- those whose bound passes. This project's profile. Cited by what is told of a line of a trace in a report.
use Rattle.std.specs.Prelude.{ℕ, ◌-◌, ◌==◌, ◌&&◌, nat_lt, Bool, List, [], ◌∷◌, ◌++◌, Option, Some, None, if◌then◌else◌}
use Rattle.link_frames.specs.Legs.{muting_limit}
use Rattle.link_frames.specs.declared.frame.End.{End}
use Rattle.link_frames.specs.declared.note.Note.{Note}
use Rattle.trace_model.specs.Safety.{same_end}
use Rattle.trace_model.specs.declared.moved.LegOf.{LegOf}
use Rattle.view_reports.specs.Calls.{CallRows, moved_leg, side_in}
use Rattle.view_reports.specs.Sides.{is_muted}
use Rattle.view_reports.specs.declared.breaks.Break.{Break}
use Rattle.view_reports.specs.declared.breaks.Break.TheVariants as broken
use Rattle.view_reports.specs.declared.side.Side.{Side}
use Rattle.view_reports.specs.declared.stretch.Stretch.{Stretch}

abbrev pub listed : {A : Type 0} → Option A → List A
listed None = []
listed (Some x) = x ∷ []

-- whether more ticks than this limit have passed since a stretch began
abbrev pub is_over : (limit now : ℕ) → Stretch → Bool
is_over limit now s = nat_lt limit (now - s.since)

-- the stretches at the front whose bound has passed
abbrev pub over_in : (limit now : ℕ) → List Stretch → List Stretch
over_in limit now [] = []
over_in limit now (s ∷ ss) = if is_over limit now s then s ∷ over_in limit now ss else []

-- those that are left
abbrev pub left_in : (limit now : ℕ) → List Stretch → List Stretch
left_in limit now [] = []
left_in limit now (s ∷ ss) = if is_over limit now s then left_in limit now ss else s ∷ ss

-- The break of a stretch whose bound has passed: the voice is still muted since the line in which the stretch began.
abbrev pub long_of : Side → End → Stretch → (now : ℕ) → Option Break
long_of side e s now =
    if is_muted side && (side.line == s.line) then Some (broken.Long e s.call (now - s.since)) else None

-- the breaks of these stretches
abbrev pub longs_of : CallRows → End → (now : ℕ) → List Stretch → List Break
longs_of calls e now [] = []
longs_of calls e now (s ∷ ss) = listed (long_of (side_in calls e s.call) e s now) ++ longs_of calls e now ss

-- the breaks of the stretches of an end whose bound passes at a tick
abbrev pub long_breaks : CallRows → End → (now : ℕ) → List Stretch → List Break
long_breaks calls e now stretches = longs_of calls e now (over_in (muting_limit e) now stretches)

-- the stretch of muting that begins where this leg is moved in this line, by the calls behind it
abbrev pub begun_by : Option LegOf → End → CallRows → (line now : ℕ) → List Stretch
begun_by None e calls line now = []
begun_by (Some leg) e calls line now =
    if same_end e leg.of && (is_muted (side_in calls e leg.call) && ((side_in calls e leg.call).line == line))
    then record { call = leg.call; line = line; since = now } ∷ [] else []

-- the stretch of an end that begins with an item in this line
abbrev pub begun : End → Note → CallRows → (line now : ℕ) → List Stretch
begun e n calls line now = begun_by (moved_leg n) e calls line now
