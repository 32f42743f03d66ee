-- What is kept of an end's leg of a call, and what an item of that leg makes of it. This project's profile. Cited by
-- what is told of a line of a trace in a report.
use Rattle.std.specs.Prelude.{ℕ, ◌&&◌, Bool, true, false, not, ◌||◌, Option, Some, None, if◌then◌else◌}
use Rattle.std.specs.Bool.{beq}
use Rattle.std.specs.Option.{unwrap_or}
use Rattle.link_frames.specs.declared.note.Note.{Note}
use Rattle.link_frames.specs.declared.note.Note.TheVariants as note
use Rattle.link_frames.specs.declared.note.Why.{Why}
use Rattle.view_reports.specs.declared.side.Side.{Side}

-- a leg of which nothing was heard
abbrev pub no_side : Side
no_side = record { is_up = false; talks = false; since = 0; line = 0; came = None; went = None; why = None }

-- whether it is up, and its voice isn't open both ways
abbrev pub is_muted : Side → Bool
is_muted side = side.is_up && not side.talks

-- what comes first is kept
abbrev pub first_of : {A : Type 0} → Option A → (now : A) → Option A
first_of before now = Some (unwrap_or before now)

-- a leg that comes up is muted at first; one that is up stays as it is
abbrev pub raised : Side → (line now : ℕ) → Side
raised side line now =
    if side.is_up then side
    else record {
      is_up = true;
      talks = false;
      since = now;
      line = line;
      came = first_of side.came now;
      went = side.went;
      why = side.why;
    }

abbrev pub lowered : Side → (now : ℕ) → Why → Side
lowered side now why = record {
  is_up = false;
  talks = side.talks;
  since = side.since;
  line = side.line;
  came = side.came;
  went = first_of side.went now;
  why = first_of side.why why;
}

-- a voice that stays as it was goes on, and a leg that isn't up has none
abbrev pub turned : Side → (line now : ℕ) → (talks : Bool) → Side
turned side line now talks =
    if not side.is_up || beq side.talks talks then side
    else record {
      is_up = true;
      talks = talks;
      since = now;
      line = line;
      came = side.came;
      went = side.went;
      why = side.why;
    }

-- what an item of its leg makes of it
abbrev pub side_behind : Side → Note → (line now : ℕ) → Side
side_behind side (note.Up e c) line now = raised side line now
side_behind side (note.Down e c why) line now = lowered side now why
side_behind side (note.Voice e c up down) line now = turned side line now (up && down)
side_behind side _ line now = side
