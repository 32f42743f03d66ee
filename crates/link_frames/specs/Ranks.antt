-- A unit tick as a list of lines by rank, each with the ticks that it has left: the first line that has none left acts.
-- That of timers at their end together the first in rank acts alone is this project's profile. The tables of both ends
-- are made of it; the contracts of `pass` and `due` of both ends cite them.
use Rattle.std.specs.Prelude.{ℕ, Option, Some, None, List, [], ◌∷◌, ◌++◌, ◌+◌, ◌-◌, ◌%◌, ◌==◌, min, if◌then◌else◌}
use Rattle.link_frames.specs.declared.note.Note.{Note}
use Rattle.link_frames.specs.Row.{Row}

-- A line: the ticks that are left, and what happens then.
pub record Deadline (A : Type 0) : Type 0 where
  pub left : ℕ
  pub row : A

-- the first of these that has no tick left, if any
abbrev pub first_of : {A : Type 0} → (none : A) → List (Deadline A) → A
first_of none [] = none
first_of none (d ∷ ds) = if d.left == 0 then d.row else first_of none ds

-- the ticks that are left of a wait
abbrev pub left : (wait elapsed : ℕ) → ℕ
left wait elapsed = wait - elapsed

-- the ticks that are left to the next multiple of a gap
abbrev pub to_next : (gap elapsed : ℕ) → ℕ
to_next gap elapsed = (gap - elapsed % gap) % gap

-- the least that one of these has left
abbrev pub least_left : {A : Type 0} → ℕ → List (Deadline A) → ℕ
least_left n [] = n
least_left n (d ∷ ds) = min n (least_left d.left ds)

-- The lines stand as one tick from now: after so many ticks one of them acts, and none ever does where there is none.
abbrev pub soonest : {A : Type 0} → List (Deadline A) → Option ℕ
soonest [] = None
soonest (d ∷ ds) = Some (least_left d.left ds + 1)

-- a row behind these items
abbrev pub behind : {State : Type 0} → List Note → Row State → Row State
behind items row = record { items = items ++ row.items; new = row.new }
