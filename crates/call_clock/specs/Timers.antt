-- Timers by rank, seen as how long each lasts and for how many ticks it has run. That the lowest rank comes first where
-- several are at their end is this project's profile, as is the number of ranks. Cited by the contracts of `Timers`.
use Rattle.std.specs.Prelude.{ℕ, Bool, false, List, [], ◌∷◌, Option, Some, None, ◌≡◌, ◌≤◌, ◌+◌, ◌-◌, nat_le, min, map, replicate, length, option_map, unwrap_or, is_some, slice_get, slice_set, IfSome}
use Rattle.std.specs.List.{AllByRecursion, position_from}

-- A timer that runs: after how many ticks it is at its end, and how many it has run for.
pub record Running : Type 0 where
  pub lasts : ℕ
  pub elapsed : ℕ

-- what stands at a rank: a timer that runs, or none
abbrev pub Place : Type 0
Place = Option Running

abbrev pub none_running : List Place
none_running = replicate 8 None

-- a timer that starts now
abbrev pub started : (lasts : ℕ) → Place
started lasts = Some (record { lasts = lasts; elapsed = 0 })

abbrev pub runs_at : List Place → (rank : ℕ) → Bool
runs_at places rank = unwrap_or (option_map is_some (slice_get places rank)) false

-- a place n ticks later
abbrev pub aged : ℕ → Place → Place
aged n None = None
aged n (Some timer) = Some (record timer { elapsed = timer.elapsed + n })

-- all places n ticks later
abbrev pub all_aged : ℕ → List Place → List Place
all_aged n places = map (aged n) places

abbrev pub is_at_end : Place → Bool
is_at_end None = false
is_at_end (Some timer) = nat_le timer.lasts timer.elapsed

-- the lowest rank whose timer is at its end
abbrev pub first_at_end : List Place → Option ℕ
first_at_end places = position_from is_at_end 0 places

-- the places once the timer of this rank was stopped
abbrev pub without : Option ℕ → List Place → List Place
without None places = places
without (Some rank) places = slice_set places rank None

-- the ticks that a timer has left
abbrev pub left_at : Place → Option ℕ
left_at None = None
left_at (Some timer) = Some (timer.lasts - timer.elapsed)

-- the lesser of two numbers of ticks, of which either may be missing
abbrev pub sooner : Option ℕ → Option ℕ → Option ℕ
sooner None b = b
sooner (Some a) None = Some a
sooner (Some a) (Some b) = Some (min a b)

-- the least number of ticks that a timer has left; None where none runs
abbrev pub due_of : List Place → Option ℕ
due_of [] = None
due_of (place ∷ places) = sooner (left_at place) (due_of places)

-- What `Timers` keeps: eight ranks, and no timer that ran for longer than it lasts.
pub record AreTimers (places : List Place) : Type 0 where
  pub eight : length places ≡ 8
  pub within : AllByRecursion (λ place. IfSome place (λ timer. timer.elapsed ≤ timer.lasts)) places
