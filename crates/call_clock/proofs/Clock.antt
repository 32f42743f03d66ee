-- How places seen by their deadlines change: by a timer that starts, and by ticks that pass.
use Rattle.std.proofs.Common.{◌≡◌, ◌≤◌, ◌<◌, ℕ, List, [], ◌∷◌, Option, Some, None, ◌+◌, ◌%◌, ◌^◌, refl, ap, arith, IfSome, length}
use Rattle.std.specs.List.{AllByRecursion}
use Rattle.call_clock.specs.declared.timers.Timer.{Timer}
use Rattle.call_clock.specs.Timers.{Place, started, aged, all_aged, left_at}
use Rattle.call_clock.specs.Clock.{ticks_until, seen, all_seen, IsAhead, AreAhead}

until_started : (now length : ℕ) → now < 2 ^ 32 → length < 2 ^ 32 → ticks_until now ((now + length) % 2 ^ 32) ≡ length
until_started now length n l = omega arith

-- as long as the deadline isn't passed, the clock may go round
until_later : (now n deadline : ℕ) → now < 2 ^ 32 → n < 2 ^ 32 → deadline < 2 ^ 32 → n ≤ ticks_until now deadline
    → ticks_until ((now + n) % 2 ^ 32) deadline + n ≡ ticks_until now deadline
until_later now n deadline a b c d = omega arith

-- a timer that lasts so long and ran for so many ticks
abbrev ran : (lasts elapsed : ℕ) → Place
ran lasts elapsed = Some (record { lasts = lasts; elapsed = elapsed })

pub seen_started : (now length : ℕ) → now < 2 ^ 32 → length < 2 ^ 32
    → seen now (Some (record { length = length; deadline = (now + length) % 2 ^ 32 })) ≡ started length
seen_started now length n l = ap (ran length) (omega (arith, until_started now length n l))

-- that a place has at least n ticks left, if a timer runs there
abbrev pub Leaves : ℕ → Place → Type 0
Leaves n place = IfSome (left_at place) (λ left. n ≤ left)

seen_later : (now n : ℕ) (place : Option Timer) → now < 2 ^ 32 → n < 2 ^ 32 → IfSome place (IsAhead now) → Leaves n (seen now place)
    → seen ((now + n) % 2 ^ 32) place ≡ aged n (seen now place)
seen_later now n None a b ahead leaves = refl
seen_later now n (Some timer) a b ahead leaves =
    ap (ran timer.length) (omega (arith, until_later now n timer.deadline a b ahead.fits (omega (arith, ahead.within))))

ahead_later : (now n : ℕ) (place : Option Timer) → now < 2 ^ 32 → n < 2 ^ 32 → IfSome place (IsAhead now) → Leaves n (seen now place)
    → IfSome place (IsAhead ((now + n) % 2 ^ 32))
ahead_later now n None a b ahead leaves = _
ahead_later now n (Some timer) a b ahead leaves =
    record { fits = ahead.fits; within = omega (arith, until_later now n timer.deadline a b ahead.fits (omega (arith, ahead.within))) }

-- n ticks later, where no timer has fewer left
pub all_seen_later : (now n : ℕ) (places : List (Option Timer)) → now < 2 ^ 32 → n < 2 ^ 32 → AreAhead now places
    → AllByRecursion (Leaves n) (all_seen now places) → all_seen ((now + n) % 2 ^ 32) places ≡ all_aged n (all_seen now places)
all_seen_later now n [] a b ahead leaves = refl
all_seen_later now n (place ∷ places) a b ahead leaves =
    rw (seen_later now n place a b ahead.0 leaves.0, all_seen_later now n places a b ahead.1 leaves.1)

pub are_ahead_later : (now n : ℕ) (places : List (Option Timer)) → now < 2 ^ 32 → n < 2 ^ 32 → AreAhead now places
    → AllByRecursion (Leaves n) (all_seen now places) → AreAhead ((now + n) % 2 ^ 32) places
are_ahead_later now n [] a b ahead leaves = tt
are_ahead_later now n (place ∷ places) a b ahead leaves =
    (ahead_later now n place a b ahead.0 leaves.0, are_ahead_later now n places a b ahead.1 leaves.1)

-- no timer ran for longer than it lasts
pub within_all : (now : ℕ) (places : List (Option Timer))
    → AllByRecursion (λ place. IfSome place (λ timer. timer.elapsed ≤ timer.lasts)) (all_seen now places)
within_all now [] = tt
within_all now (None ∷ places) = (_, within_all now places)
within_all now (Some timer ∷ places) = (omega arith, within_all now places)
