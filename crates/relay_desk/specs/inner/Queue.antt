-- Which desk requests are pending, by the ticks since each was made, and how that is kept: by the tick in ten at which
-- its message is sent, and how often it was sent again. Cited by the private functions of the desk.
use Rattle.std.specs.Prelude.{◌≡◌, ◌<◌, ◌≤◌, ◌+◌, ◌-◌, ◌*◌, ◌%◌, ◌==◌, ◌⊎◌, ℕ, Bool, false, List, [], ◌∷◌, Option, Some, None, IfSome, length, take, count_by, slice_index, if◌then◌else◌}
use Rattle.std.specs.List.{AllByRecursion}
use Rattle.relay_desk.specs.declared.pending.Wait.{Wait}
use Rattle.relay_desk.specs.declared.turn.Turn.{Turn}
use Rattle.relay_desk.specs.declared.turn.Turn.TheVariants as turn
use Rattle.relay_desk.specs.Desk.{turn_at, give_up_after, resend_after}

-- The ticks of a desk request, where it is pending.

abbrev pub turn_in : ℕ → Option ℕ → Turn
turn_in n None = turn.Waits
turn_in n (Some t) = turn_at (t + n)

-- n ticks later, where no turn lies between
abbrev pub aged : ℕ → Option ℕ → Option ℕ
aged n None = None
aged n (Some t) = Some (t + n)

-- n ticks later, where its turn may be at the last of them
abbrev pub passed : ℕ → Option ℕ → Option ℕ
passed n None = None
passed n (Some t) = if t + n == give_up_after then None else Some (t + n)

-- it has no turn in fewer than n ticks
abbrev pub HasRoom : ℕ → Option ℕ → Type 0
HasRoom n t = IfSome t (λ k. k % resend_after + n ≤ resend_after)

-- it has a turn in n ticks
abbrev pub IsDue : ℕ → Option ℕ → Type 0
IsDue n None = ⊥
IsDue n (Some k) = k % resend_after + n ≡ resend_after

-- one of them has
abbrev pub SomeDue : ℕ → List (Option ℕ) → Type 0
SomeDue n [] = ⊥
SomeDue n (t ∷ ts) = IsDue n t ⊎ SomeDue n ts

abbrev pub IsSettled : {A : Type 0} → Option A → Type 0
IsSettled None = Unit {0}
IsSettled (Some x) = ⊥

-- what is said of how soon one of them has a turn
abbrev pub DueIn : Option ℕ → List (Option ℕ) → Type 0
DueIn None ts = AllByRecursion IsSettled ts
DueIn (Some n) ts = (1 ≤ n) × (n ≤ resend_after) × AllByRecursion (HasRoom n) ts × SomeDue n ts

-- How the ticks are kept.

abbrev pub IsWait : Option Wait → Type 0
IsWait None = Unit {0}
IsWait (Some w) = (w.at < 10) × (w.resent < 10)

abbrev pub is_at : ℕ → Option Wait → Bool
is_at i None = false
is_at i (Some w) = w.at == i

-- what a turn leaves of a request whose message is sent at this tick in ten
abbrev pub turned : Wait → Option Wait
turned w = if w.resent == 9 then None else Some (record w { resent = w.resent + 1 })

abbrev pub passed_wait : ℕ → Option Wait → Option Wait
passed_wait phase None = None
passed_wait phase (Some w) = if w.at == phase then turned w else Some w

-- The counts are right, and none is pending in front of the first.
pub record IsQueue (waits : List (Option Wait)) (phase : ℕ) (counts : List ℕ) (first : ℕ) : Type 0 where
  pub in_ten : phase < 10
  pub each : AllByRecursion IsWait waits
  pub counted : (i : ℕ) → i < 10 → slice_index counts i ≡ count_by (is_at i) waits
  pub within : first ≤ length waits
  pub front : AllByRecursion IsSettled (take first waits)
