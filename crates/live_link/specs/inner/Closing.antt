-- How a run is closed: its last line is written behind its trace, and all of it is handed over. Behind a failed read or
-- write nothing more is written. Cited by a private contract alone.
use Rattle.std.specs.Prelude.{◌≡◌, ℕ, Bool, true, false, ◌⊎◌, List, Option}
use Rattle.call_io.specs.Bytes.{Grew}
use Rattle.call_io.specs.Counts.{Rose}
use Rattle.live_link.specs.LastLine.{last_line}
use Rattle.live_link.specs.declared.answer.LiveStatus.{LiveStatus}
use Rattle.live_link.specs.declared.answer.LiveStatus.TheVariants as status

-- whether a read or a write failed
abbrev pub has_failed : LiveStatus → Bool
has_failed status.ReadFault = true
has_failed status.WriteFault = true
has_failed _ = false

-- how the run ended is the answer, and the sink has the last line behind what was written; or a read or a write failed
abbrev pub Closes : (how answer : LiveStatus) → (held held' : Option (List ℕ)) → Type 0
Closes how answer held held' =
    ((answer ≡ how) × Grew held held' (last_line how)) ⊎ (((answer ≡ how) × (has_failed how ≡ true))
    ⊎ (answer ≡ status.WriteFault))

-- a read or a write failed before, and nothing more is written; or the end of the trace is written, or that fails
abbrev pub CloseCause : (how answer : LiveStatus) → (old new : ℕ) → Type 0
CloseCause status.ReadFault answer old new = (answer ≡ status.ReadFault) × (new ≡ old)
CloseCause status.WriteFault answer old new = (answer ≡ status.WriteFault) × (new ≡ old)
CloseCause how answer old new =
    ((answer ≡ how) × (new ≡ old)) ⊎ ((answer ≡ status.WriteFault) × Rose old new)
