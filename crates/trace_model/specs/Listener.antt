-- What it means that a listener of a trace grew by some entries, or by a part of them, and why it answers an error.
-- This project's profile. Cited by the trait `Listener` and by its listeners.
use Rattle.std.specs.Prelude.{◌≡◌, ℕ, List, ◌++◌}
use Rattle.call_io.specs.Counts.{Rose}
use Rattle.trace_model.specs.declared.entry.Entry.{Entry}
use Rattle.trace_model.specs.declared.listener.Deaf.{Deaf}
use Rattle.trace_model.specs.declared.listener.Deaf.TheVariants as deaf

-- A failed write comes only where the count of faults rose, and want of memory only where it stood.
abbrev pub DeafCause : Deaf → (old new : ℕ) → Type 0
DeafCause deaf.Write old new = Rose old new
DeafCause deaf.Memory old new = new ≡ old

-- the listener grew by a front of these entries
abbrev pub GrewByFront : {A : Type 0} → (A → A → List Entry → Type 0) → (old new : A) → List Entry → Type 0
GrewByFront grew old new entries =
    (front rest : List Entry) × (front ++ rest ≡ entries) × grew old new front

-- the list of entries grew by these at its end
abbrev pub KeptGrew : (old new : List Entry) → List Entry → Type 0
KeptGrew old new entries = new ≡ old ++ entries
