-- For how many ticks the session of a call does nothing. Cited by the model of the seat that is kept, and by the
-- private functions on elapsed time.
use Rattle.std.specs.Prelude.{ℕ, ◌<◌, Option, Some, None, IfSome}
use Rattle.psap_machine.specs.declared.session.Session.{Session}
use Rattle.psap_machine.specs.Point.{Point}
use Rattle.psap_machine.specs.PointRows.{due_of}
use Rattle.psap_machine.specs.SessionStands.{SessionStandsFor}

-- whatever state this session stands for, nothing is due in it in so many ticks
abbrev pub DueLater : ℕ → Option Session → Type 0
DueLater n None = Unit {0}
DueLater n (Some session) = (s : Point) → SessionStandsFor session s → IfSome (due_of s) (λ due. n < due)

-- nothing is due in it in fewer ticks than these
abbrev pub IsQuietFor : ℕ → Option Session → Type 0
IsQuietFor quiet session = (n : ℕ) → n < quiet → DueLater n session
