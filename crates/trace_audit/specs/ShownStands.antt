-- What stands for the sets that a trace has shown. This project's profile. Cited by the relation of `Rules` to a trace.
use Rattle.std.specs.Prelude.{◌≡◌, ◌==◌, ◌&&◌, ◌↔◌, ℕ, Bool, true, List, nat_eq}
use Rattle.std.specs.Cmp.Lexicographic.{pointwise}
use Rattle.std.specs.HashSet.{contains}
use Rattle.trace_model.specs.declared.entry.Entry.{Entry}
use Rattle.trace_model.specs.Safety.{WasShown}
use Rattle.trace_audit.specs.declared.shown.Showing.{Showing}
use Rattle.trace_audit.specs.declared.shown.Shown.{Shown}

-- whether the two are the same set for the same request of the same call
abbrev pub same_showing : Showing → Showing → Bool
same_showing a b = (a.call == b.call) && ((a.request == b.request) && pointwise nat_eq a.octets b.octets)

-- Kept are exactly the sets that these entries show.
abbrev pub ShownStandsFor : Shown → List Entry → Type 0
ShownStandsFor shown t =
    (call request : ℕ) (octets : List ℕ) →
    contains same_showing shown.sets (record { call = call; request = request; octets = octets }) ≡ true
    ↔ WasShown call request octets t
