-- Unit ticks: n of them give what the lines give once n ticks have gone, where no line acts before.
use Rattle.std.proofs.Common.{◌≡◌, ◌≤◌, ◌<◌, ℕ, zero, suc, List, [], Some, None, refl, sym, ap, arith, rules, ◌∙◌, IfSome}
use Rattle.std.specs.Prelude.{Option}
use Rattle.std.proofs.lemmas.Bool.Decides.{nat_tests}
use Rattle.link_frames.specs.declared.note.Note.{Note}
use Rattle.std.proofs.Common.{append-nil, ◌≢◌}
use Rattle.link_frames.specs.Ranks.{behind}
use Rattle.link_frames.proofs.RanksLemmas.{EachLeaves, due_leaves, none_acts, due_at_least}
use Rattle.link_frames.specs.Row.{Row, silent}
use Rattle.psap_machine.specs.Point.{Point, Phase, Listening, Asking, Telling, Talking, Clearing, Over}
use Rattle.psap_machine.specs.PointKept.{IsKept, IsKeptBy}
use Rattle.psap_machine.specs.PointRows.{deadlines, aged, acts, unit_row, units, due_of, IsLeastDue}
use Rattle.psap_machine.specs.declared.session.Session.{Session}
use Rattle.psap_machine.specs.SessionStands.{SessionIs}
use Rattle.psap_machine.specs.inner.Ageing.{aged_in}

-- what a session of so many ticks leaves
abbrev pub Leaves : ℕ → Point → Type 0
Leaves n s = EachLeaves n (deadlines s s.phase)

quiet_tick : (n : ℕ) (s : Point) → Leaves (suc n) (aged 1 s) → unit_row s ≡ silent (aged 1 s)
quiet_tick n s h = none_acts n (silent (aged 1 s)) (deadlines (aged 1 s) (aged 1 s).phase) h

-- a tick later each line that left a tick more leaves one less
one_less : (s : Point) (n : ℕ) → Leaves (suc n) s → Leaves n (aged 1 s)
one_less s n h = search rules

aged_none : (s : Point) → aged 0 s ≡ s
aged_none s = search rules

aged_again : (n : ℕ) (s : Point) → aged n (aged 1 s) ≡ aged (suc n) s
aged_again n s = search rules

aged_kept : (n : ℕ) (s : Point) → IsKept s → Leaves n (aged 1 s) → IsKeptBy 1 (aged (suc n) s)
aged_kept n s h leaves = search rules

pub aged_is : (n : ℕ) (session : Session) (s : Point)
    → SessionIs session s
    → IsKeptBy 1 (aged n s)
    → SessionIs (aged_in n session session.phase) (aged n s)
aged_is n session s h kept = search rules

-- n ticks in which nothing acts
pub quiet_ticks : (n : ℕ) (s : Point) → Leaves n (aged 1 s) → units n s ≡ silent (aged n s)
quiet_ticks zero s h = ap silent (sym (aged_none s))
quiet_ticks (suc n) s h =
    ap (λ (row : Row Point). behind row.items (units n row.new)) (quiet_tick n s h)
    ∙ quiet_ticks n (aged 1 s) (one_less (aged 1 s) n h)
    ∙ ap silent (aged_again n s)

-- n ticks of which only the last may bring something
ticks_act : (n : ℕ) (s : Point) → Leaves n (aged 1 s) → units (suc n) s ≡ acts (aged (suc n) s)
ticks_act zero s h =
    ap (λ (items : List Note). record { items = items; new = (unit_row s).new }) (append-nil (unit_row s).items)
ticks_act (suc n) s h =
    ap (λ (row : Row Point). behind row.items (units (suc n) row.new)) (quiet_tick n s h)
    ∙ ticks_act n (aged 1 s) (one_less (aged 1 s) n h)
    ∙ ap acts (aged_again (suc n) s)

-- up to what is due n unit ticks are those of the sums grown by n
pub ticks_pass : (n : ℕ) (s : Point)
    → IsKept s
    → 1 ≤ n
    → IfSome (due_of s) (λ due. n ≤ due)
    → (units n s ≡ acts (aged n s)) × IsKeptBy 1 (aged n s)
ticks_pass zero s kept least due = absurd (omega arith)
ticks_pass (suc n) s kept least due =
    let leaves : Leaves n (aged 1 s) = due_leaves n (deadlines (aged 1 s) (aged 1 s).phase) due in
    (ticks_act n s leaves, aged_kept n s kept leaves)

-- before what is due n unit ticks only let the sums grow
pub ticks_rest : (n : ℕ) (s : Point) → IfSome (due_of s) (λ due. n < due) → units n s ≡ silent (aged n s)
ticks_rest n s due = quiet_ticks n s (due_leaves n (deadlines (aged 1 s) (aged 1 s).phase) due)

-- What is due is the least number of unit ticks that give an item.

due_listening : (s : Point)
    → IsKept (record s { phase = Listening })
    → (due : ℕ)
    → due_of (record s { phase = Listening }) ≡ Some due
    → (acts (aged due (record s { phase = Listening }))).items ≢ []
due_listening s h due e = search rules

due_asking : (s : Point) (r : ℕ)
    → IsKept (record s { phase = Asking r })
    → (due : ℕ)
    → due_of (record s { phase = Asking r }) ≡ Some due
    → (acts (aged due (record s { phase = Asking r }))).items ≢ []
due_asking s r h due e = search (rules, nat_tests)

due_telling : (s : Point) (r : ℕ)
    → IsKept (record s { phase = Telling r })
    → (due : ℕ)
    → due_of (record s { phase = Telling r }) ≡ Some due
    → (acts (aged due (record s { phase = Telling r }))).items ≢ []
due_telling s r h due e = search (rules, nat_tests)

due_clearing : (s : Point) (r : ℕ)
    → IsKept (record s { phase = Clearing r })
    → (due : ℕ)
    → due_of (record s { phase = Clearing r }) ≡ Some due
    → (acts (aged due (record s { phase = Clearing r }))).items ≢ []
due_clearing s r h due e = search (rules, nat_tests)

due_acts_in : (s : Point) (p : Phase)
    → IsKept (record s { phase = p })
    → (due : ℕ)
    → due_of (record s { phase = p }) ≡ Some due
    → (acts (aged due (record s { phase = p }))).items ≢ []
due_acts_in s Listening h due e = due_listening s h due e
due_acts_in s (Asking r) h due e = due_asking s r h due e
due_acts_in s (Telling r) h due e = due_telling s r h due e
due_acts_in s Talking h due e = cc
due_acts_in s (Clearing r) h due e = due_clearing s r h due e
due_acts_in s Over h due e = cc

least_in : (o : Option ℕ) (s : Point) → IsKept s → due_of s ≡ o → IsLeastDue o s
least_in None s h e = λ n.
    let leaves : Leaves n (aged 1 s) = due_leaves n (deadlines (aged 1 s) (aged 1 s).phase) (rw e tt) in
    ap (λ (row : Row Point). row.items) (quiet_ticks n s leaves)
least_in (Some due) s h e =
    let least : 1 ≤ due = due_at_least (deadlines (aged 1 s) (aged 1 s).phase) due e in
    let within : IfSome (due_of s) (λ d. due ≤ d) = rw e (omega arith) in
    let same : units due s ≡ acts (aged due s) = (ticks_pass due s h least within).0 in
    record {
      gives = λ none. due_acts_in s s.phase h due e (ap (λ (row : Row Point). row.items) (sym same) ∙ none);
      quiet = λ n below.
          let leaves : Leaves n (aged 1 s) = due_leaves n (deadlines (aged 1 s) (aged 1 s).phase) (rw e (omega arith)) in
          ap (λ (row : Row Point). row.items) (quiet_ticks n s leaves);
    }

pub due_is_least : (s : Point) → IsKept s → IsLeastDue (due_of s) s
due_is_least s h = least_in (due_of s) s h refl
