-- A session that hears: from what each row does to what it keeps.
use Rattle.std.proofs.Common.{◌≡◌, ◌≤◌, ◌<◌, ℕ, List, [], Option, None, Some, sym, ap, subst, arith, IfSome}
use Rattle.link_frames.specs.Does.{Does}
use Rattle.link_frames.specs.Row.{Row, silent}
use Rattle.link_frames.specs.declared.note.Note.{Note}
use Rattle.psap_machine.specs.Point.{Point}
use Rattle.psap_machine.specs.PointKept.{IsKept, IsKeptBy}
use Rattle.psap_machine.specs.PointRows.{Heard, point_row, units, acts, aged, due_of}
use Rattle.psap_machine.specs.SessionStands.{SessionIs, SessionStandsFor}
use Rattle.psap_machine.specs.inner.Ageing.{SessionIsDue, aged_in}
use Rattle.psap_machine.specs.declared.session.Session.{Session}
use Rattle.psap_machine.proofs.PointOwed.{row_kept, acts_kept, units_kept}
use Rattle.psap_machine.proofs.Ticks.{ticks_pass, ticks_rest, aged_is}

pub row_stands : (e : Heard) (old new : Session) (items : List Note)
    → Does SessionStandsFor SessionIs old new items (λ s. point_row s e)
    → Does SessionStandsFor SessionStandsFor old new items (λ s. point_row s e)
row_stands e old new items d =
    record { gives = d.gives; stands = λ s h. record { is = d.stands s h; kept = row_kept e s h.kept } }

-- A session that lets ticks pass: its sums grow, and then a line may act.
pub pass_stands : (n : ℕ) (old new : Session) (items : List Note)
    → 1 ≤ n
    → ((s : Point) → SessionStandsFor old s → IfSome (due_of s) (λ due. n ≤ due))
    → Does SessionIsDue SessionIs (aged_in n old old.phase) new items acts
    → Does SessionStandsFor SessionStandsFor old new items (units n)
pass_stands n old new items least due d =
    let passes : (s : Point) → SessionStandsFor old s → (units n s ≡ acts (aged n s)) × IsKeptBy 1 (aged n s) = λ s h.
    ticks_pass n s h.kept least (due s h) in
    let is_due : (s : Point) → SessionStandsFor old s → SessionIsDue (aged_in n old old.phase) (aged n s) = λ s h.
    record { is = aged_is n old s h.is (passes s h).1; kept = (passes s h).1 } in
    record {
      gives = λ s h. rw ((passes s h).0) (d.gives (aged n s) (is_due s h));
      stands = λ s h.
          rw ((passes s h).0)
          record { is = d.stands (aged n s) (is_due s h); kept = acts_kept (aged n s) (passes s h).1 };
    }

by_then : (n : ℕ) (o : Option ℕ) → IfSome o (λ due. n < due) → IfSome o (λ due. n ≤ due)
by_then n None h = tt
by_then n (Some due) h = omega arith

-- A session that lets ticks pass in which no line acts: its sums grow.
pub rest_stands : (n : ℕ) (old new : Session)
    → 1 ≤ n
    → ((s : Point) → SessionStandsFor old s → IfSome (due_of s) (λ due. n < due))
    → new ≡ aged_in n old old.phase
    → Does SessionStandsFor SessionStandsFor old new [] (units n)
rest_stands n old new least due e =
    let quiet : (s : Point) → SessionStandsFor old s → units n s ≡ silent (aged n s) = λ s h. ticks_rest n s (due s h) in
    record {
      gives = λ s h. sym (ap (λ (row : Row Point). row.items) (quiet s h));
      stands = λ s h.
          let kept : IsKept (aged n s) = subst (λ (row : Row Point). IsKept row.new) (quiet s h) (units_kept n s h.kept) in
          let is : SessionIs new (aged n s) = rw e (aged_is n old s h.is (ticks_pass n s h.kept least (by_then n (due_of s) (due s h))).1) in
          subst (λ (row : Row Point). SessionStandsFor new row.new) (sym (quiet s h)) (record { is = is; kept = kept });
    }
