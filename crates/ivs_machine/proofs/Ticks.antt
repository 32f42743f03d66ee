-- Unit ticks: n of them give what the lines give once n ticks have gone, where no line acts before.
use Rattle.std.proofs.Common.{◌≡◌, ◌≢◌, ◌≤◌, ℕ, zero, suc, List, [], Some, None, refl, sym, ap, arith, rules, ◌∙◌, IfSome, append-nil, add-zero, min, ◌+◌}
use Rattle.std.specs.Prelude.{Option}
use Rattle.std.proofs.lemmas.Bool.Decides.{nat_tests}
use Rattle.callback.specs.Rest.{longest_standby}
use Rattle.link_frames.specs.declared.note.Note.{Note}
use Rattle.link_frames.specs.Ranks.{behind}
use Rattle.link_frames.proofs.RanksLemmas.{EachLeaves, due_leaves, none_acts, due_at_least}
use Rattle.link_frames.specs.Row.{Row, silent}
use Rattle.redial.specs.declared.series.Phase as series
use Rattle.redial.specs.declared.series.Phase.TheVariants as series_phase
use Rattle.redial.specs.declared.series.Series.{Series}
use Rattle.redial.proofs.Ticks.{none_grown}
use Rattle.ivs_machine.specs.Vehicle.{Vehicle, Phase, Idle, Standby, Arming, InSeries, InCall, LeftIdle, LeftStandby, Initiating, Awaiting, Sending, Confirming, Talking}
use Rattle.ivs_machine.specs.VehicleKept.{IsKept, IsKeptIn}
use Rattle.ivs_machine.specs.VehicleRows.{deadlines, aged, acts, unit_row, units, due_of, IsLeastDue}

-- what each line of a vehicle leaves
abbrev pub Leaves : ℕ → Vehicle → Type 0
Leaves n v = EachLeaves n (deadlines v v.phase)

quiet_tick : (n : ℕ) (v : Vehicle) → Leaves (suc n) (aged 1 v) → unit_row v ≡ silent (aged 1 v)
quiet_tick n v h = none_acts n (silent (aged 1 v)) (deadlines (aged 1 v) (aged 1 v).phase) h

-- a tick later each line that left a tick more leaves one less
one_less : (v : Vehicle) (n : ℕ) → Leaves (suc n) v → Leaves n (aged 1 v)
one_less v n h = search rules

aged_again : (n : ℕ) (v : Vehicle) → aged n (aged 1 v) ≡ aged (suc n) v
aged_again n v = search rules

-- no tick later a vehicle is the same
none_in : (v : Vehicle) (p : Phase) → IsKeptIn v p → let w : Vehicle = record v { phase = p } in aged 0 w ≡ w
none_in v Idle h = refl
none_in v Standby h =
    let same : min (v.standby + 0) longest_standby ≡ v.standby = omega arith in
    ap (λ z. record v { phase = Standby; standby = z }) same
none_in v (Arming LeftIdle) h = ap (λ z. record v { phase = Arming LeftIdle; in_phase = z }) (add-zero v.in_phase)
none_in v (Arming LeftStandby) h =
    let same : min (v.standby + 0) longest_standby ≡ v.standby = omega (arith, h.1) in
    ap (λ z. record v { phase = Arming LeftStandby; in_phase = z; standby = min (v.standby + 0) longest_standby })
    (add-zero v.in_phase)
    ∙ ap (λ z. record v { phase = Arming LeftStandby; standby = z }) same
none_in v (InSeries s) h = ap (λ (z : Series). record v { phase = InSeries z }) (none_grown s)
none_in v (InCall stage) h = simp add-zero

pub aged_none : (v : Vehicle) → IsKept v → aged 0 v ≡ v
aged_none v h = none_in v v.phase h.phase

-- n ticks in which nothing acts
quiet_ticks : (n : ℕ) (v : Vehicle) → Leaves n (aged 1 v) → (units n v).items ≡ []
quiet_ticks zero v h = refl
quiet_ticks (suc n) v h =
    ap (λ (row : Row Vehicle). (behind row.items (units n row.new)).items) (quiet_tick n v h)
    ∙ quiet_ticks n (aged 1 v) (one_less (aged 1 v) n h)

-- n ticks of which only the last may bring something
ticks_act : (n : ℕ) (v : Vehicle) → Leaves n (aged 1 v) → units (suc n) v ≡ acts (aged (suc n) v)
ticks_act zero v h = ap (λ (items : List Note). record { items = items; new = (unit_row v).new }) (append-nil (unit_row v).items)
ticks_act (suc n) v h =
    ap (λ (row : Row Vehicle). behind row.items (units (suc n) row.new)) (quiet_tick n v h)
    ∙ ticks_act n (aged 1 v) (one_less (aged 1 v) n h)
    ∙ ap acts (aged_again (suc n) v)

-- up to what is due n unit ticks are those of the sums grown by n
pub ticks_pass : (n : ℕ) (v : Vehicle) → 1 ≤ n → IfSome (due_of v) (λ due. n ≤ due) → units n v ≡ acts (aged n v)
ticks_pass zero v least due = absurd (omega arith)
ticks_pass (suc n) v least due = ticks_act n v (due_leaves n (deadlines (aged 1 v) (aged 1 v).phase) due)

-- What is due is the least number of unit ticks that give an item.
abbrev ActsWhenDue : Vehicle → Type 0
ActsWhenDue v = IsKept v → (due : ℕ) → due_of v ≡ Some due → (acts (aged due v)).items ≢ []

due_standby : (v : Vehicle) → ActsWhenDue (record v { phase = Standby })
due_standby v h due e = search (rules, nat_tests)

due_arming_idle : (v : Vehicle) → ActsWhenDue (record v { phase = Arming LeftIdle })
due_arming_idle v h due e = search (rules, nat_tests)

due_arming_standby : (v : Vehicle) → ActsWhenDue (record v { phase = Arming LeftStandby })
due_arming_standby v h due e = search (rules, nat_tests)

abbrev in_series : Vehicle → Series → series.Phase → Vehicle
in_series v s phase = record v { phase = InSeries (record s { phase = phase }) }

due_dialling : (v : Vehicle) (s : Series) (ticks : ℕ) → ActsWhenDue (in_series v s (series_phase.Dialling ticks))
due_dialling v s ticks h due e = search (rules, nat_tests)

due_pausing : (v : Vehicle) (s : Series) (ticks : ℕ) → ActsWhenDue (in_series v s (series_phase.Pausing ticks))
due_pausing v s ticks h due e = search (rules, nat_tests)

due_seeking : (v : Vehicle) (s : Series) → ActsWhenDue (in_series v s series_phase.Seeking)
due_seeking v s h due e = search (rules, nat_tests)

due_series : (v : Vehicle) (s : Series) (phase : series.Phase) → ActsWhenDue (in_series v s phase)
due_series v s (series_phase.Dialling ticks) h due e = due_dialling v s ticks h due e
due_series v s (series_phase.Pausing ticks) h due e = due_pausing v s ticks h due e
due_series v s series_phase.Seeking h due e = due_seeking v s h due e
due_series v s series_phase.Over h due e = cc

due_initiating : (v : Vehicle) → ActsWhenDue (record v { phase = InCall Initiating })
due_initiating v h due e = search (rules, nat_tests)

due_awaiting : (v : Vehicle) → ActsWhenDue (record v { phase = InCall Awaiting })
due_awaiting v h due e = search (rules, nat_tests)

due_sending : (v : Vehicle) (r : ℕ) → ActsWhenDue (record v { phase = InCall (Sending r) })
due_sending v r h due e = search (rules, nat_tests)

due_confirming : (v : Vehicle) (r : ℕ) → ActsWhenDue (record v { phase = InCall (Confirming r) })
due_confirming v r h due e = search (rules, nat_tests)

due_talking : (v : Vehicle) → ActsWhenDue (record v { phase = InCall Talking })
due_talking v h due e = search (rules, nat_tests)

due_in : (v : Vehicle) (p : Phase) → ActsWhenDue (record v { phase = p })
due_in v Idle h due e = cc
due_in v Standby h due e = due_standby v h due e
due_in v (Arming LeftIdle) h due e = due_arming_idle v h due e
due_in v (Arming LeftStandby) h due e = due_arming_standby v h due e
due_in v (InSeries s) h due e = due_series v s s.phase h due e
due_in v (InCall Initiating) h due e = due_initiating v h due e
due_in v (InCall Awaiting) h due e = due_awaiting v h due e
due_in v (InCall (Sending r)) h due e = due_sending v r h due e
due_in v (InCall (Confirming r)) h due e = due_confirming v r h due e
due_in v (InCall Talking) h due e = due_talking v h due e

least_in : (o : Option ℕ) (v : Vehicle) → IsKept v → due_of v ≡ o → IsLeastDue o v
least_in None v h e = λ n.
    quiet_ticks n v (due_leaves n (deadlines (aged 1 v) (aged 1 v).phase) (rw e tt))
least_in (Some due) v h e =
    let least : 1 ≤ due = due_at_least (deadlines (aged 1 v) (aged 1 v).phase) due e in
    let within : IfSome (due_of v) (λ d. due ≤ d) = rw e (omega arith) in
    let same : units due v ≡ acts (aged due v) = ticks_pass due v least within in
    record {
      gives = λ none. due_in v v.phase h due e (ap (λ (row : Row Vehicle). row.items) (sym same) ∙ none);
      quiet = λ n below.
          quiet_ticks n v (due_leaves n (deadlines (aged 1 v) (aged 1 v).phase) (rw e (omega arith)));
    }

pub due_is_least : (v : Vehicle) → IsKept v → IsLeastDue (due_of v) v
due_is_least v h = least_in (due_of v) v h refl
