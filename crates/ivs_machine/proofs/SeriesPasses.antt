-- Ticks of a dial series, as rows of the vehicle.
use Rattle.std.proofs.Common.{◌≡◌, ◌≤◌, ◌∙◌, ◌++◌, ℕ, Bool, true, false, List, [], ◌∷◌, Option, Some, None, IfSome, option_to_list, refl, sym, ap, subst, min, arith, rules, if◌then◌else◌, ◌==◌}
use Rattle.link_frames.specs.Does.{Does}
use Rattle.link_frames.specs.declared.note.Note.{Note}
use Rattle.link_frames.specs.Ranks.{Deadline, first_of}
use Rattle.link_frames.specs.Row.{Row}
use Rattle.redial.specs.Series.{under_way, IsKept}
use Rattle.redial.specs.SeriesRows as series
use Rattle.redial.specs.declared.series.Next.{Next}
use Rattle.redial.specs.declared.series.Next.TheVariants as next
use Rattle.redial.specs.declared.series.Phase.{Phase}
use Rattle.redial.specs.declared.series.Phase.TheVariants.{Dialling, Pausing, Seeking, Over}
use Rattle.redial.specs.declared.series.Series.{Series}
use Rattle.redial.specs.declared.series.Ticked.{Ticked}
use Rattle.redial.specs.declared.series.Turn.{Turn}
use Rattle.redial.proofs.Ticks.{unit_ticks_is}
use Rattle.ivs_machine.specs.declared.vehicle.Ivs.{Ivs}
use Rattle.ivs_machine.specs.declared.vehicle.Phase.TheVariants as kept_phase
use Rattle.ivs_machine.specs.IvsStands.{IvsIs}
use Rattle.ivs_machine.specs.Vehicle.{Vehicle, InSeries}
use Rattle.ivs_machine.specs.VehicleRows.{acts, aged, due_of, failed_attempt, ended_items, follows, turns, with_rows}
use Rattle.ivs_machine.specs.inner.Moves.{next_items, turn_items, turned}
use Rattle.ivs_machine.specs.inner.Passing.{IvsMayPass}

-- the vehicle in this series
abbrev pub in_series : Vehicle → Series → Vehicle
in_series v s = record v { phase = InSeries s }

-- the first of these with another row
first_of_rows : {A B : Type 0} (row : A → B) (none : A) (ds : List (Deadline A)) → first_of (row none) (with_rows row ds) ≡ row (first_of none ds)
first_of_rows row none [] = refl
first_of_rows row none (d ∷ ds) = at (d.left == 0) (first_of_rows row none ds)
  where
    at : (b : Bool) → first_of (row none) (with_rows row ds) ≡ row (first_of none ds)
        → (if b then row d.row else first_of (row none) (with_rows row ds)) ≡ row (if b then d.row else first_of none ds)
    at true e = refl
    at false e = e

-- what the series' lines bring, as the vehicle's row
acts_in : (v : Vehicle) (s : Series) → acts (in_series v s) ≡ turns s (in_series v s) (series.acts s).turn (series.acts s).new
acts_in v s =
    first_of_rows (λ (t : Ticked). turns s (in_series v s) t.turn t.new) (series.quiet s) (series.deadlines s s.phase)

due_at : (v : Vehicle) (s : Series) (phase : Phase) → let t : Series = record s { phase = phase } in due_of (in_series v t) ≡ series.due_of t
due_at v s (Dialling ticks) = refl
due_at v s (Pausing ticks) = refl
due_at v s Seeking = refl
due_at v s Over = refl

-- in a series the vehicle is due when the series is
pub due_in_series : (v : Vehicle) (s : Series) → due_of (in_series v s) ≡ series.due_of s
due_in_series v s = due_at v s s.phase

under_way_at : (n : ℕ) (s : Series) (phase : Phase) → let t : Series = record s { phase = phase } in under_way (series.grown n t) ≡ under_way t
under_way_at n s (Dialling ticks) = refl
under_way_at n s (Pausing ticks) = refl
under_way_at n s Seeking = refl
under_way_at n s Over = refl

same_turn : (a b : Option Turn) → option_to_list a ≡ option_to_list b → a ≡ b
same_turn None None e = refl
same_turn None (Some b) e = cc
same_turn (Some a) None e = cc
same_turn (Some a) (Some b) e = cc

-- The row of n ticks, from what the code has of the series.
row_in : (n : ℕ) (v : Vehicle) (s new : Series) (turn : Option Turn) → IsKept s → IfSome (series.due_of s) (λ due. n ≤ due)
    → option_to_list turn ≡ (series.unit_ticks n s).turns
    → new ≡ (series.unit_ticks n s).new
    → acts (aged n (in_series v s)) ≡ turns (series.grown n s) (in_series v (series.grown n s)) turn new
row_in n v s new turn kept due e f =
    let t : Ticked = series.acts (series.grown n s) in
    let same = unit_ticks_is n s kept due in
    let g : turn ≡ t.turn = same_turn turn t.turn (e ∙ ap (λ (u : series.Units). u.turns) same) in
    let h : new ≡ t.new = f ∙ ap (λ (u : series.Units). u.new) same in
    acts_in v (series.grown n s)
    ∙ ap (λ (o : Option Turn). turns (series.grown n s) (in_series v (series.grown n s)) o t.new) (sym g)
    ∙ ap (λ (r : Series). turns (series.grown n s) (in_series v (series.grown n s)) turn r) (sym h)

follow_items : (next : Next) (s : Series) (v : Vehicle) → (follows next s v).items ≡ next_items next
follow_items (next.Dial n) s v = refl
follow_items next.Pause s v = refl
follow_items next.Seek s v = refl
follow_items next.GaveUp s v = refl

items_in : (turn : Option Turn) (s new : Series) (v : Vehicle) → (turns s v turn new).items ≡ turn_items (under_way s) turn
items_in None s new v = refl
items_in (Some turn) s new v =
    ap (λ (items : List Note). ended_items turn.ended ++ (failed_attempt (under_way s) ++ items)) (follow_items turn.next new v)

new_in : (turn : Option Turn) (s new : Series) (ivs : Ivs) (v : Vehicle) → ivs.phase ≡ kept_phase.InSeries → IvsIs ivs v
    → IvsIs (turned turn (record ivs { redial = new })) (turns s (in_series v s) turn new).new
new_in turn s new ivs v e h = search rules

-- What the code does as ticks of a series pass, where it is in one.
pub series_stands : (n m due : ℕ) (old new : Ivs) (redial : Series) (items : List Note) (turn : Option Turn)
    → old.phase ≡ kept_phase.InSeries
    → IsKept old.redial
    → Some due ≡ series.due_of old.redial
    → m ≡ min n due
    → option_to_list turn ≡ (series.unit_ticks m old.redial).turns
    → redial ≡ (series.unit_ticks m old.redial).new
    → items ≡ turn_items (under_way old.redial) turn
    → new ≡ turned turn (record old { redial = redial })
    → Does (IvsMayPass n) IvsIs old new items (λ v. acts (aged n v))
series_stands n m due old new redial items turn e kept is least f g i j =
    record { gives = λ v h. i ∙ sym (ap (λ (r : Row Vehicle). r.items) (row v h) ∙ gives v); stands = λ v h. subst (λ (x : Vehicle). IvsIs new x) (sym (ap (λ (r : Row Vehicle). r.new) (row v h))) (rw j (new_in turn (series.grown n old.redial) redial old v e h.is)) }
  where
    in_it : (v : Vehicle) → IvsMayPass n old v → v ≡ in_series v old.redial
    in_it v h = search rules

    row : (v : Vehicle) → IvsMayPass n old v → acts (aged n v) ≡ turns (series.grown n old.redial) (in_series v (series.grown n old.redial)) turn redial
    row v h =
        let within : n ≤ due = subst (λ (o : Option ℕ). IfSome o (λ due. n ≤ due)) (ap due_of (in_it v h) ∙ due_in_series v old.redial ∙ sym is) h.due in
        let same : m ≡ n = omega arith in
        ap (λ (x : Vehicle). acts (aged n x)) (in_it v h)
        ∙ row_in n v old.redial redial turn kept
        (subst (λ (o : Option ℕ). IfSome o (λ due. n ≤ due)) is within)
        (f ∙ ap (λ k. (series.unit_ticks k old.redial).turns) same)
        (g ∙ ap (λ k. (series.unit_ticks k old.redial).new) same)

    gives : (v : Vehicle) → (turns (series.grown n old.redial) (in_series v (series.grown n old.redial)) turn redial).items ≡ turn_items (under_way old.redial) turn
    gives v =
        items_in turn (series.grown n old.redial) redial (in_series v (series.grown n old.redial))
        ∙ ap (λ u. turn_items u turn) (under_way_at n old.redial old.redial.phase)
