-- Quiet time of one end: while nothing is due at it, n unit ticks give nothing, and it is n ticks on. Lemmas over the
-- definitions alone.
use Rattle.std.proofs.Common.{◌≡◌, ◌≤◌, ◌<◌, ◌+◌, ◌-◌, ℕ, false, zero, suc, List, [], ◌∷◌, Option, Some, None, refl, sym, ap, arith, rules, ◌∙◌, IfSome, append-nil, nat_eq}
use Rattle.std.specs.List.{AllByRecursion}
use Rattle.std.proofs.lemmas.Bool.Decides.{nat_tests}
use Rattle.link_frames.specs.declared.note.Note.{Note}
use Rattle.link_frames.specs.Ranks.{Deadline, first_of, soonest, least_left, behind, to_next}
use Rattle.link_frames.specs.Row.{Row, silent}
use Rattle.redial.specs.declared.series.Phase as series
use Rattle.redial.specs.declared.series.Phase.TheVariants as series_phase
use Rattle.redial.specs.declared.series.Series.{Series}
use Rattle.ivs_machine.specs.Vehicle.{Vehicle, Phase, Idle, Standby, Arming, InSeries, InCall, LeftIdle, LeftStandby, Initiating, Awaiting, Sending, Confirming, Talking}
use Rattle.ivs_machine.specs.VehicleRows as vehicle
use Rattle.psap_machine.specs.Point as at_point
use Rattle.psap_machine.specs.Point.{Point}
use Rattle.psap_machine.specs.PointRows as point
use Rattle.trace_fit.specs.Seats.{left_by}

-- Lines by the ticks that they have left.

-- each has at least n ticks left
abbrev pub EachLeaves : {A : Type 0} → ℕ → List (Deadline A) → Type 0
EachLeaves n ds = AllByRecursion (λ d. n ≤ d.left) ds

-- each line of the second list has n ticks fewer left than that of the first
abbrev pub EachLess : {A : Type 0} → ℕ → (before after : List (Deadline A)) → Type 0
EachLess n [] [] = Unit {0}
EachLess n [] (e ∷ es) = ⊥
EachLess n (d ∷ ds) [] = ⊥
EachLess n (d ∷ ds) (e ∷ es) = (e.left ≡ d.left - n) × EachLess n ds es

-- n ticks fewer, where something is due
abbrev pub less : ℕ → Option ℕ → Option ℕ
less n None = None
less n (Some due) = Some (due - n)

least_leaves : {A : Type 0} (n k : ℕ) (ds : List (Deadline A)) → n ≤ least_left k ds → (n ≤ k) × EachLeaves n ds
least_leaves n k [] h = (h, tt)
least_leaves n k (d ∷ ds) h =
    let below : n ≤ least_left d.left ds = omega arith in (omega arith, least_leaves n d.left ds below)

-- up to what is due each line leaves one tick less
due_leaves : {A : Type 0} (n : ℕ) (ds : List (Deadline A)) → IfSome (soonest ds) (λ due. n < due) → EachLeaves n ds
due_leaves n [] h = tt
due_leaves n (d ∷ ds) h = let below : n ≤ least_left d.left ds = omega (arith, h) in least_leaves n d.left ds below

-- nothing acts while each line has a tick left
none_acts : {A : Type 0} (n : ℕ) (none : A) (ds : List (Deadline A)) → EachLeaves (suc n) ds → first_of none ds ≡ none
none_acts n none [] h = refl
none_acts n none (d ∷ ds) h =
    let some : nat_eq d.left 0 ≡ false = (let least : suc n ≤ d.left = h.0 in grind (arith, nat_tests)) in
    rw some (none_acts n none ds h.1)

least_less : {A : Type 0} (n k m : ℕ) (ds es : List (Deadline A)) → m ≡ k - n → EachLess n ds es
    → least_left m es ≡ least_left k ds - n
least_less n k m [] [] e h = e
least_less n k m [] (y ∷ es) e h = absurd h
least_less n k m (d ∷ ds) [] e h = absurd h
least_less n k m (d ∷ ds) (y ∷ es) e h =
    let rest : least_left y.left es ≡ least_left d.left ds - n = least_less n d.left y.left ds es h.0 h.1 in omega arith

soonest_less : {A : Type 0} (n : ℕ) (ds es : List (Deadline A)) → EachLess n ds es
    → IfSome (soonest ds) (λ due. n < due)
    → soonest es ≡ less n (soonest ds)
soonest_less n [] [] h due = refl
soonest_less n [] (y ∷ es) h due = absurd h
soonest_less n (d ∷ ds) [] h due = absurd h
soonest_less n (d ∷ ds) (y ∷ es) h due =
    let rest : least_left y.left es ≡ least_left d.left ds - n = least_less n d.left y.left ds es h.0 h.1 in
    let same : least_left y.left es + 1 ≡ least_left d.left ds + 1 - n = omega (arith, due) in
    ap (λ (k : ℕ). Some k) same

-- The vehicle.

-- an end that isn't due at the next tick does nothing at it
pub vehicle_quiet : (v : Vehicle) → IfSome (vehicle.due_of v) (λ due. 1 < due)
    → vehicle.unit_row v ≡ silent (vehicle.aged 1 v)
vehicle_quiet v h =
    let later : Vehicle = vehicle.aged 1 v in
    none_acts 0 (silent later) (vehicle.deadlines later later.phase) (due_leaves 1 (vehicle.deadlines later later.phase) h)

pub vehicle_again : (m n : ℕ) (v : Vehicle) → vehicle.aged n (vehicle.aged m v) ≡ vehicle.aged (m + n) v
vehicle_again m n v = search rules

-- what each line of a vehicle, or of a session, leaves one tick from now
abbrev pub vehicle_lines : Vehicle → List (Deadline (Row Vehicle))
vehicle_lines v = let next : Vehicle = vehicle.aged 1 v in vehicle.deadlines next next.phase

abbrev pub point_lines : Point → List (Deadline (Row Point))
point_lines s = let next : Point = point.aged 1 s in point.deadlines next next.phase

init_less : (n e : ℕ) → n ≤ to_next 5 (e + 1) → to_next 5 (e + n + 1) ≡ to_next 5 (e + 1) - n
init_less n e h = omega arith

send_less : (n e : ℕ) → n ≤ to_next 13 (e + 1) → to_next 13 (e + n + 1) ≡ to_next 13 (e + 1) - n
send_less n e h = omega arith

series_less : (n : ℕ) (v : Vehicle) (s : Series) (phase : series.Phase)
    → let w : Vehicle = record v { phase = InSeries (record s { phase = phase }) } in
    EachLeaves n (vehicle_lines w) → EachLess n (vehicle_lines w) (vehicle_lines (vehicle.aged n w))
series_less n v s (series_phase.Dialling ticks) h = (omega arith, tt)
series_less n v s (series_phase.Pausing ticks) h = (omega arith, (omega arith, tt))
series_less n v s series_phase.Seeking h = (omega arith, tt)
series_less n v s series_phase.Over h = tt

vehicle_less : (n : ℕ) (v : Vehicle) (p : Phase) → EachLeaves n (vehicle_lines (record v { phase = p }))
    → EachLess n (vehicle_lines (record v { phase = p })) (vehicle_lines (vehicle.aged n (record v { phase = p })))
vehicle_less n v Idle h = tt
vehicle_less n v Standby h = (omega arith, tt)
vehicle_less n v (Arming LeftIdle) h = (omega arith, tt)
vehicle_less n v (Arming LeftStandby) h = (omega arith, tt)
vehicle_less n v (InSeries s) h = series_less n v s s.phase h
vehicle_less n v (InCall Initiating) h =
    (omega arith, (omega arith, (omega arith, (init_less n v.in_phase h.1.1.1.0, tt))))
vehicle_less n v (InCall Awaiting) h = (omega arith, (omega arith, (omega arith, tt)))
vehicle_less n v (InCall (Sending r)) h =
    (omega arith, (omega arith, (omega arith, (send_less n v.in_phase h.1.1.1.0, tt))))
vehicle_less n v (InCall (Confirming r)) h = (omega arith, (omega arith, (omega arith, tt)))
vehicle_less n v (InCall Talking) h = (omega arith, tt)

-- n ticks later, as long as nothing was due in them, as many fewer are left to what is due
pub vehicle_due_aged : (n : ℕ) (v : Vehicle) → IfSome (vehicle.due_of v) (λ due. n < due)
    → vehicle.due_of (vehicle.aged n v) ≡ less n (vehicle.due_of v)
vehicle_due_aged n v h =
    soonest_less n (vehicle_lines v) (vehicle_lines (vehicle.aged n v))
    (vehicle_less n v v.phase (due_leaves n (vehicle_lines v) h)) h

-- The session of the point.

pub point_quiet : (s : Point) → IfSome (point.due_of s) (λ due. 1 < due)
    → point.unit_row s ≡ silent (point.aged 1 s)
point_quiet s h =
    none_acts 0 (silent (point.aged 1 s)) (point_lines s) (due_leaves 1 (point_lines s) h)

pub point_none : (s : Point) → point.aged 0 s ≡ s
point_none s = search rules

pub point_again : (m n : ℕ) (s : Point) → point.aged n (point.aged m s) ≡ point.aged (m + n) s
point_again m n s = search rules

point_less : (n : ℕ) (s : Point) (p : at_point.Phase) → EachLeaves n (point_lines (record s { phase = p }))
    → EachLess n (point_lines (record s { phase = p })) (point_lines (point.aged n (record s { phase = p })))
point_less n s at_point.Listening h = (omega arith, tt)
point_less n s (at_point.Asking r) h = (omega arith, (init_less n s.in_phase h.1.0, tt))
point_less n s (at_point.Telling r) h = (omega arith, (init_less n s.in_phase h.1.0, tt))
point_less n s at_point.Talking h = tt
point_less n s (at_point.Clearing r) h = (omega arith, (init_less n s.in_phase h.1.0, tt))
point_less n s at_point.Over h = tt

pub point_due_aged : (n : ℕ) (s : Point) → IfSome (point.due_of s) (λ due. n < due)
    → point.due_of (point.aged n s) ≡ less n (point.due_of s)
point_due_aged n s h =
    soonest_less n (point_lines s) (point_lines (point.aged n s))
    (point_less n s s.phase (due_leaves n (point_lines s) h)) h

-- a session that isn't over isn't over n ticks later
live_in : (n : ℕ) (s : Point) (p : at_point.Phase) → left_by (record s { phase = p }) ≡ Some (record s { phase = p })
    → left_by (point.aged n (record s { phase = p })) ≡ Some (point.aged n (record s { phase = p }))
live_in n s at_point.Listening h = refl
live_in n s (at_point.Asking r) h = refl
live_in n s (at_point.Telling r) h = refl
live_in n s at_point.Talking h = refl
live_in n s (at_point.Clearing r) h = refl
live_in n s at_point.Over h = h

pub point_live : (n : ℕ) (s : Point) → left_by s ≡ Some s → left_by (point.aged n s) ≡ Some (point.aged n s)
point_live n s h = live_in n s s.phase h

-- What is due n ticks later.

due_less : (m n : ℕ) (o : Option ℕ) → IfSome o (λ due. m + n < due) → IfSome (less m o) (λ due. n < due)
due_less m n None h = tt
due_less m n (Some due) h = omega arith

-- what is due later than at a tick is due later than at one before
pub due_above : (m n : ℕ) (o : Option ℕ) → m ≤ n → IfSome o (λ due. n < due) → IfSome o (λ due. m < due)
due_above m n None le h = tt
due_above m n (Some due) le h = omega arith

pub vehicle_later : (m n : ℕ) (v : Vehicle) → IfSome (vehicle.due_of v) (λ due. m + n < due)
    → IfSome (vehicle.due_of (vehicle.aged m v)) (λ due. n < due)
vehicle_later m n v h =
    rw (vehicle_due_aged m v (due_above m (m + n) (vehicle.due_of v) (omega arith) h)) (due_less m n (vehicle.due_of v) h)

pub point_later : (m n : ℕ) (s : Point) → IfSome (point.due_of s) (λ due. m + n < due)
    → IfSome (point.due_of (point.aged m s)) (λ due. n < due)
point_later m n s h =
    rw (point_due_aged m s (due_above m (m + n) (point.due_of s) (omega arith) h)) (due_less m n (point.due_of s) h)

one_more : (n : ℕ) (o : Option ℕ) → IfSome o (λ due. suc n < due) → IfSome o (λ due. 1 + n < due)
one_more n o h = let e : 1 + n ≡ suc n = omega arith in rw e h

vehicle_suc : (n : ℕ) (v : Vehicle) → vehicle.aged n (vehicle.aged 1 v) ≡ vehicle.aged (suc n) v
vehicle_suc n v = let e : 1 + n ≡ suc n = omega arith in vehicle_again 1 n v ∙ ap (λ k. vehicle.aged k v) e

point_suc : (n : ℕ) (s : Point) → point.aged n (point.aged 1 s) ≡ point.aged (suc n) s
point_suc n s = let e : 1 + n ≡ suc n = omega arith in point_again 1 n s ∙ ap (λ k. point.aged k s) e

-- Ticks of one end of which only the last may bring something.

pub vehicle_acts : (n : ℕ) (v : Vehicle) → IfSome (vehicle.due_of v) (λ due. n < due)
    → vehicle.units (suc n) v ≡ vehicle.unit_row (vehicle.aged n v)
vehicle_acts zero v h =
    ap (λ (items : List Note). record { items = items; new = (vehicle.unit_row v).new }) (append-nil (vehicle.unit_row v).items)
    ∙ ap vehicle.acts (sym (vehicle_again 0 1 v))
vehicle_acts (suc n) v h =
    ap (λ (row : Row Vehicle). behind row.items (vehicle.units (suc n) row.new))
    (vehicle_quiet v (due_above 1 (suc n) (vehicle.due_of v) (omega arith) h))
    ∙ vehicle_acts n (vehicle.aged 1 v) (vehicle_later 1 n v (one_more n (vehicle.due_of v) h))
    ∙ ap vehicle.unit_row (vehicle_suc n v)

pub vehicle_at_due : (n : ℕ) (v : Vehicle) → vehicle.due_of v ≡ Some (suc n)
    → vehicle.units (suc n) v ≡ vehicle.unit_row (vehicle.aged n v)
vehicle_at_due n v e = vehicle_acts n v (rw e (omega arith))

pub point_acts : (n : ℕ) (s : Point) → IfSome (point.due_of s) (λ due. n < due)
    → point.units (suc n) s ≡ point.unit_row (point.aged n s)
point_acts zero s h =
    ap (λ (items : List Note). record { items = items; new = (point.unit_row s).new }) (append-nil (point.unit_row s).items)
    ∙ ap point.acts (sym (point_again 0 1 s))
point_acts (suc n) s h =
    ap (λ (row : Row Point). behind row.items (point.units (suc n) row.new))
    (point_quiet s (due_above 1 (suc n) (point.due_of s) (omega arith) h))
    ∙ point_acts n (point.aged 1 s) (point_later 1 n s (one_more n (point.due_of s) h))
    ∙ ap point.unit_row (point_suc n s)

pub point_at_due : (n : ℕ) (s : Point) → point.due_of s ≡ Some (suc n)
    → point.units (suc n) s ≡ point.unit_row (point.aged n s)
point_at_due n s e = point_acts n s (rw e (omega arith))
