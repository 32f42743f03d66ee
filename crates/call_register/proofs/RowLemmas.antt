-- What an entry of each kind does to the rows, and what is kept of a call by its number.
use Rattle.std.proofs.Common.{◌≡◌, ◌≢◌, ℕ, ◌==◌, ◌||◌, Bool, true, false, cond, List, [], ◌∷◌, ◌++◌, map, Option, Some, None, refl, sym, ap, ◌∙◌, nat_eq, is_some, subst}
use Rattle.std.specs.Option.{option_or}
use Rattle.std.specs.List.{AllByRecursion, IsDistinct}
use Rattle.std.specs.Map.{keys_of, lookup, set_value}
use Rattle.std.proofs.lemmas.List.{append-nil}
use Rattle.std.proofs.lemmas.Map.Keys.{IsDistinct-head, IsDistinct-tail}
use borrow.Author.Tests.{eqb-true}
use Rattle.link_frames.specs.declared.frame.End.{End}
use Rattle.link_frames.specs.declared.frame.End.TheVariants as «end»
use Rattle.link_frames.specs.declared.note.Note.{Note}
use Rattle.link_frames.specs.declared.note.Note.TheVariants as note
use Rattle.link_frames.specs.declared.note.Why.{Why}
use Rattle.call_register.specs.Rows.{Row, Rows}
use Rattle.call_register.specs.Table.{row_of}
use Rattle.call_register.specs.inner.Heard.{at_call, has_call, heard, listed, with_call, with_ending, with_set}
use Rattle.call_register.specs.declared.record.Ending.{Ending}
use Rattle.call_register.specs.declared.record.ShownSet.{ShownSet}

-- ---- entries

or_none : {X : Type 0} (o : Option X) → option_or o None ≡ o
or_none None = refl
or_none (Some x) = refl

-- the row where neither a set nor an end is told of it
abbrev unchanged : ℕ × Row → ℕ × Row
unchanged row = (row.0, record { from = row.1.from; sets = row.1.sets ++ []; ending = option_or row.1.ending None })

kept : (row : ℕ × Row) → unchanged row ≡ row
kept row =
    let sets = append-nil row.1.sets in
    let ending = or_none row.1.ending in
    λ i. (row.0, record { from = row.1.from; sets = sets i; ending = ending i })

kept_all : (rows : Rows) → map unchanged rows ≡ rows
kept_all [] = refl
kept_all (row ∷ rows) = λ i. kept row i ∷ kept_all rows i

shown_row : (set : ShownSet) (row : ℕ × Row) (b : Bool) →
    ◌≡◌ {A = ℕ × Row} (
      row.0,
      record {
        from = row.1.from;
        sets = row.1.sets ++ listed (cond b (Some set) None);
        ending = option_or row.1.ending None;
      },
    )
    (row.0, cond b (with_set set row.1) row.1)
shown_row set row true =
    let ending = or_none row.1.ending in
    λ i. (row.0, record { from = row.1.from; sets = row.1.sets ++ set ∷ []; ending = ending i })
shown_row set row false = kept row

ended_row : (ending : Ending) (row : ℕ × Row) (b : Bool) →
    ◌≡◌ {A = ℕ × Row} (
      row.0,
      record {
        from = row.1.from;
        sets = row.1.sets ++ [];
        ending = option_or row.1.ending (cond b (Some ending) None);
      },
    )
    (row.0, cond b (with_ending ending row.1) row.1)
ended_row ending row true =
    let sets = append-nil row.1.sets in
    λ i. (row.0, record { from = row.1.from; sets = sets i; ending = option_or row.1.ending (Some ending) })
ended_row ending row false = kept row

-- a set is shown
pub heard-shown : (call tick request : ℕ) (octets : List ℕ) (rows : Rows) →
    heard rows (record { tick = tick; note = note.Shown call request octets })
    ≡ at_call call (with_set (record { tick = tick; request = request; octets = octets })) rows
heard-shown call tick request octets [] = refl
heard-shown call tick request octets (row ∷ rows) =
    let one = shown_row (record { tick = tick; request = request; octets = octets }) row (call == row.0) in
    let rest = heard-shown call tick request octets rows in
    λ i. one i ∷ rest i

heard-down : (call tick : ℕ) (why : Why) (rows : Rows) →
    heard rows (record { tick = tick; note = note.Down «end».Point call why })
    ≡ at_call call (with_ending (record { tick = tick; why = why })) rows
heard-down call tick why [] = refl
heard-down call tick why (row ∷ rows) =
    let one = ended_row (record { tick = tick; why = why }) row (call == row.0) in
    let rest = heard-down call tick why rows in
    λ i. one i ∷ rest i

-- the point's leg goes down
pub heard-point_down : (e : End) (call tick : ℕ) (why : Why) (rows : Rows) → e ≡ «end».Point
    → at_call call (with_ending (record { tick = tick; why = why })) rows
    ≡ heard rows (record { tick = tick; note = note.Down e call why })
heard-point_down «end».Point call tick why rows is = sym (heard-down call tick why rows)
heard-point_down «end».Vehicle call tick why rows is = cc

-- a call comes up at the point
pub heard-point_up : (e : End) (call tick : ℕ) (rows : Rows) → e ≡ «end».Point
    → with_call call tick rows ≡ heard rows (record { tick = tick; note = note.Up e call })
heard-point_up «end».Point call tick rows is = ap (with_call call tick) (sym (kept_all rows))
heard-point_up «end».Vehicle call tick rows is = cc

-- a call comes up at the vehicle, or the vehicle's leg goes down
pub heard-vehicle_up : (e : End) (call tick : ℕ) (rows : Rows) → e ≡ «end».Vehicle
    → rows ≡ heard rows (record { tick = tick; note = note.Up e call })
heard-vehicle_up «end».Vehicle call tick rows is = sym (kept_all rows)
heard-vehicle_up «end».Point call tick rows is = cc

pub heard-vehicle_down : (e : End) (call tick : ℕ) (why : Why) (rows : Rows) → e ≡ «end».Vehicle
    → rows ≡ heard rows (record { tick = tick; note = note.Down e call why })
heard-vehicle_down «end».Vehicle call tick why rows is = sym (kept_all rows)
heard-vehicle_down «end».Point call tick why rows is = cc

-- any other item
pub heard-other : (n : Note) (tick : ℕ) (rows : Rows) → ((e : End) (c : ℕ) → n ≢ note.Up e c)
    → ((e : End) (c : ℕ) (w : Why) → n ≢ note.Down e c w) → ((c r : ℕ) (o : List ℕ) → n ≢ note.Shown c r o)
    → heard rows (record { tick = tick; note = n }) ≡ rows
heard-other (note.Up e c) tick rows up down shown = absurd (up e c refl)
heard-other (note.Down e c w) tick rows up down shown = absurd (down e c w refl)
heard-other (note.Shown c r o) tick rows up down shown = absurd (shown c r o refl)
heard-other _ tick rows up down shown = kept_all rows

-- ---- by number

-- whether there is a row of a call
has_call-lookup : (call : ℕ) (rows : Rows) → has_call call rows ≡ is_some (lookup (nat_eq call) rows)
has_call-lookup call [] = refl
has_call-lookup call (row ∷ rows) = by (call == row.0) (has_call-lookup call rows)
  where
    by : (b : Bool) → has_call call rows ≡ is_some (lookup (nat_eq call) rows)
        → (b || has_call call rows) ≡ is_some (cond b (Some row.1) (lookup (nat_eq call) rows))
    by true below = refl
    by false below = below

-- a call that isn't there changes nothing
at_call-absent : (call : ℕ) (change : Row → Row) (rows : Rows) → lookup (nat_eq call) rows ≡ None
    → at_call call change rows ≡ rows
at_call-absent call change [] none = refl
at_call-absent call change (row ∷ rows) none = by (call == row.0) none (at_call-absent call change rows)
  where
    by : (b : Bool) → cond b (Some row.1) (lookup (nat_eq call) rows) ≡ None
        → (lookup (nat_eq call) rows ≡ None → at_call call change rows ≡ rows)
        → (row.0, cond b (change row.1) row.1) ∷ at_call call change rows ≡ row ∷ rows
    by true h below = cc
    by false h below = ap (λ l. row ∷ l) (below h)

apart : (call : ℕ) (rows : Rows) → AllByRecursion (λ y. nat_eq call y ≡ false) (keys_of rows)
    → lookup (nat_eq call) rows ≡ None
apart call [] h = refl
apart call (row ∷ rows) h = ap (λ b. cond b (Some row.1) (lookup (nat_eq call) rows)) h.0 ∙ apart call rows h.1

-- where each call stands once, its row alone changes
at_call-present : (call : ℕ) (change : Row → Row) (rows : Rows) → IsDistinct nat_eq (keys_of rows) → (row : Row)
    → lookup (nat_eq call) rows ≡ Some row
    → set_value (nat_eq call) rows (change row) ≡ at_call call change rows
at_call-present call change [] once row is = cc
at_call-present call change (head ∷ rows) once row is =
    let later = IsDistinct-tail nat_eq head.0 (keys_of rows) once in
    by (call == head.0) refl is (at_call-present call change rows later row)
  where
    alone : call ≡ head.0 → at_call call change rows ≡ rows
    alone same =
        let P : ℕ → Type 0 = λ c. AllByRecursion (λ y. nat_eq c y ≡ false) (keys_of rows) in
        let first = IsDistinct-head nat_eq head.0 (keys_of rows) once in
        at_call-absent call change rows (apart call rows (subst P (sym same) first))

    by : (b : Bool) → (call == head.0) ≡ b → cond b (Some head.1) (lookup (nat_eq call) rows) ≡ Some row
        → (lookup (nat_eq call) rows ≡ Some row → set_value (nat_eq call) rows (change row) ≡ at_call call change rows)
        → cond b ((head.0, change row) ∷ rows) (head ∷ set_value (nat_eq call) rows (change row))
        ≡ (head.0, cond b (change head.1) head.1) ∷ at_call call change rows
    by true e h below =
        let same : head.1 ≡ row = cc in
        λ i. (head.0, change (sym same i)) ∷ sym (alone (eqb-true call head.0 e)) i
    by false e h below = ap (λ l. head ∷ l) (below h)

-- a call that is there doesn't come up again
pub with_call-there : (call tick : ℕ) (rows : Rows) → is_some (lookup (nat_eq call) rows) ≡ true
    → rows ≡ with_call call tick rows
with_call-there call tick rows there =
    ap (λ b. cond b rows (rows ++ (call, row_of call tick []) ∷ [])) (sym (has_call-lookup call rows ∙ there))

-- a new call is the last one
pub with_call-new : (call tick : ℕ) (rows : Rows) → is_some (lookup (nat_eq call) rows) ≡ false
    → rows ++ (call, row_of call tick []) ∷ [] ≡ with_call call tick rows
with_call-new call tick rows none =
    ap (λ b. cond b rows (rows ++ (call, row_of call tick []) ∷ [])) (sym (has_call-lookup call rows ∙ none))

pub none_from_some : {X : Type 0} (o : Option X) → is_some o ≡ false → o ≡ None
none_from_some None h = refl
none_from_some (Some x) h = cc

same : (row : ℕ × Row) (b : Bool) → ◌≡◌ {A = ℕ × Row} (row.0, cond b row.1 row.1) row
same row true = refl
same row false = refl

at_call-same : (call : ℕ) (rows : Rows) → at_call call (λ r. r) rows ≡ rows
at_call-same call [] = refl
at_call-same call (row ∷ rows) =
    let one = same row (call == row.0) in
    let rest = at_call-same call rows in
    λ i. one i ∷ rest i

-- where there is no row of a call, none was written
pub unwritten : (call : ℕ) (change : Row → Row) (rows before : Rows) → None ≡ lookup (nat_eq call) rows
    → rows ≡ before → before ≡ at_call call change before
unwritten call change rows before none is =
    sym is ∙ sym (at_call-absent call change rows (sym none)) ∙ ap (at_call call change) is

-- what was written to the row of a call is its change
pub written : (call : ℕ) (change : Row → Row) (rows before new : Rows) (kept w : Row)
    → IsDistinct nat_eq (keys_of rows) → Some kept ≡ lookup (nat_eq call) rows
    → rows ≡ before → new ≡ set_value (nat_eq call) rows w → w ≡ change kept → new ≡ at_call call change before
written call change rows before new kept w once found is wrote changed =
    wrote ∙ ap (set_value (nat_eq call) rows) changed ∙ at_call-present call change rows once kept (sym found)
    ∙ ap (at_call call change) is

-- what was written back as it was changes nothing
pub written_back : (call : ℕ) (rows before new : Rows) (kept w : Row) → IsDistinct nat_eq (keys_of rows)
    → Some kept ≡ lookup (nat_eq call) rows
    → rows ≡ before → new ≡ set_value (nat_eq call) rows w → w ≡ kept → new ≡ before
written_back call rows before new kept w once found is wrote kept_is =
    written call (λ r. r) rows before new kept w once found is wrote kept_is ∙ at_call-same call before
