-- The table of a trace with one more entry.
use Rattle.std.proofs.Common.{◌≡◌, ℕ, ◌==◌, ◌||◌, not, Bool, true, false, cond, List, [], ◌∷◌, ◌++◌, map, slice_get, Option, Some, None, refl, sym, ap, ◌∙◌}
use Rattle.std.specs.List.{cons_option, filter_map}
use Rattle.std.specs.Option.{option_or}
use Rattle.std.proofs.lemmas.List.{append-nil}
use Rattle.std.proofs.lemmas.List.Elements.{filter-append, filter_map-append}
use borrow.Author.Tests.{eqb-true}
use Rattle.trace_model.specs.declared.entry.Entry.{Entry}
use Rattle.call_register.specs.Rows.{Row, Rows}
use Rattle.call_register.specs.Table.{call_up, endings_of, ending_in, others, row_of, rows_with, set_in, table}
use Rattle.call_register.specs.inner.Heard.{arrived, has_call, heard, listed, row_behind}
use Rattle.call_register.specs.declared.record.Ending.{Ending}

-- ---- one row

only : {X Y : Type 0} (f : X → Option Y) (x : X) → filter_map f (x ∷ []) ≡ listed (f x)
only {X} {Y} f x = by (f x)
  where
    by : (o : Option Y) → cons_option o [] ≡ listed o
    by None = refl
    by (Some y) = refl

one_more : {X Y : Type 0} (f : X → Option Y) (xs : List X) (x : X) →
    filter_map f (xs ++ x ∷ []) ≡ filter_map f xs ++ listed (f x)
one_more f xs x = filter_map-append f xs (x ∷ []) ∙ ap (λ l. filter_map f xs ++ l) (only f x)

first_more : (endings : List Ending) (o : Option Ending) →
    slice_get (endings ++ listed o) 0 ≡ option_or (slice_get endings 0) o
first_more [] None = refl
first_more [] (Some x) = refl
first_more (x ∷ xs) o = refl

-- the row of a call with one more entry behind it
row_more : (call from : ℕ) (xs : List Entry) (x : Entry) →
    (call, row_of call from (xs ++ x ∷ [])) ≡ row_behind x (call, row_of call from xs)
row_more call from xs x =
    let sets = one_more (λ y. set_in call y.tick y.note) xs x in
    let endings = one_more (λ y. ending_in call y.tick y.note) xs x in
    let ending = ap (λ l. slice_get l 0) endings ∙ first_more (endings_of call xs) (ending_in call x.tick x.note) in
    λ i. (call, record { from = from; sets = sets i; ending = ending i })

-- ---- the rows of the others

pass : (b : Bool) (x : Entry) (row : ℕ × Row) (rows : Rows) →
    cond b (row_behind x row ∷ map (row_behind x) rows) (map (row_behind x) rows)
    ≡ map (row_behind x) (cond b (row ∷ rows) rows)
pass true x row rows = refl
pass false x row rows = refl

-- the others behind one more entry
others_behind : (call : ℕ) (x : Entry) (rows : Rows) →
    others call (map (row_behind x) rows) ≡ map (row_behind x) (others call rows)
others_behind call x [] = refl
others_behind call x (row ∷ rows) =
    ap (λ l. cond (not (row.0 == call)) (row_behind x row ∷ l) l) (others_behind call x rows)
    ∙ pass (not (row.0 == call)) x row (others call rows)

-- a call is that one, or among the others, where it is that one or among all
among : (call c : ℕ) (rows : Rows) → ((c == call) || has_call c (others call rows)) ≡ ((c == call) || has_call c rows)
among call c [] = refl
among call c (row ∷ rows) = by (row.0 == call) refl (among call c rows)
  where
    absorb : (p q : Bool) → (p || q) ≡ (p || (p || q))
    absorb true q = refl
    absorb false q = refl

    later : (p q r s : Bool) → (p || r) ≡ (p || s) → (p || (q || r)) ≡ (p || (q || s))
    later true q r s e = refl
    later false q r s e = ap (λ b. q || b) e

    by : (b : Bool) → (row.0 == call) ≡ b
        → ((c == call) || has_call c (others call rows)) ≡ ((c == call) || has_call c rows)
        → ((c == call) || has_call c (cond (not b) (row ∷ others call rows) (others call rows)))
        ≡ ((c == call) || has_call c (row ∷ rows))
    by true e below =
        below ∙ absorb (c == call) (has_call c rows)
        ∙ ap (λ d. (c == call) || ((c == d) || has_call c rows)) (sym (eqb-true row.0 call e))
    by false e below = later (c == call) (c == row.0) (has_call c (others call rows)) (has_call c rows) below

-- ---- a call that comes up

-- a new row, if there is none of its call
abbrev unless_there : Bool → Rows → ℕ × Row → Rows
unless_there has rows new = cond has rows (rows ++ new ∷ [])

joins : (head new : ℕ × Row) (rows rest : Rows) (same has : Bool) → others head.0 rows ≡ rest
    → others head.0 (new ∷ []) ≡ cond same [] (new ∷ [])
    → head ∷ others head.0 (unless_there has rows new) ≡ unless_there (same || has) (head ∷ rest) new
joins head new rows rest true true is alone = ap (λ l. head ∷ l) is
joins head new rows rest false true is alone = ap (λ l. head ∷ l) is
joins head new rows rest true false is alone =
    let parts = filter-append (λ row. not (row.0 == head.0)) rows (new ∷ []) in
    let front = ap (λ l. others head.0 rows ++ l) alone ∙ append-nil (others head.0 rows) in
    ap (λ l. head ∷ l) (parts ∙ front ∙ is)
joins head new rows rest false false is alone =
    let parts = filter-append (λ row. not (row.0 == head.0)) rows (new ∷ []) in
    ap (λ l. head ∷ l) (parts ∙ ap (λ l. others head.0 rows ++ l) alone ∙ ap (λ l. l ++ new ∷ []) is)

alone : (call : ℕ) (new : ℕ × Row) → others call (new ∷ []) ≡ cond (new.0 == call) [] (new ∷ [])
alone call new = by (new.0 == call)
  where
    by : (b : Bool) → cond (not b) (new ∷ []) [] ≡ cond b [] (new ∷ [])
    by true = refl
    by false = refl

-- what comes up behind a row comes up among the others
arrives : (o : Option ℕ) (tick : ℕ) (head : ℕ × Row) (rows : Rows) →
    head ∷ others head.0 (arrived o tick rows) ≡ arrived o tick (head ∷ others head.0 rows)
arrives None tick head rows = refl
arrives (Some c) tick head rows =
    let new : ℕ × Row = (c, row_of c tick []) in
    joins head new rows (others head.0 rows) (c == head.0) (has_call c rows) refl (alone head.0 new)
    ∙ ap (λ b. unless_there b (head ∷ others head.0 rows) new) (sym (among head.0 c rows))

-- ---- the whole table

step : (o : Option ℕ) (tick : ℕ) (xs : List Entry) (x : Entry) (rows : Rows) →
    rows_with o tick (xs ++ x ∷ []) (heard rows x) ≡ heard (rows_with o tick xs rows) x
step None tick xs x rows = refl
step (Some call) tick xs x rows =
    let head = row_behind x (call, row_of call tick xs) in
    ap (λ row. row ∷ others call (heard rows x)) (row_more call tick xs x)
    ∙ arrives (call_up x.note) x.tick head (map (row_behind x) rows)
    ∙ ap (λ l. arrived (call_up x.note) x.tick (head ∷ l)) (others_behind call x rows)

first : (o : Option ℕ) (tick : ℕ) → rows_with o tick [] [] ≡ arrived o tick []
first None tick = refl
first (Some call) tick = refl

-- the table of a trace with one more entry is the table with that entry heard
pub table-behind : (xs : List Entry) (x : Entry) → table (xs ++ x ∷ []) ≡ heard (table xs) x
unfolding table
table-behind [] x = first (call_up x.note) x.tick
table-behind (y ∷ xs) x =
    ap (rows_with (call_up y.note) y.tick (xs ++ x ∷ [])) (table-behind xs x)
    ∙ step (call_up y.note) y.tick xs x (table xs)
