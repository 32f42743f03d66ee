-- How the relay desk reaches a tick, and what it writes on the way.
use Rattle.std.specs.Prelude.{◌≡◌, ◌<◌, ◌≤◌, ℕ, zero, suc, ◌+◌, ◌-◌, ◌↔◌, List, [], ◌∷◌, ◌++◌, map, length, take, drop, Option, None, IsNone, Result, Ok, Err, OnOk, OnErr}
use Rattle.std.specs.List.{AllByRecursion}
use Rattle.std.proofs.Common.{sym, ◌∙◌, ap, refl, arith, subst, get_or, append_assoc}
use Rattle.std.proofs.lemmas.List.{append-nil, take_more, take-append-drop}
use Rattle.call_io.specs.Bytes.{GrewPartly}
use Rattle.call_io.proofs.BytesLemmas.{Grew-nothing}
use Rattle.trace_model.specs.declared.entry.Entry.{Entry}
use Rattle.trace_model.specs.declared.listener.Deaf.{Deaf}
use Rattle.relay_desk.specs.Desk as desk
use Rattle.relay_desk.specs.Desk.{Desk, IsNextTurn, Row, older, quiet_row}
use Rattle.relay_desk.specs.RelayStands.{desk_of}
use Rattle.relay_desk.specs.declared.event.RelayNote.{RelayNote}
use Rattle.relay_desk.proofs.UnitLemmas.{Room, units_idle}
use Rattle.relay_text.specs.ItemLine.{item_line, text_with_desk}
use Rattle.relay_text.specs.ItemLine.{OfDesk}
use Rattle.relay_watch.specs.declared.clock.DeskClock.{DeskClock}
use Rattle.relay_watch.specs.Clocks.{Clock, Came, ComesNearer, IsTold, came_quietly, clock_of, elapses, entry_comes, meets, row_at}
use Rattle.relay_watch.specs.inner.ClockLaws.{elapses-add, elapses_at_once, partly_then, told_nothing, told_partly, told_then}

-- The items of a row, one line behind the other.

abbrev pub lines_at : ℕ → List RelayNote → List ℕ
lines_at tick notes = text_with_desk (map (OfDesk tick) notes)

lines_at-append : (tick : ℕ) (xs ys : List RelayNote) → lines_at tick (xs ++ ys) ≡ lines_at tick xs ++ lines_at tick ys
lines_at-append tick [] ys = refl
lines_at-append tick (x ∷ xs) ys =
    ap (λ t. item_line tick x ++ t) (lines_at-append tick xs ys)
    ∙ sym (append_assoc (item_line tick x) (lines_at tick xs) (lines_at tick ys))

pub lines_at-take_more : (tick : ℕ) (xs : List RelayNote) (i : ℕ) (d : RelayNote) → i < length xs
    → lines_at tick (take (i + 1) xs) ≡ lines_at tick (take i xs) ++ item_line tick (get_or xs i d)
lines_at-take_more tick xs i d inside =
    ap (lines_at tick) (take_more xs i d inside)
    ∙ lines_at-append tick (take i xs) (get_or xs i d ∷ [])
    ∙ ap (λ t. lines_at tick (take i xs) ++ t) (append-nil (item_line tick (get_or xs i d)))

pub lines_at-around : (tick : ℕ) (xs : List RelayNote) (i : ℕ) (d : RelayNote) → i < length xs
    → (lines_at tick (take i xs) ++ item_line tick (get_or xs i d)) ++ lines_at tick (drop (i + 1) xs)
    ≡ lines_at tick xs
lines_at-around tick xs i d inside =
    ap (λ front. front ++ lines_at tick (drop (i + 1) xs)) (sym (lines_at-take_more tick xs i d inside))
    ∙ sym (lines_at-append tick (take (i + 1) xs) (drop (i + 1) xs))
    ∙ ap (lines_at tick) (take-append-drop (i + 1) xs)

-- Up to the next turn, or to the tick.

units_none : (n : ℕ) (d : Desk) → d.pending ≡ [] → desk.units n d ≡ quiet_row d
units_none n d none =
    units_idle n d (subst (AllByRecursion (Room (n + 1))) (sym none) tt)
    ∙ ap (λ ps. quiet_row (record d { pending = map (older n) ps })) none
    ∙ ap (λ ps. quiet_row (record d { pending = ps })) (sym none)

elapses_none : (n : ℕ) (c : Clock) → c.desk.pending ≡ [] → ((m : ℕ) → (desk.units m c.desk).items ≡ [])
    → elapses n c ≡ came_quietly (record { desk = c.desk; tick = c.tick + n })
elapses_none n c none quiet =
    elapses_at_once n c (λ m less. quiet m) ∙ ap (row_at (c.tick + n)) (units_none n c.desk none)

pub nearer_none : (old new : DeskClock) (target : ℕ) (held : Option (List ℕ)) → old.tick < target
    → (desk_of old.relay).pending ≡ [] → ((m : ℕ) → (desk.units m (desk_of old.relay)).items ≡ [])
    → clock_of new ≡ record { desk = desk_of old.relay; tick = target }
    → ComesNearer old new target held held
nearer_none old new target held less none quiet is =
    let at : new.tick ≡ target = ap (λ c. c.tick) is in
    let e = elapses_none (new.tick - old.tick) (clock_of old) none quiet in
    let there : old.tick + (new.tick - old.tick) ≡ target = omega (arith, at, less) in
    record {
      later = omega (arith, at, less);
      within = omega (arith, at);
      told =
          subst (λ (r : Came). IsTold r new held held) (sym e)
          (record {
            clock = is ∙ ap (λ t. record { desk = desk_of old.relay; tick = t }) (sym there);
            wrote = Grew-nothing held;
          });
    }

pub nearer_some : (old new : DeskClock) (target n : ℕ) (held held' : Option (List ℕ)) → 0 < n
    → n ≤ target - old.tick → ((m : ℕ) → m < n → (desk.units m (desk_of old.relay)).items ≡ [])
    → IsTold (row_at (old.tick + n) (desk.units n (desk_of old.relay))) new held held'
    → ComesNearer old new target held held'
nearer_some old new target n held held' some within quiet told =
    let at : new.tick ≡ old.tick + n = ap (λ c. c.tick) told.clock in
    let e = elapses_at_once n (clock_of old) quiet in
    let same : n ≡ new.tick - old.tick = omega (arith, at) in
    record {
      later = omega (arith, at, some);
      within = omega (arith, at, within, some);
      told =
          subst (λ (k : ℕ). IsTold (elapses k (clock_of old)) new held held') same
          (subst (λ (r : Came). IsTold r new held held') (sym e) told);
    }

pub partly_some : (old : DeskClock) (target n : ℕ) (held held' : Option (List ℕ)) → n ≤ target - old.tick
    → ((m : ℕ) → m < n → (desk.units m (desk_of old.relay)).items ≡ [])
    → GrewPartly held held' (text_with_desk (row_at (old.tick + n) (desk.units n (desk_of old.relay))).items)
    → GrewPartly held held' (text_with_desk (elapses (target - old.tick) (clock_of old)).items)
partly_some old target n held held' within quiet part =
    let rest : ℕ = (target - old.tick) - n in
    let all : n + rest ≡ target - old.tick = omega (arith, within) in
    let e = elapses_at_once n (clock_of old) quiet in
    subst (λ (k : ℕ). GrewPartly held held' (text_with_desk (elapses k (clock_of old)).items)) all
    (subst (λ (r : Came). GrewPartly held held' (text_with_desk r.items)) (sym (elapses-add rest n (clock_of old)))
    (partly_then (elapses n (clock_of old)) (elapses rest) held held'
    (subst (λ (r : Came). GrewPartly held held' (text_with_desk r.items)) (sym e) part)))

-- Step by step to a tick.

pub reach_first : (kept : DeskClock) (held : Option (List ℕ))
    → IsTold (elapses (kept.tick - kept.tick) (clock_of kept)) kept held held
reach_first kept held =
    let e : 0 ≡ kept.tick - kept.tick = omega arith in
    subst (λ (n : ℕ). IsTold (elapses n (clock_of kept)) kept held held) e (told_nothing kept held)

pub reach_more : (old mid new : DeskClock) (target : ℕ) (h h1 h2 : Option (List ℕ)) → old.tick ≤ mid.tick
    → IsTold (elapses (mid.tick - old.tick) (clock_of old)) mid h h1 → ComesNearer mid new target h1 h2
    → IsTold (elapses (new.tick - old.tick) (clock_of old)) new h h2
reach_more old mid new target h h1 h2 le first next =
    let all : (mid.tick - old.tick) + (new.tick - mid.tick) ≡ new.tick - old.tick = omega (arith, le, next.later) in
    subst (λ (n : ℕ). IsTold (elapses n (clock_of old)) new h h2) all
    (subst (λ (r : Came). IsTold r new h h2)
    (sym (elapses-add (new.tick - mid.tick) (mid.tick - old.tick) (clock_of old)))
    (told_then (elapses (mid.tick - old.tick) (clock_of old)) (elapses (new.tick - mid.tick)) mid new h h1 h2 first
    next.told))

pub reach_partly : (old mid : DeskClock) (target : ℕ) (h h1 h2 : Option (List ℕ)) → old.tick ≤ mid.tick
    → mid.tick < target → IsTold (elapses (mid.tick - old.tick) (clock_of old)) mid h h1
    → GrewPartly h1 h2 (text_with_desk (elapses (target - mid.tick) (clock_of mid)).items)
    → GrewPartly h h2 (text_with_desk (elapses (target - old.tick) (clock_of old)).items)
reach_partly old mid target h h1 h2 le less first part =
    let all : (mid.tick - old.tick) + (target - mid.tick) ≡ target - old.tick = omega (arith, le, less) in
    subst (λ (n : ℕ). GrewPartly h h2 (text_with_desk (elapses n (clock_of old)).items)) all
    (subst (λ (r : Came). GrewPartly h h2 (text_with_desk r.items))
    (sym (elapses-add (target - mid.tick) (mid.tick - old.tick) (clock_of old)))
    (told_partly (elapses (mid.tick - old.tick) (clock_of old)) (elapses (target - mid.tick)) mid h h1 h2 first part))

pub reach_all : (old new : DeskClock) (target : ℕ) (h h' : Option (List ℕ)) → old.tick ≤ new.tick
    → new.tick - old.tick ≤ target - old.tick → (new.tick < target → ⊥)
    → IsTold (elapses (new.tick - old.tick) (clock_of old)) new h h'
    → IsTold (elapses (target - old.tick) (clock_of old)) new h h'
reach_all old new target h h' le within done told =
    let same : new.tick - old.tick ≡ target - old.tick = omega (arith, le, within, done) in
    subst (λ (n : ℕ). IsTold (elapses n (clock_of old)) new h h') same told

-- One step of a desk of which something is due.

pub none_pending : (o : Option ℕ) (d : Desk) → o ≡ None → IsNone o ↔ (d.pending ≡ []) → d.pending ≡ []
none_pending o d none both = both.0 (subst IsNone (sym none) refl)

quiet_before : (d : Desk) (due n : ℕ) → IsNextTurn due d → n ≤ due → (m : ℕ) → m < n → (desk.units m d).items ≡ []
quiet_before d due n next le m less = next.quiet m (omega (arith, le, less))

is_some_tick : (d : Desk) (due : ℕ) → IsNextTurn due d → 0 < due
is_some_tick d zero next = absurd (next.gives refl)
is_some_tick d (suc n) next = omega arith

pub go_ok : (old new : DeskClock) (target n due units : ℕ) (h h' : Option (List ℕ)) → old.tick < target
    → IsNextTurn due (desk_of old.relay) → n ≤ due → n ≤ target - old.tick
    → (0 < due → 0 < target - old.tick → 0 < n) → units ≡ n → (r : Result (Unit {0}) Deaf)
    → OnOk r (IsTold (row_at (old.tick + units) (desk.units n (desk_of old.relay))) new h h')
    → OnOk r (ComesNearer old new target h h')
go_ok old new target n due units h h' less next le left some same (Ok done) told =
    let first : 0 < due = is_some_tick (desk_of old.relay) due next in
    nearer_some old new target n h h' (some first (omega (arith, less))) left
    (quiet_before (desk_of old.relay) due n next le)
    (subst (λ (k : ℕ). IsTold (row_at (old.tick + k) (desk.units n (desk_of old.relay))) new h h') same told)
go_ok old new target n due units h h' less next le left some same (Err e) told = tt

pub go_err : (old : DeskClock) (target n due units : ℕ) (h h' : Option (List ℕ))
    → IsNextTurn due (desk_of old.relay) → n ≤ due → n ≤ target - old.tick → units ≡ n → (r : Result (Unit {0}) Deaf)
    → OnErr r (GrewPartly h h' (text_with_desk (row_at (old.tick + units) (desk.units n (desk_of old.relay))).items))
    → OnErr r (GrewPartly h h' (text_with_desk (elapses (target - old.tick) (clock_of old)).items))
go_err old target n due units h h' next le left same (Ok done) part = tt
go_err old target n due units h h' next le left same (Err e) part =
    partly_some old target n h h' left (quiet_before (desk_of old.relay) due n next le)
    (subst (λ (k : ℕ).
    GrewPartly h h' (text_with_desk (row_at (old.tick + k) (desk.units n (desk_of old.relay))).items)) same part)

-- The ticks before an entry, and then the entry.

pub meet_ok : (old mid new : DeskClock) (x : Entry) (h h1 h2 : Option (List ℕ)) (t : ℕ) → t ≡ x.tick - 1
    → IsTold (elapses (t - old.tick) (clock_of old)) mid h h1 → (r : Result (Unit {0}) Deaf)
    → OnOk r (IsTold (entry_comes x (clock_of mid)) new h1 h2)
    → OnOk r (IsTold (meets x (clock_of old)) new h h2)
meet_ok old mid new x h h1 h2 t is first (Ok done) told =
    told_then (elapses (x.tick - 1 - old.tick) (clock_of old)) (entry_comes x) mid new h h1 h2
    (subst (λ (k : ℕ). IsTold (elapses (k - old.tick) (clock_of old)) mid h h1) is first) told
meet_ok old mid new x h h1 h2 t is first (Err e) told = tt

pub meet_err : (old mid : DeskClock) (x : Entry) (h h1 h2 : Option (List ℕ)) (t : ℕ) → t ≡ x.tick - 1
    → IsTold (elapses (t - old.tick) (clock_of old)) mid h h1 → (r : Result (Unit {0}) Deaf)
    → OnErr r (GrewPartly h1 h2 (text_with_desk (entry_comes x (clock_of mid)).items))
    → OnErr r (GrewPartly h h2 (text_with_desk (meets x (clock_of old)).items))
meet_err old mid x h h1 h2 t is first (Ok done) part = tt
meet_err old mid x h h1 h2 t is first (Err e) part =
    told_partly (elapses (x.tick - 1 - old.tick) (clock_of old)) (entry_comes x) mid h h1 h2
    (subst (λ (k : ℕ). IsTold (elapses (k - old.tick) (clock_of old)) mid h h1) is first) part

pub meet_cut : (old : DeskClock) (x : Entry) (h h1 : Option (List ℕ)) (t : ℕ) → t ≡ x.tick - 1
    → GrewPartly h h1 (text_with_desk (elapses (t - old.tick) (clock_of old)).items)
    → GrewPartly h h1 (text_with_desk (meets x (clock_of old)).items)
meet_cut old x h h1 t is part =
    partly_then (elapses (x.tick - 1 - old.tick) (clock_of old)) (entry_comes x) h h1
    (subst (λ (k : ℕ). GrewPartly h h1 (text_with_desk (elapses (k - old.tick) (clock_of old)).items)) is part)
