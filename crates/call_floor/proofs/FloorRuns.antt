-- Whole runs of the floor: each vehicle's part is the trace of its lines.
use Rattle.std.proofs.Common.{◌≡◌, ℕ, zero, suc, Bool, true, false, List, [], ◌∷◌, ◌++◌, ◌==◌, ◌+◌, ◌≤◌, ◌<◌, Option, Some, None, IfSome, map, length, option_map, nat_lt, if◌then◌else◌, refl, ap, sym, ◌∙◌, subst, arith, append-nil, append_assoc, eqb-true, eq-eqb, ltb-true, ltb-false}
use Rattle.std.proofs.lemmas.Bool.{eqb-false}
use Rattle.std.proofs.lemmas.List.{map-append}
use Rattle.link_frames.specs.declared.note.Note.{Note}
use Rattle.link_frames.specs.declared.note.Note.TheVariants as note
use Rattle.link_frames.specs.Legs.{owner}
use Rattle.msd_fit.specs.declared.facts.Facts.{Facts}
use Rattle.trace_model.specs.declared.entry.Entry.{Entry}
use Rattle.trace_model.specs.declared.event.Event.{Event}
use Rattle.trace_model.specs.Safety.{Safe}
use Rattle.trace_fit.specs.Order as fit
use Rattle.channel_sim.specs.Tidy.{AreAbove}
use Rattle.channel_sim.specs.World.{World, Step, first_world}
use Rattle.channel_sim.specs.Lines.{step, world_after}
use Rattle.channel_sim.specs.Lines as lines
use Rattle.channel_sim.proofs.Whole.{first_fits, trace_fits}
use Rattle.call_floor.specs.declared.entry.FloorEntry.{FloorEntry}
use Rattle.call_floor.specs.declared.event.FloorEvent.{FloorEvent}
use Rattle.call_floor.specs.declared.event.FloorEvent.TheVariants as floor
use Rattle.call_floor.specs.FloorEvents.{vehicle_event, call_event}
use Rattle.call_floor.specs.Floor.{Floor, FloorStep, Stand, Turn, stand_of, own, own_of, drawn_by, turn, turn_in, plays, unit, units, vehicles_pass, sessions_pass, flows_up, vehicle_turns, session_turns, due_turns, calls_of, floor_with, first_stand, joined}
use Rattle.call_floor.specs.FloorKept.{IsPlaced, IsKept}
use Rattle.call_floor.specs.FloorLines.{drawn_for, in_call, floor_step, trace_from, floor_after}
use Rattle.call_floor.specs.Numbers.{note_with, entry_with}
use Rattle.call_floor.specs.Parts.{how_many, place, number, alone, only, own_entries, part, mine_one, mine, listed, step_if}
use Rattle.call_floor.proofs.Apart.{told_append}
use Rattle.call_floor.proofs.FloorSteps.{EntriesLow, StepApart, OwnOf, own_for, step_apart, kept_step}
use Rattle.call_floor.proofs.Places.{place_number, number_kept}
use Rattle.channel_sim.specs.World.{hands_up, hands_down}

-- The numbers drawn only become more.

pub record Grows (before later : List ℕ) : Type 0 where
  pub more : List ℕ
  pub is : later ≡ before ++ more

grows_none : (ds : List ℕ) → Grows ds ds
grows_none ds = record { more = []; is = sym (append-nil ds) }

grows_both : (a b c : List ℕ) → Grows a b → Grows b c → Grows a c
grows_both a b c x y =
    record { more = x.more ++ y.more; is = y.is ∙ ap (λ l. l ++ y.more) x.is ∙ append_assoc a x.more y.more }

grows_by : (v last : ℕ) (ds : List ℕ) → Grows ds (drawn_by v last ds)
grows_by v last ds =
    elim (nat_lt (length ds) last) as (λ b. Grows ds (if b then ds ++ v ∷ [] else ds)) [ true ↦ record { more = v ∷ []; is = refl } | false ↦ grows_none ds ]

turn_grows : (v : ℕ) (act : World → Step) (w : Floor) → Grows w.drawn (turn v act w).floor.drawn
turn_grows v act w = by (stand_of v w.stands)
  where
    by : (o : Option Stand) → Grows w.drawn (turn_in v act w o).floor.drawn
    by None = grows_none w.drawn
    by (Some s) = grows_by v (act (own w s)).world.drawn w.drawn

plays_grow : (ts : List Turn) (w : Floor) → Grows w.drawn (plays ts w).floor.drawn
plays_grow [] w = grows_none w.drawn
plays_grow (t ∷ ts) w =
    let x : Floor = (turn t.vehicle t.act w).floor in
    grows_both w.drawn x.drawn (plays ts x).floor.drawn (turn_grows t.vehicle t.act w) (plays_grow ts x)

unit_grows : (w : Floor) → Grows w.drawn (unit w).floor.drawn
unit_grows w =
    let w1 : Floor = record w { tick = w.tick + 1 } in
    let a : Floor = (vehicles_pass w1).floor in
    let b : Floor = (sessions_pass a).floor in
    let c : Floor = (flows_up b).floor in
    grows_both w.drawn c.drawn (unit w).floor.drawn
    (grows_both w.drawn b.drawn c.drawn
    (grows_both w.drawn a.drawn b.drawn (plays_grow (vehicle_turns w1.stands) w1) (plays_grow (session_turns (calls_of a)) a))
    (plays_grow (due_turns hands_up (λ k. k.up) b.up_flow b.tick (calls_of b)) b))
    (plays_grow (due_turns hands_down (λ k. k.down) c.down_flow c.tick (calls_of c)) c)

units_grow : (n : ℕ) (w : Floor) → Grows w.drawn (units n w).floor.drawn
units_grow zero w = grows_none w.drawn
units_grow (suc n) w =
    let x : Floor = (unit w).floor in
    grows_both w.drawn x.drawn (units n x).floor.drawn (unit_grows w) (units_grow n x)

step_grows : (w : Floor) (e : FloorEvent) → Grows w.drawn (floor_step w e).floor.drawn
step_grows w (floor.Vehicle a l) = turn_grows a (λ x. step x (vehicle_event l)) w
step_grows w (floor.Call c l) = named (drawn_for c w.drawn)
  where
    named : (o : Option ℕ) → Grows w.drawn (in_call (call_event c l) w o).floor.drawn
    named None = grows_none w.drawn
    named (Some a) = turn_grows a (λ x. step x (call_event c l)) w
step_grows w (floor.Flow true delay) = grows_none w.drawn
step_grows w (floor.Flow false delay) = grows_none w.drawn
step_grows w (floor.Tick n) = units_grow n w

after_grows : (w : Floor) (es : List FloorEvent) → Grows w.drawn (floor_after w es).drawn
after_grows w [] = grows_none w.drawn
after_grows w (e ∷ es) =
    let x : Floor = (floor_step w e).floor in
    grows_both w.drawn x.drawn (floor_after x es).drawn (step_grows w e) (after_grows x es)

-- Entries by numbers drawn before, with the places of now.

module _ (n : ℕ) (f g : ℕ → ℕ) (back : (k : ℕ) → k ≤ n → g (f k) ≡ k) where
  note_low : (x : Note) → fit.IsDrawn n (owner x) → note_with g (note_with f x) ≡ x
  note_low (note.Up e c) h = ap (note.Up e) (back c h)
  note_low (note.Down e c why) h = ap (λ x. note.Down e x why) (back c h)
  note_low (note.Voice e c up down) h = ap (λ x. note.Voice e x up down) (back c h)
  note_low (note.Send e c frame) h = ap (λ x. note.Send e x frame) (back c h)
  note_low (note.Shown c r octets) h = ap (λ x. note.Shown x r octets) (back c h)
  note_low (note.Acked c r octets) h = ap (λ x. note.Acked x r octets) (back c h)
  note_low (note.Ended e c timer) h = ap (λ x. note.Ended e x timer) (back c h)
  note_low (note.Fault e c) h = ap (note.Fault e) (back c h)
  note_low (note.Busy c) h = ap note.Busy (back c h)
  note_low (note.Spent c) h = ap note.Spent (back c h)
  note_low (note.Unshown c) h = ap note.Unshown (back c h)
  note_low _ h = refl

  entries_low : (es : List Entry) → EntriesLow n es → map (entry_with g) (map (entry_with f) es) ≡ es
  entries_low [] h = refl
  entries_low (x ∷ xs) h =
      ap (λ y. record x { note = y } ∷ map (entry_with g) (map (entry_with f) xs)) (note_low x.note h.0)
      ∙ ap (λ l. x ∷ l) (entries_low xs h.1)

-- the part of a step's entries is the same on every later floor
part_later : (v : ℕ) (s : FloorStep) (g : Step) (w : Floor) → StepApart v s g → Grows s.floor.drawn w.drawn → part w s.entries v ≡ g.entries
part_later v s g w its grown =
    let ds : List ℕ = s.floor.drawn in
    let back : (k : ℕ) → k ≤ how_many v ds → place v w.drawn (number v ds k) ≡ k =
    λ k low. ap (λ later. place v later (number v ds k)) grown.is ∙ ap (place v (ds ++ grown.more)) (sym (number_kept v ds grown.more k low)) ∙ place_number v (ds ++ grown.more) k in
    ap (map (entry_with (place v w.drawn))) its.under
    ∙ entries_low (how_many v ds) (number v ds) (place v w.drawn) back g.entries its.low

part_append : (v : ℕ) (w : Floor) (xs ys : List FloorEntry) → part w (xs ++ ys) v ≡ part w xs v ++ part w ys v
part_append v w xs ys =
    ap (map (entry_with (place v w.drawn))) (told_append v xs ys)
    ∙ map-append (entry_with (place v w.drawn)) (own_entries v xs) (own_entries v ys)

-- a line that is kept, or none
trace_listed : (m : Option Event) (es : List Event) (p : World) → lines.trace_from p (listed m ++ es) ≡ (step_if m p).entries ++ lines.trace_from (step_if m p).world es
trace_listed None es p = refl
trace_listed (Some e) es p = refl

world_listed : (m : Option Event) (es : List Event) (p : World) → world_after p (listed m ++ es) ≡ world_after (step_if m p).world es
world_listed None es p = refl
world_listed (Some e) es p = refl

-- one vehicle's part of a run, and its world behind it
pub record RunApart (v : ℕ) (w : Floor) (es : List FloorEvent) (p : World) : Type 0 where
  pub told : part (floor_after w es) (trace_from w es) v ≡ lines.trace_from p (mine w es v)
  pub world : only v (floor_after w es) ≡ Some (world_after p (mine w es v))

pub run_apart : (es : List FloorEvent) (w : Floor) (v : ℕ) (p : World) → IsKept w → only v w ≡ Some p → RunApart v w es p
run_apart [] w v p kept h = record { told = refl; world = h }
run_apart (e ∷ es) w v p kept h =
    let o : OwnOf v w p = own_for v w p kept h in
    let m : Option Event = mine_one v w e in
    let s : FloorStep = floor_step w e in
    let g : Step = step_if m p in
    let its : StepApart v s g = subst (λ (x : World). StepApart v s (step_if m x)) o.alone_is (step_apart v w o.own kept.order o.there o.placed e) in
    let rest : RunApart v s.floor es g.world = run_apart es s.floor v g.world (kept_step w e kept) (ap (option_map (alone v s.floor.drawn)) its.there ∙ ap Some its.world) in
    let last : Floor = floor_after s.floor es in
    record {
      told =
          part_append v last s.entries (trace_from s.floor es)
          ∙ ap (λ l. l ++ part last (trace_from s.floor es) v) (part_later v s g last its (after_grows s.floor es))
          ∙ ap (λ l. g.entries ++ l) rest.told
          ∙ sym (trace_listed m (mine s.floor es v) p);
      world = rest.world ∙ ap Some (sym (world_listed m (mine s.floor es v) p));
    }

pub kept_after : (es : List FloorEvent) (w : Floor) → IsKept w → IsKept (floor_after w es)
kept_after [] w kept = kept
kept_after (e ∷ es) w kept = kept_after es (floor_step w e).floor (kept_step w e kept)

-- The first floors.

pub none_kept : IsKept (floor_with [])
none_kept = record { order = tt; placed = λ v. tt }

joined_order : (s : Stand) (ss : List Stand) (n : ℕ) → n < s.number → stand_of s.number ss ≡ None → AreAbove n (map (λ (x : Stand). x.number) ss) → AreAbove n (map (λ (x : Stand). x.number) (joined s ss))
joined_order s [] n low away h = (low, tt)
joined_order s (x ∷ xs) n low away h = by (nat_lt s.number x.number) refl (x.number == s.number) refl (joined_order s xs x.number)
  where
    by : (b : Bool) → nat_lt s.number x.number ≡ b → (c : Bool) → (x.number == s.number) ≡ c → (x.number < s.number → stand_of s.number xs ≡ None → AreAbove x.number (map (λ (y : Stand). y.number) xs) → AreAbove x.number (map (λ (y : Stand). y.number) (joined s xs))) → AreAbove n (map (λ (y : Stand). y.number) (if b then s ∷ x ∷ xs else x ∷ joined s xs))
    by true e c f further = (low, (ltb-true s.number x.number e, h.1))
    by false e true f further = let there : Some x ≡ None = ap (λ b. if b then Some x else stand_of s.number xs) (sym f) ∙ away in cc
    by false e false f further =
        let least = ltb-false s.number x.number e in
        let differ = eqb-false x.number s.number f in
        (h.0, further (omega (arith, least, differ)) (ap (λ b. if b then Some x else stand_of s.number xs) (sym f) ∙ away) h.1)

joined_same : (s : Stand) (ss : List Stand) → stand_of s.number ss ≡ None → stand_of s.number (joined s ss) ≡ Some s
joined_same s [] away = ap (λ b. if b then Some s else None) (eq-eqb s.number s.number refl)
joined_same s (x ∷ xs) away = by (nat_lt s.number x.number) (x.number == s.number) refl (joined_same s xs)
  where
    by : (b c : Bool) → (x.number == s.number) ≡ c → (stand_of s.number xs ≡ None → stand_of s.number (joined s xs) ≡ Some s) → stand_of s.number (if b then s ∷ x ∷ xs else x ∷ joined s xs) ≡ Some s
    by true c f further = ap (λ z. if z then Some s else stand_of s.number (x ∷ xs)) (eq-eqb s.number s.number refl)
    by false true f further = let there : Some x ≡ None = ap (λ b. if b then Some x else stand_of s.number xs) (sym f) ∙ away in cc
    by false false f further =
        ap (λ b. if b then Some x else stand_of s.number (joined s xs)) f
        ∙ further (ap (λ b. if b then Some x else stand_of s.number xs) (sym f) ∙ away)

pub joined_other : (s : Stand) (v : ℕ) → (s.number == v) ≡ false → (ss : List Stand) → stand_of v (joined s ss) ≡ stand_of v ss
joined_other s v apart [] = ap (λ b. if b then Some s else None) apart
joined_other s v apart (x ∷ xs) = by (nat_lt s.number x.number) (joined_other s v apart xs)
  where
    by : (b : Bool) → stand_of v (joined s xs) ≡ stand_of v xs → stand_of v (if b then s ∷ x ∷ xs else x ∷ joined s xs) ≡ stand_of v (x ∷ xs)
    by true further = ap (λ z. if z then Some s else stand_of v (x ∷ xs)) apart
    by false further = ap (λ o. if x.number == v then Some x else o) further

first_placed : (v : ℕ) (known : Facts) (ss : List Stand) → IsPlaced v [] (own (floor_with ss) (first_stand v known))
first_placed v known ss = record { numbers = refl; last = omega arith; trace = []; fits = first_fits known }

pub joins_kept : (v : ℕ) (known : Facts) (ss : List Stand) → 0 < v → stand_of v ss ≡ None → IsKept (floor_with ss) → IsKept (floor_with (joined (first_stand v known) ss))
joins_kept v known ss low away kept =
    record {
      order = joined_order (first_stand v known) ss 0 low away kept.order;
      placed = λ a. by a (v == a) refl;
    }
  where
    by : (a : ℕ) (b : Bool) → (v == a) ≡ b → IfSome (own_of a (floor_with (joined (first_stand v known) ss))) (IsPlaced a [])
    by a true e =
        let here : v ≡ a = eqb-true v a e in
        subst (λ n. IfSome (own_of n (floor_with (joined (first_stand v known) ss))) (IsPlaced n [])) here
        (subst (λ o. IfSome (option_map (own (floor_with (joined (first_stand v known) ss))) o) (IsPlaced v [])) (sym (joined_same (first_stand v known) ss away)) (first_placed v known (joined (first_stand v known) ss)))
    by a false e =
        subst (λ o. IfSome (option_map (own (floor_with (joined (first_stand v known) ss))) o) (IsPlaced a [])) (sym (joined_other (first_stand v known) a e ss)) (kept.placed a)

pub joins_only : (v : ℕ) (known : Facts) (ss : List Stand) → stand_of v ss ≡ None → only v (floor_with (joined (first_stand v known) ss)) ≡ Some (first_world known)
joins_only v known ss away =
    ap (λ o. option_map (alone v []) (option_map (own (floor_with (joined (first_stand v known) ss))) o)) (joined_same (first_stand v known) ss away)

pub joins_others : (v : ℕ) (known : Facts) (ss : List Stand) (a : ℕ) → (v == a) ≡ false → only a (floor_with (joined (first_stand v known) ss)) ≡ only a (floor_with ss)
joins_others v known ss a apart =
    ap (λ o. option_map (alone a []) (option_map (own (floor_with (joined (first_stand v known) ss))) o)) (joined_other (first_stand v known) a apart ss)

-- Each part is safe.

only_tick : (v : ℕ) (w : Floor) (p : World) → only v w ≡ Some p → p.tick ≡ w.tick
only_tick v w p h = by (stand_of v w.stands) h
  where
    by : (o : Option Stand) → option_map (alone v w.drawn) (option_map (own w) o) ≡ Some p → p.tick ≡ w.tick
    by None e = cc
    by (Some s) e = let same : Some (alone v w.drawn (own w s)) ≡ Some p = e in ap (λ (x : World). x.tick) (sym (some_world (alone v w.drawn (own w s)) p same))
      where
        some_world : (x y : World) → Some x ≡ Some y → x ≡ y
        some_world x y f = cc

pub parts_safe : (es : List FloorEvent) (w : Floor) (v : ℕ) (known : Facts) → IsKept w → only v w ≡ Some (first_world known) → Safe (part (floor_after w es) (trace_from w es) v) (floor_after w es).tick
parts_safe es w v known kept h =
    let its : RunApart v w es (first_world known) = run_apart es w v (first_world known) kept h in
    subst (λ t. Safe t (floor_after w es).tick) (sym its.told)
    (subst (Safe (lines.trace known (mine w es v))) (only_tick v (floor_after w es) (world_after (first_world known) (mine w es v)) its.world) (trace_fits known (mine w es v)).safe)
