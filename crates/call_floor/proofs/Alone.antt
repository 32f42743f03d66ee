-- Worlds under other numbers and back, and what a vehicle's own world keeps while it moves, or another does.
use Rattle.std.proofs.Common.{◌≡◌, ℕ, suc, pred, Bool, true, false, List, [], ◌∷◌, ◌++◌, ◌==◌, ◌+◌, ◌-◌, ◌≤◌, Option, Some, None, IfSome, map, length, option_map, nat_lt, if◌then◌else◌, refl, ap, sym, ◌∙◌, subst, arith, ltb-true, ltb-false, lt-ltb, le-ltb}
use Rattle.std.specs.List.{AllByRecursion}
use Rattle.link_frames.specs.declared.note.Note.{Note}
use Rattle.link_frames.specs.declared.note.Note.TheVariants as note
use Rattle.psap_machine.specs.Point.{Point}
use Rattle.trace_model.specs.declared.entry.Entry.{Entry}
use Rattle.channel_sim.specs.Fit.{Fit, IsCall}
use Rattle.trace_fit.specs.Seats.{IsSessionOf}
use Rattle.channel_sim.specs.World.{Call, World, Step}
use Rattle.call_floor.specs.FloorKept.{IsPlaced}
use Rattle.call_floor.specs.Numbers.{note_with, entry_with, vehicle_with, point_with, call_with, world_with}
use Rattle.call_floor.specs.Parts.{how_many, place, number, alone}
use Rattle.call_floor.proofs.Places.{place_number, how_many_le, number_kept, how_many_other}
use Rattle.call_floor.proofs.WorldRenumbered.{world_at, step_at}

-- Other numbers, and back.

module _ (f g : ℕ → ℕ) (back : (k : ℕ) → g (f k) ≡ k) where
  note_back : (n : Note) → note_with g (note_with f n) ≡ n
  note_back (note.Up e c) = ap (note.Up e) (back c)
  note_back (note.Down e c why) = ap (λ x. note.Down e x why) (back c)
  note_back (note.Voice e c up down) = ap (λ x. note.Voice e x up down) (back c)
  note_back (note.Send e c frame) = ap (λ x. note.Send e x frame) (back c)
  note_back (note.Shown c r octets) = ap (λ x. note.Shown x r octets) (back c)
  note_back (note.Acked c r octets) = ap (λ x. note.Acked x r octets) (back c)
  note_back (note.Ended e c timer) = ap (λ x. note.Ended e x timer) (back c)
  note_back (note.Fault e c) = ap (note.Fault e) (back c)
  note_back (note.Busy c) = ap note.Busy (back c)
  note_back (note.Spent c) = ap note.Spent (back c)
  note_back (note.Unshown c) = ap note.Unshown (back c)
  note_back _ = refl

  pub entries_back : (es : List Entry) → map (entry_with g) (map (entry_with f) es) ≡ es
  entries_back [] = refl
  entries_back (x ∷ xs) =
      ap (λ n. record x { note = n } ∷ map (entry_with g) (map (entry_with f) xs)) (note_back x.note)
      ∙ ap (λ l. x ∷ l) (entries_back xs)

  session_back : (o : Option Point) → option_map (point_with g) (option_map (point_with f) o) ≡ o
  session_back None = refl
  session_back (Some s) = ap (λ c. Some (record s { call = c })) (back s.call)

  call_back : (k : Call) → call_with g (call_with f k) ≡ k
  call_back k =
      ap (λ n. record k { number = n; session = option_map (point_with g) (option_map (point_with f) k.session) }) (back k.number)
      ∙ ap (λ o. record k { session = o }) (session_back k.session)

  calls_back : (ks : List Call) → map (call_with g) (map (call_with f) ks) ≡ ks
  calls_back [] = refl
  calls_back (k ∷ ks) =
      ap (λ x. x ∷ map (call_with g) (map (call_with f) ks)) (call_back k) ∙ ap (λ l. k ∷ l) (calls_back ks)

  pub world_back : (n m : ℕ) (w : World) → world_with g n (world_with f m w) ≡ record w { drawn = n }
  world_back n m w =
      ap (λ c. record w { vehicle = record (w.vehicle) { call = c }; drawn = n; calls = map (call_with g) (map (call_with f) w.calls) }) (back w.vehicle.call)
      ∙ ap (λ ks. record w { drawn = n; calls = ks }) (calls_back w.calls)

-- the number of the vehicle's call, and those of all calls, are at most n
pub record AreLow (n : ℕ) (w : World) : Type 0 where
  pub vehicle : w.vehicle.call ≤ n
  pub calls : AllByRecursion (IsCall n) w.calls

-- numbers that agree so far
module _ (n : ℕ) (f g : ℕ → ℕ) (agree : (k : ℕ) → k ≤ n → f k ≡ g k) where
  session_agree : (c : ℕ) → c ≤ n → (o : Option Point) → IfSome o (IsSessionOf c) → option_map (point_with f) o ≡ option_map (point_with g) o
  session_agree c low None h = refl
  session_agree c low (Some s) h = ap (λ x. Some (record s { call = x })) (agree s.call (omega (arith, h.call)))

  calls_agree : (ks : List Call) → AllByRecursion (IsCall n) ks → map (call_with f) ks ≡ map (call_with g) ks
  calls_agree [] h = refl
  calls_agree (k ∷ ks) h =
      let one : IsCall n k = h.0 in
      ap (λ x. record k { number = x; session = option_map (point_with f) k.session } ∷ map (call_with f) ks) (agree k.number one.number)
      ∙ ap (λ o. record k { number = g k.number; session = o } ∷ map (call_with f) ks) (session_agree k.number one.number k.session one.session)
      ∙ ap (λ l. call_with g k ∷ l) (calls_agree ks h.1)

  pub world_agree : (m : ℕ) (w : World) → AreLow n w → world_with f m w ≡ world_with g m w
  world_agree m w h =
      ap (λ c. record w { vehicle = record (w.vehicle) { call = c }; drawn = m; calls = map (call_with f) w.calls }) (agree w.vehicle.call h.vehicle)
      ∙ ap (λ ks. record w { vehicle = vehicle_with g w.vehicle; drawn = m; calls = ks }) (calls_agree w.calls h.calls)

session_as : (o : Option Point) → option_map (point_with (λ c. c)) o ≡ o
session_as None = refl
session_as (Some s) = refl

calls_as : (ks : List Call) → map (call_with (λ c. c)) ks ≡ ks
calls_as [] = refl
calls_as (k ∷ ks) =
    ap (λ o. record k { session = o } ∷ map (call_with (λ c. c)) ks) (session_as k.session) ∙ ap (λ l. k ∷ l) (calls_as ks)

world_as : (m : ℕ) (w : World) → world_with (λ c. c) m w ≡ record w { drawn = m }
world_as m w = ap (λ ks. record w { drawn = m; calls = ks }) (calls_as w.calls)

-- Numbers that all move up behind n: a world is the same under them exactly where its numbers are at most n.

abbrev pub skip : ℕ → ℕ → ℕ
skip n c = if nat_lt n c then suc c else c

abbrev pub unskip : ℕ → ℕ → ℕ
unskip n c = if nat_lt n c then pred c else c

pub unskip_skip : (n c : ℕ) → unskip n (skip n c) ≡ c
unskip_skip n c = by (nat_lt n c) refl
  where
    by : (b : Bool) → nat_lt n c ≡ b → unskip n (if b then suc c else c) ≡ c
    by true e = let low = ltb-true n c e in ap (λ b. if b then pred (suc c) else suc c) (lt-ltb n (suc c) (omega arith)) ∙ omega arith
    by false e = ap (λ b. if b then pred c else c) e

pub skip_low : (n c : ℕ) → c ≤ n → skip n c ≡ c
skip_low n c h = ap (λ b. if b then suc c else c) (le-ltb n c h)

pub skip_zero : (n : ℕ) → skip n 0 ≡ 0
skip_zero n = skip_low n 0 (omega arith)

skip_only : (n c : ℕ) → skip n c ≡ c → c ≤ n
skip_only n c h = by (nat_lt n c) refl h
  where
    by : (b : Bool) → nat_lt n c ≡ b → (if b then suc c else c) ≡ c → c ≤ n
    by true e f = absurd (omega (arith, f))
    by false e f = ltb-false n c e

low_same : (n : ℕ) (w : World) → AreLow n w → world_at (skip n) 0 w ≡ w
low_same n w h =
    world_agree n (skip n) (λ c. c) (skip_low n) (w.drawn + 0) w h ∙ world_as (w.drawn + 0) w ∙ ap (λ m. record w { drawn = m }) (omega arith)

-- what does the same under other numbers names no higher one
pub stays_low : (n : ℕ) (act : World → Step) (w : World) → AreLow n w → act (world_at (skip n) 0 w) ≡ step_at (skip n) 0 (act w) → (act w).world.vehicle.call ≤ n
stays_low n act w h same =
    let moved : act w ≡ step_at (skip n) 0 (act w) = ap act (sym (low_same n w h)) ∙ same in
    skip_only n (act w).world.vehicle.call (sym (ap (λ (s : Step). s.world.vehicle.call) moved))

-- The own world of a vehicle, and the world of it alone.

pub alone_low : (v : ℕ) (ds : List ℕ) (u : World) → IsPlaced v ds u → AreLow (how_many v ds) (alone v ds u)
alone_low v ds u h = record { vehicle = h.last; calls = h.fits.calls }

pub own_at : (v : ℕ) (ds : List ℕ) (u : World) → IsPlaced v ds u → u ≡ world_at (number v ds) (length ds - how_many v ds) (alone v ds u)
own_at v ds u h =
    let low = how_many_le v ds in
    h.numbers ∙ ap (λ n. world_with (number v ds) n (alone v ds u)) (omega arith)

-- The own world did this, and the world alone that: then the one is the other's.
pub record GoesAlone (v : ℕ) (ds : List ℕ) (s g : Step) : Type 0 where
  pub world : alone v ds s.world ≡ g.world
  pub told : map (entry_with (place v ds)) s.entries ≡ g.entries
  pub under : s.entries ≡ map (entry_with (number v ds)) g.entries
  pub placed : IsPlaced v ds s.world

entries_agree : (f g : ℕ → ℕ) → ((k : ℕ) → f k ≡ g k) → (es : List Entry) → map (entry_with f) es ≡ map (entry_with g) es
entries_agree f g h [] = refl
entries_agree f g h (x ∷ xs) = ap (λ n. record x { note = n } ∷ map (entry_with f) xs) (one x.note) ∙ ap (λ l. entry_with g x ∷ l) (entries_agree f g h xs)
  where
    one : (n : Note) → note_with f n ≡ note_with g n
    one (note.Up e c) = ap (note.Up e) (h c)
    one (note.Down e c why) = ap (λ x. note.Down e x why) (h c)
    one (note.Voice e c up down) = ap (λ x. note.Voice e x up down) (h c)
    one (note.Send e c frame) = ap (λ x. note.Send e x frame) (h c)
    one (note.Shown c r octets) = ap (λ x. note.Shown x r octets) (h c)
    one (note.Acked c r octets) = ap (λ x. note.Acked x r octets) (h c)
    one (note.Ended e c timer) = ap (λ x. note.Ended e x timer) (h c)
    one (note.Fault e c) = ap (note.Fault e) (h c)
    one (note.Busy c) = ap note.Busy (h c)
    one (note.Spent c) = ap note.Spent (h c)
    one (note.Unshown c) = ap note.Unshown (h c)
    one _ = refl

-- what was drawn in this step leaves the vehicle's places as they were
pub record DrawnOn (v : ℕ) (ds later : List ℕ) (last : ℕ) : Type 0 where
  pub numbers : (k : ℕ) → number v later k ≡ number v ds k
  pub places : (c : ℕ) → place v later c ≡ place v ds c
  pub count : how_many v later ≡ last
  pub all : length later ≡ last + (length ds - how_many v ds)

pub goes_alone : (v : ℕ) (ds later : List ℕ) (s g : Step) (t : List Entry) → s ≡ step_at (number v ds) (length ds - how_many v ds) g → DrawnOn v ds later g.world.drawn → Fit g.world t → g.world.vehicle.call ≤ g.world.drawn → GoesAlone v later s g
goes_alone v ds later s g t same on fits low =
    let f : ℕ → ℕ = number v ds in
    let d : ℕ = length ds - how_many v ds in
    let back : (k : ℕ) → place v later (f k) ≡ k = λ k. on.places (f k) ∙ place_number v ds k in
    let here : alone v later s.world ≡ g.world =
    ap (λ (x : Step). alone v later x.world) same
    ∙ world_back f (place v later) back (how_many v later) (g.world.drawn + d) g.world
    ∙ ap (λ n. record (g.world) { drawn = n }) on.count in
    record {
      world = here;
      told = ap (λ (x : Step). map (entry_with (place v later)) x.entries) same ∙ entries_back f (place v later) back g.entries;
      under = ap (λ (x : Step). x.entries) same ∙ entries_agree f (number v later) (λ k. sym (on.numbers k)) g.entries;
      placed =
          record {
            numbers =
                ap (λ (x : Step). x.world) same
                ∙ world_agree g.world.drawn f (number v later) (λ k l. sym (on.numbers k)) (g.world.drawn + d) g.world (record { vehicle = low; calls = fits.calls })
                ∙ ap (λ n. world_with (number v later) n g.world) (sym on.all)
                ∙ ap (world_with (number v later) (length later)) (sym here);
            last = subst (λ (x : World). x.vehicle.call ≤ how_many v later) (sym here) (omega (arith, on.count, low));
            trace = t;
            fits = subst (λ (x : World). Fit x t) (sym here) fits;
          };
    }

-- another vehicle's call: the own world learns the last number, and the world alone is as it was
pub record StaysAlone (v : ℕ) (ds later : List ℕ) (u : World) : Type 0 where
  pub world : alone v later (record u { drawn = length later }) ≡ alone v ds u
  pub placed : IsPlaced v later (record u { drawn = length later })

pub stays_alone : (a v : ℕ) → (a == v) ≡ false → (ds : List ℕ) (u : World) → IsPlaced v ds u → StaysAlone v ds (ds ++ a ∷ []) u
stays_alone a v apart ds u h =
    let later : List ℕ = ds ++ a ∷ [] in
    let p : World = alone v ds u in
    let own : record u { drawn = length later } ≡ world_with (number v later) (length later) p =
    ap (λ (x : World). record x { drawn = length later }) h.numbers
    ∙ sym (world_agree (how_many v ds) (number v later) (number v ds) (number_kept v ds (a ∷ [])) (length later) p (alone_low v ds u h)) in
    let here : alone v later (record u { drawn = length later }) ≡ p =
    ap (alone v later) own
    ∙ world_back (number v later) (place v later) (place_number v later) (how_many v later) (length later) p
    ∙ ap (λ n. record p { drawn = n }) (how_many_other v a apart ds) in
    record {
      world = here;
      placed =
          record {
            numbers = own ∙ ap (world_with (number v later) (length later)) (sym here);
            last = subst (λ (x : World). x.vehicle.call ≤ how_many v later) (sym here) (omega (arith, how_many_other v a apart ds, h.last));
            trace = h.trace;
            fits = subst (λ (x : World). Fit x h.trace) (sym here) h.fits;
          };
    }
