-- The desk that follows the entries of the world by their ticks does what the definition has it do unit tick by unit
-- tick.
use Rattle.std.specs.Prelude.{◌≡◌, ◌≤◌, ℕ, zero, suc, ◌+◌, ◌-◌, true, false, List, [], ◌∷◌, ◌++◌, map}
use Rattle.std.specs.List.{AllByRecursion}
use Rattle.std.proofs.Common.{arith, refl, sym, ap, ◌∙◌, append_assoc}
use Rattle.link_frames.specs.declared.frame.End.TheVariants as «end»
use Rattle.trace_model.specs.declared.entry.Entry.{Entry}
use Rattle.trace_model.specs.declared.event.Event.{Event}
use Rattle.trace_model.specs.declared.event.Event.TheVariants as event
use Rattle.channel_sim.specs.Lines as lines
use Rattle.channel_sim.specs.World as world
use Rattle.channel_sim.specs.World.{World}
use Rattle.relay_desk.specs.Desk as desk
use Rattle.relay_desk.specs.Desk.{Desk, Row}
use Rattle.relay_text.specs.ItemLine.{OfDesk, OfWorld}
use Rattle.relay_command.specs.Scenes as scenes
use Rattle.relay_command.specs.Scenes.{Scene, SceneStep, event_step, hears, world_did}
use Rattle.relay_watch.specs.Hears.{hears_note}
use Rattle.relay_watch.specs.inner.ClockLaws.{elapses-add, follows-append, then_again, then_nothing}
use Rattle.relay_watch.specs.Clocks.{Clock, Came, and_then, elapses, entry_comes, follows, row_at, ticks_once}
use Rattle.relay_command.proofs.EntryTicks.{AllAt, IsAt, step_at, unit_at, units_from, units_tick}

-- the desk follows these entries, and then reaches a tick
abbrev pub finish : List Entry → ℕ → Clock → Came
finish xs t c = and_then (follows xs c) (λ b. elapses (t - b.tick) b)

-- the clock of a scene, and what a step comes to
abbrev pub clock_at : Scene → Clock
clock_at s = record { desk = s.desk; tick = s.world.tick }

abbrev pub came_of : SceneStep → Came
came_of st = record { items = st.items; clock = clock_at st.scene }

-- entries that came, with no tick of the desk between them
abbrev came_here : List Entry → Clock → Came
came_here xs c = record { items = map OfWorld xs; clock = record { desk = hears xs c.desk; tick = c.tick } }

follow_here : (xs : List Entry) (c : Clock) → AllByRecursion (λ x. x.tick ≤ c.tick + 1) xs
    → follows xs c ≡ came_here xs c
follow_here [] c h = refl
follow_here (x ∷ xs) c h =
    let e : x.tick - 1 - c.tick ≡ 0 = omega (arith, h.0) in
    ap (λ n. and_then (and_then (elapses n c) (entry_comes x)) (follows xs)) e
    ∙ ap (λ (r : Came). record { items = OfWorld x ∷ r.items; clock = r.clock })
    (follow_here xs (record { desk = hears_note x.note c.desk; tick = c.tick }) h.1)

-- one tick, and then the others
first_tick : (n m : ℕ) (c : Clock) → n ≡ 1 + m → elapses n c ≡ and_then (ticks_once c) (elapses m)
first_tick n m c e = ap (λ k. elapses k c) e ∙ elapses-add m 1 c

-- in front of entries that come later a tick may pass at once
tick_first : (xs : List Entry) (t : ℕ) (c : Clock) → AllByRecursion (λ x. c.tick + 2 ≤ x.tick) xs → c.tick + 1 ≤ t
    → finish xs t c ≡ and_then (ticks_once c) (finish xs t)
tick_first [] t c h le =
    let e : t - c.tick ≡ 1 + (t - (c.tick + 1)) = omega (arith, le) in
    first_tick (t - c.tick) (t - (c.tick + 1)) c e
tick_first (x ∷ xs) t c h le =
    let k : ℕ = x.tick - 1 - (c.tick + 1) in
    let e : x.tick - 1 - c.tick ≡ 1 + k = omega (arith, h.0) in
    let last : Clock → Came = λ b. elapses (t - b.tick) b in
    ap (λ r. and_then (and_then (and_then r (entry_comes x)) (follows xs)) last)
    (first_tick (x.tick - 1 - c.tick) k c e)
    ∙ ap (λ r. and_then (and_then r (follows xs)) last) (then_again (ticks_once c) (elapses k) (entry_comes x))
    ∙ ap (λ r. and_then r last)
    (then_again (ticks_once c) (λ b. and_then (elapses k b) (entry_comes x)) (follows xs))
    ∙ then_again (ticks_once c) (λ b. and_then (and_then (elapses k b) (entry_comes x)) (follows xs)) last

finish-append : (xs ys : List Entry) (t : ℕ) (c : Clock)
    → finish (xs ++ ys) t c ≡ and_then (follows xs c) (finish ys t)
finish-append xs ys t c =
    ap (λ r. and_then r (λ b. elapses (t - b.tick) b)) (follows-append xs ys c)
    ∙ then_again (follows xs c) (follows ys) (λ b. elapses (t - b.tick) b)

up_to_one : (t : ℕ) (xs : List Entry) → AllAt (t + 1) xs → AllByRecursion (λ x. x.tick ≤ t + 1) xs
up_to_one t [] h = tt
up_to_one t (x ∷ xs) h = (omega (arith, h.0), up_to_one t xs h.1)

up_to : (t : ℕ) (xs : List Entry) → AllAt t xs → AllByRecursion (λ x. x.tick ≤ t + 1) xs
up_to t [] h = tt
up_to t (x ∷ xs) h = (omega (arith, h.0), up_to t xs h.1)

-- a unit tick of the world and the desk, and then what comes behind it
one_unit : (es : List Entry) (w u : World) (d : Desk) (rest : Clock → Came) (more : SceneStep) → u.tick ≡ w.tick + 1
    → let r : Row = desk.unit (hears es d) in rest (record { desk = r.desk; tick = u.tick }) ≡ came_of more
    → and_then (came_here es (record { desk = d; tick = w.tick }))
    (λ b. and_then (ticks_once b) rest)
    ≡ record {
      items = (map OfWorld es ++ map (OfDesk u.tick) r.items) ++ more.items;
      clock = clock_at more.scene;
    }
one_unit es w u d rest more next same =
    let r : Row = desk.unit (hears es d) in
    ap (λ t. and_then (came_here es (record { desk = d; tick = w.tick })) (λ b. and_then (row_at t r) rest)) (sym next)
    ∙ ap (λ (m : Came). record {
      items = map OfWorld es ++ (map (OfDesk u.tick) r.items ++ m.items);
      clock = m.clock;
    }) same
    ∙ ap (λ is. record { items = is; clock = clock_at more.scene })
    (sym (append_assoc (map OfWorld es) (map (OfDesk u.tick) r.items) more.items))

later_by_one : (s t : ℕ) (xs : List Entry) → t ≡ s + 1 → AllByRecursion (λ x. t + 1 ≤ x.tick) xs
    → AllByRecursion (λ x. s + 2 ≤ x.tick) xs
later_by_one s t [] e h = tt
later_by_one s t (x ∷ xs) e h = (omega (arith, e, h.0), later_by_one s t xs e h.1)

pub units_follow : (n : ℕ) (s : Scene)
    → finish (world.units n s.world).entries (s.world.tick + n) (clock_at s) ≡ came_of (scenes.units n s)
units_follow zero s =
    let e : s.world.tick + 0 - s.world.tick ≡ 0 = omega arith in ap (λ k. elapses k (clock_at s)) e
units_follow (suc n) s =
    let w : World = s.world in
    let u : World = (world.unit w).world in
    let es : List Entry = (world.unit w).entries in
    let fs : List Entry = (world.units n u).entries in
    let t : ℕ = w.tick + suc n in
    let at : IsAt (w.tick + 1) (world.unit w) = unit_at w in
    let there : u.tick + n ≡ t = omega (arith, at.world) in
    let next : Scene = record { world = u; desk = (desk.unit (hears es s.desk)).desk } in
    let more = units_follow n next in
    finish-append es fs t (clock_at s)
    ∙ ap (λ r. and_then r (finish fs t)) (follow_here es (clock_at s) (up_to_one w.tick es at.entries))
    ∙ ap (λ (m : Came). record { items = map OfWorld es ++ m.items; clock = m.clock })
    (tick_first fs t (record { desk = hears es s.desk; tick = w.tick })
    (later_by_one w.tick u.tick fs at.world (units_from n u)) (omega arith))
    ∙ one_unit es w u s.desk (finish fs t) (scenes.units n next) at.world
    (ap (λ k. finish fs k (clock_at next)) (sym there) ∙ more)

pub units_world : (n : ℕ) (s : Scene) → (scenes.units n s).scene.world ≡ (world.units n s.world).world
units_world zero s = refl
units_world (suc n) s = units_world n (scenes.unit s).scene

-- an event in which no ticks elapse
here_follows : (st : world.Step) (w : World) (d : Desk) → IsAt w.tick st
    → finish st.entries st.world.tick (record { desk = d; tick = w.tick }) ≡ came_of (world_did st d)
here_follows st w d at =
    let e : st.world.tick - w.tick ≡ 0 = omega (arith, at.world) in
    ap (λ r. and_then r (λ b. elapses (st.world.tick - b.tick) b))
    (follow_here st.entries (record { desk = d; tick = w.tick }) (up_to w.tick st.entries at.entries))
    ∙ ap (λ k. and_then (came_here st.entries (record { desk = d; tick = w.tick })) (elapses k)) e
    ∙ then_nothing (came_here st.entries (record { desk = d; tick = w.tick }))
    ∙ ap (λ t. record { items = map OfWorld st.entries; clock = record { desk = hears st.entries d; tick = t } })
    (sym at.world)

-- What the desk writes while it follows the entries of an event, and then reaches the world's tick, is what the
-- definition has for that event.
pub event_follows : (s : Scene) (e : Event)
    → finish (lines.step s.world e).entries (lines.step s.world e).world.tick (clock_at s) ≡ came_of (event_step s e)
event_follows s (event.Tick n) =
    ap (λ t. finish (world.units n s.world).entries t (clock_at s)) (units_tick n s.world) ∙ units_follow n s
event_follows s (event.Flow true delay) =
    here_follows (lines.step s.world (event.Flow true delay)) s.world s.desk (step_at s.world (event.Flow true delay) tt)
event_follows s (event.Flow false delay) =
    here_follows (lines.step s.world (event.Flow false delay)) s.world s.desk
    (step_at s.world (event.Flow false delay) tt)
event_follows s (event.Reset «end».Point) =
    here_follows (lines.step s.world (event.Reset «end».Point)) s.world s.desk
    (step_at s.world (event.Reset «end».Point) tt)
event_follows s (event.Reset «end».Vehicle) =
    here_follows (lines.step s.world (event.Reset «end».Vehicle)) s.world s.desk
    (step_at s.world (event.Reset «end».Vehicle) tt)
event_follows s (event.Trigger x) =
    here_follows (lines.step s.world (event.Trigger x)) s.world s.desk (step_at s.world (event.Trigger x) tt)
event_follows s event.Cancel =
    here_follows (lines.step s.world event.Cancel) s.world s.desk (step_at s.world event.Cancel tt)
event_follows s (event.Net x) =
    here_follows (lines.step s.world (event.Net x)) s.world s.desk (step_at s.world (event.Net x) tt)
event_follows s event.Answer =
    here_follows (lines.step s.world event.Answer) s.world s.desk (step_at s.world event.Answer tt)
event_follows s event.Fail =
    here_follows (lines.step s.world event.Fail) s.world s.desk (step_at s.world event.Fail tt)
event_follows s event.Callback =
    here_follows (lines.step s.world event.Callback) s.world s.desk (step_at s.world event.Callback tt)
event_follows s event.Sleep =
    here_follows (lines.step s.world event.Sleep) s.world s.desk (step_at s.world event.Sleep tt)
event_follows s event.FaultVehicle =
    here_follows (lines.step s.world event.FaultVehicle) s.world s.desk (step_at s.world event.FaultVehicle tt)
event_follows s (event.FaultPoint x) =
    here_follows (lines.step s.world (event.FaultPoint x)) s.world s.desk (step_at s.world (event.FaultPoint x) tt)
event_follows s (event.Damaged x) =
    here_follows (lines.step s.world (event.Damaged x)) s.world s.desk (step_at s.world (event.Damaged x) tt)
event_follows s (event.Request x) =
    here_follows (lines.step s.world (event.Request x)) s.world s.desk (step_at s.world (event.Request x) tt)
event_follows s (event.Clear x) =
    here_follows (lines.step s.world (event.Clear x)) s.world s.desk (step_at s.world (event.Clear x) tt)
event_follows s (event.Hangup x) =
    here_follows (lines.step s.world (event.Hangup x)) s.world s.desk (step_at s.world (event.Hangup x) tt)
event_follows s event.DropVehicle =
    here_follows (lines.step s.world event.DropVehicle) s.world s.desk (step_at s.world event.DropVehicle tt)
event_follows s (event.DropPoint x) =
    here_follows (lines.step s.world (event.DropPoint x)) s.world s.desk (step_at s.world (event.DropPoint x) tt)
event_follows s (event.DropBoth x) =
    here_follows (lines.step s.world (event.DropBoth x)) s.world s.desk (step_at s.world (event.DropBoth x) tt)
event_follows s (event.Deliver x c k) =
    here_follows (lines.step s.world (event.Deliver x c k)) s.world s.desk
    (step_at s.world (event.Deliver x c k) tt)
