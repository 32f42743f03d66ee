-- A world with a relay desk behind the point, and what each line of a script does there: the entries of the world, and
-- the items of the desk and of the second point, in the order of their ticks. In each unit tick the world has its turn
-- first. This project's profile. Cited by the reply of `relay`.
use Rattle.std.specs.Prelude.{ℕ, zero, suc, List, [], ◌∷◌, ◌++◌, map}
use Rattle.msd_fit.specs.declared.facts.Facts.{Facts}
use Rattle.trace_model.specs.declared.entry.Entry.{Entry}
use Rattle.trace_model.specs.declared.event.Event.{Event}
use Rattle.trace_model.specs.declared.event.Event.TheVariants as event
use Rattle.channel_sim.specs.Lines as lines
use Rattle.channel_sim.specs.World as world
use Rattle.channel_sim.specs.World.{World, first_world}
use Rattle.relay_desk.specs.Desk as desk
use Rattle.relay_desk.specs.Desk.{Desk, Row, first_desk, happens}
use Rattle.relay_text.specs.ItemLine.{RelayEntry, OfDesk, OfWorld}
use Rattle.relay_text.specs.declared.line.RelayOrder.{RelayOrder}
use Rattle.relay_watch.specs.Hears.{hears_note, order_event}

-- A world, and the relay desk behind its point.
pub record Scene : Type 0 where
  pub world : World
  pub desk : Desk

-- the scene before anything happened
abbrev pub first_scene : Facts → Scene
first_scene known = record { world = first_world known; desk = first_desk }

-- What happens, in order, and the scene behind it.
pub record SceneStep : Type 0 where
  pub items : List RelayEntry
  pub scene : Scene

abbrev pub quiet_scene : Scene → SceneStep
quiet_scene s = record { items = []; scene = s }

-- one step, and then another in the scene that it leaves
abbrev pub and_then : SceneStep → (Scene → SceneStep) → SceneStep
and_then first second =
    record { items = first.items ++ (second first.scene).items; scene = (second first.scene).scene }

-- the desk hears of each entry
abbrev pub hears : List Entry → Desk → Desk
hears [] d = d
hears (x ∷ xs) d = hears xs (hears_note x.note d)

-- these entries came, and the world is now this one
abbrev pub world_did : world.Step → Desk → SceneStep
world_did s d =
    record { items = map OfWorld s.entries; scene = record { world = s.world; desk = hears s.entries d } }

-- the desk, or its link, did this
abbrev pub desk_did : World → Row → SceneStep
desk_did w row = record { items = map (OfDesk w.tick) row.items; scene = record { world = w; desk = row.desk } }

-- a unit tick: the world's, and then the desk's
abbrev pub unit : Scene → SceneStep
unit s = and_then (world_did (world.unit s.world) s.desk) (λ t. desk_did t.world (desk.unit t.desk))

-- n unit ticks
abbrev pub units : ℕ → Scene → SceneStep
units zero s = quiet_scene s
units (suc n) s = and_then (unit s) (units n)

-- what an event line does
abbrev pub event_step : Scene → Event → SceneStep
event_step s (event.Tick n) = units n s
event_step s e = world_did (lines.step s.world e) s.desk

-- what an order does
abbrev pub order_step : Scene → RelayOrder → SceneStep
order_step s o = desk_did s.world (happens s.desk (order_event o))
