-- The entries of the world in what an event gives are those of the world's step alone.
use Rattle.std.specs.Prelude.{◌≡◌, ℕ, zero, suc, true, false, List, [], ◌∷◌, ◌++◌, map}
use Rattle.std.proofs.Common.{refl, ap, ◌∙◌}
use Rattle.std.proofs.lemmas.List.{append-nil}
use Rattle.link_frames.specs.declared.frame.End.TheVariants as «end»
use Rattle.trace_model.specs.declared.entry.Entry.{Entry}
use Rattle.trace_model.specs.declared.event.Event.{Event}
use Rattle.trace_model.specs.declared.event.Event.TheVariants as event
use Rattle.channel_sim.specs.Lines as lines
use Rattle.channel_sim.specs.World as world
use Rattle.relay_desk.specs.Desk as desk
use Rattle.relay_desk.specs.declared.event.RelayNote.{RelayNote}
use Rattle.relay_text.specs.ItemLine.{RelayEntry, OfDesk, OfWorld}
use Rattle.relay_command.specs.OfRun.{of_world}
use Rattle.relay_command.specs.Scenes as scenes
use Rattle.relay_command.specs.Scenes.{Scene, event_step, hears}

pub of_world-append : (xs ys : List RelayEntry) → of_world (xs ++ ys) ≡ of_world xs ++ of_world ys
of_world-append [] ys = refl
of_world-append (OfWorld x ∷ xs) ys = ap (λ t. x ∷ t) (of_world-append xs ys)
of_world-append (OfDesk tick item ∷ xs) ys = of_world-append xs ys

pub world_entries : (es : List Entry) → of_world (map OfWorld es) ≡ es
world_entries [] = refl
world_entries (x ∷ xs) = ap (λ t. x ∷ t) (world_entries xs)

pub desk_entries : (tick : ℕ) (items : List RelayNote) → of_world (map (OfDesk tick) items) ≡ []
desk_entries tick [] = refl
desk_entries tick (x ∷ xs) = desk_entries tick xs

-- a unit tick: the world's entries, and then the desk's items
pub unit_entries : (s : Scene) → of_world (scenes.unit s).items ≡ (world.unit s.world).entries
unit_entries s =
    let es : List Entry = (world.unit s.world).entries in
    let items : List RelayNote = (desk.unit (hears es s.desk)).items in
    let t : ℕ = (world.unit s.world).world.tick in
    of_world-append (map OfWorld es) (map (OfDesk t) items)
    ∙ ap (λ l. l ++ of_world (map (OfDesk t) items)) (world_entries es)
    ∙ ap (λ l. es ++ l) (desk_entries t items)
    ∙ append-nil es

units_entries : (n : ℕ) (s : Scene) → of_world (scenes.units n s).items ≡ (world.units n s.world).entries
units_entries zero s = refl
units_entries (suc n) s =
    let rest : List RelayEntry = (scenes.units n (scenes.unit s).scene).items in
    of_world-append (scenes.unit s).items rest
    ∙ ap (λ l. l ++ of_world rest) (unit_entries s)
    ∙ ap (λ l. (world.unit s.world).entries ++ l) (units_entries n (scenes.unit s).scene)

pub event_entries : (s : Scene) (e : Event) → of_world (event_step s e).items ≡ (lines.step s.world e).entries
event_entries s (event.Tick n) = units_entries n s
event_entries s (event.Flow true delay) = world_entries (lines.step s.world (event.Flow true delay)).entries
event_entries s (event.Flow false delay) = world_entries (lines.step s.world (event.Flow false delay)).entries
event_entries s (event.Reset «end».Point) = world_entries (lines.step s.world (event.Reset «end».Point)).entries
event_entries s (event.Reset «end».Vehicle) = world_entries (lines.step s.world (event.Reset «end».Vehicle)).entries
event_entries s (event.Trigger x) = world_entries (lines.step s.world (event.Trigger x)).entries
event_entries s event.Cancel = world_entries (lines.step s.world event.Cancel).entries
event_entries s (event.Net x) = world_entries (lines.step s.world (event.Net x)).entries
event_entries s event.Answer = world_entries (lines.step s.world event.Answer).entries
event_entries s event.Fail = world_entries (lines.step s.world event.Fail).entries
event_entries s event.Callback = world_entries (lines.step s.world event.Callback).entries
event_entries s event.Sleep = world_entries (lines.step s.world event.Sleep).entries
event_entries s event.FaultVehicle = world_entries (lines.step s.world event.FaultVehicle).entries
event_entries s (event.FaultPoint x) = world_entries (lines.step s.world (event.FaultPoint x)).entries
event_entries s (event.Damaged x) = world_entries (lines.step s.world (event.Damaged x)).entries
event_entries s (event.Request x) = world_entries (lines.step s.world (event.Request x)).entries
event_entries s (event.Clear x) = world_entries (lines.step s.world (event.Clear x)).entries
event_entries s (event.Hangup x) = world_entries (lines.step s.world (event.Hangup x)).entries
event_entries s event.DropVehicle = world_entries (lines.step s.world event.DropVehicle).entries
event_entries s (event.DropPoint x) = world_entries (lines.step s.world (event.DropPoint x)).entries
event_entries s (event.DropBoth x) = world_entries (lines.step s.world (event.DropBoth x)).entries
event_entries s (event.Deliver x c k) = world_entries (lines.step s.world (event.Deliver x c k)).entries
