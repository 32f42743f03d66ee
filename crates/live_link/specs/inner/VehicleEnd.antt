-- When the vehicle's end of the code stands for that of the definition, and what a step of it does. Cited by private
-- contracts alone.
use Rattle.std.specs.Prelude.{◌≡◌, List}
use Rattle.std.specs.List.{flat_map}
use Rattle.ivs_machine.specs.IvsStands.{IvsStandsFor}
use Rattle.trace_model.specs.declared.entry.Entry.{Entry}
use Rattle.link_parts.specs.declared.part.Part.{Part}
use Rattle.live_link.specs.declared.vehicle_end.VehicleEnd.{VehicleEnd}
use Rattle.link_parts.specs.Messages.{part_octets}
use Rattle.live_link.specs.Runs.{Steps, each}
use Rattle.live_link.specs.Turns.{entries_of}
use Rattle.live_link.specs.VehicleLive.{LiveVehicle, hears_part}

pub record EndStandsFor (e : VehicleEnd) (s : LiveVehicle) : Type 0 where
  pub ivs : IvsStandsFor e.ivs s.vehicle
  pub taken : s.taken ≡ e.taken
  pub tick : s.tick ≡ e.tick
  pub gathered : flat_map part_octets s.gathered ≡ e.gathered.items

-- The listener grew by the entries of the step, and the end stands for what the step leaves.
pub record Acts (grew : List Entry → Type 0) (old new : VehicleEnd) (step : LiveVehicle → Steps LiveVehicle)
    : Type 0 where
  pub told : (s : LiveVehicle) → EndStandsFor old s → grew (entries_of (step s).turns)
  pub stands : (s : LiveVehicle) → EndStandsFor old s → EndStandsFor new (step s).new

-- the listener grew by a part of the entries of the step
abbrev pub ActsPartly : (partly : List Entry → Type 0) → (old : VehicleEnd) → (LiveVehicle → Steps LiveVehicle) → Type 0
ActsPartly partly old step = (s : LiveVehicle) → EndStandsFor old s → partly (entries_of (step s).turns)

-- the parts of a message, in order
abbrev pub all_parts : List Part → LiveVehicle → Steps LiveVehicle
all_parts parts s = each hears_part s parts
