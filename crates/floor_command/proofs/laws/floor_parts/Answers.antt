use Rattle.floor_command.specs.FloorScript.{script_of}
use Rattle.floor_command.proofs.PartsLaw.{only_of, script-kept}
use Rattle.floor_command.proofs.laws.floor_parts.Goals as goal
use Rattle.call_floor.specs.Floor.{floor_with}
use Rattle.channel_sim.specs.World.{first_world}

pub returns : goal.returns
returns c = λ bytes stands v facts is at.
    let kept = script-kept c.first_floors_are_kept.ensures.joined c.first_floors_are_kept.ensures.none bytes stands is in
    let only = only_of v facts stands at in
    record {
      told =
          c.vehicles_are_apart.ensures.told (floor_with stands) (script_of bytes).events v (first_world facts) kept only;
      safe = c.vehicles_are_apart.ensures.safe (floor_with stands) (script_of bytes).events v facts kept only;
    }
