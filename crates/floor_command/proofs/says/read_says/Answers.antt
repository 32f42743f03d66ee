use Rattle.floor_text.specs.VehicleLines.{floor_line}
use Rattle.floor_command.proofs.ReadSays.{read_err, read_ok}
use Rattle.floor_command.proofs.says.read_says.Goals as goal

pub returns-in-Ok : goal.returns-in-Ok
returns-in-Ok c =
    read_ok c.args.line.now c.in-Ok.numbered c.number.result (floor_line c.args.line.now.text) c.says_of.result
    c.at_line.result c.in-Ok.ensures.says c.number.ensures c.says_of.ensures c.at_line.ensures

pub returns-in-Err : goal.returns-in-Err
returns-in-Err c =
    read_err c.args.line.now c.in-Err.bad (floor_line c.args.line.now.text) c.in-Err.ensures.says
