use Rattle.set_commands.proofs.ConformTold.{is_encoded}
use Rattle.set_commands.proofs.conform.push_answer.Goals as goal

pub unwrap-canonical-requires : goal.unwrap-canonical-requires
unwrap-canonical-requires c =
    is_encoded c.args.octets.now c.in-Ok.msd c.encode.result c.in-Ok.ensures.shown c.encode.ensures.bits
