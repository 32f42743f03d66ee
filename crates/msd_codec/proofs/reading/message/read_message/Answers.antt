use Rattle.std.proofs.Common.{refl, ◌∙◌}
use Rattle.msd_codec.specs.Module.{ecall_message}
use Rattle.msd_codec.proofs.Steps.{exit, none_is, plain_is, required_err, required_is}
use Rattle.msd_codec.proofs.Parts.{start_later}
use Rattle.msd_codec.proofs.Steps.{set_is, set_err, set_same, format_tree, format_moves, moves_on}
use Rattle.msd_codec.proofs.reading.message.read_message.Goals as goal

pub returns-in_err-number-clause-exact : goal.returns-in_err-number-clause-exact
returns-in_err-number-clause-exact c = exit _ _ _ _ _ c.from_residual.ensures.1 (set_err _ _ c.in_err-number.ensures.exact)

pub returns-in_err-msd-clause-exact : goal.returns-in_err-msd-clause-exact
unfolding ecall_message
returns-in_err-msd-clause-exact c = exit _ _ _ _ _ c.from_residual-in_err-msd.ensures.1 (set_is _ _ _ _ _ c.in_ok-number.ensures.exact c.format_of.ensures (plain_is _ _ _ refl (required_is _ _ _ _ _ _ _ (format_tree _ _ _ c.in_ok-number.ensures.exact)
    (required_err _ _ _ _ _ c.in_err-msd.ensures.exact))))

pub returns-clause-exact : goal.returns-clause-exact
unfolding ecall_message
returns-clause-exact c = set_is _ _ _ _ _ c.in_ok-number.ensures.exact c.format_of.ensures (plain_is _ _ _ refl (required_is _ _ _ _ _ _ _ (format_tree _ _ _ c.in_ok-number.ensures.exact)
    (required_is _ _ _ _ _ _ _ c.in_ok-msd.ensures.exact
    (none_is _ _)))) ∙ set_same _ _ _ _ c.in_ok-number.ensures.known (c.in_ok-msd.ensures.format ∙ c.format_of.ensures)

pub returns-clause-parts : goal.returns-clause-parts
returns-clause-parts c = start_later _ _ c.read_body.new.c _ (format_moves _ _ _ c.in_ok-number.ensures.exact) c.in_ok-msd.ensures.parts

pub returns-clause-on : goal.returns-clause-on
returns-clause-on c = moves_on _ _ _ (format_moves _ _ _ c.in_ok-number.ensures.exact) c.in_ok-msd.ensures.on
