use Rattle.std.proofs.Common.{refl}
use Rattle.msd_codec.specs.Module.{control_type}
use Rattle.msd_codec.proofs.Steps.{exit, none_is, plain_is, required_err, required_is}
use Rattle.msd_codec.proofs.Steps.{moves_on}
use Rattle.msd_codec.proofs.reading.structure.read_control.Goals as goal

pub returns-in_err-automatic-clause-exact : goal.returns-in_err-automatic-clause-exact
unfolding control_type
returns-in_err-automatic-clause-exact c = exit _ _ _ _ _ c.from_residual.ensures.1 (plain_is _ _ _ refl (required_err _ _ _ _ _ c.in_err-automatic.ensures.exact))

pub returns-in_err-test-clause-exact : goal.returns-in_err-test-clause-exact
unfolding control_type
returns-in_err-test-clause-exact c = exit _ _ _ _ _ c.from_residual-in_err-test.ensures.1 (plain_is _ _ _ refl (required_is _ _ _ _ _ _ _ c.in_ok-automatic.ensures.exact
    (required_err _ _ _ _ _ c.in_err-test.ensures.exact)))

pub returns-in_err-trusted-clause-exact : goal.returns-in_err-trusted-clause-exact
unfolding control_type
returns-in_err-trusted-clause-exact c = exit _ _ _ _ _ c.from_residual-in_err-trusted.ensures.1 (plain_is _ _ _ refl (required_is _ _ _ _ _ _ _ c.in_ok-automatic.ensures.exact
    (required_is _ _ _ _ _ _ _ c.in_ok-test.ensures.exact
    (required_err _ _ _ _ _ c.in_err-trusted.ensures.exact))))

pub returns-in_err-kind-clause-exact : goal.returns-in_err-kind-clause-exact
unfolding control_type
returns-in_err-kind-clause-exact c = exit _ _ _ _ _ c.from_residual-in_err-kind.ensures.1 (plain_is _ _ _ refl (required_is _ _ _ _ _ _ _ c.in_ok-automatic.ensures.exact
    (required_is _ _ _ _ _ _ _ c.in_ok-test.ensures.exact
    (required_is _ _ _ _ _ _ _ c.in_ok-trusted.ensures.exact
    (required_err _ _ _ _ _ c.in_err-kind.ensures.exact)))))

pub returns-clause-exact : goal.returns-clause-exact
unfolding control_type
returns-clause-exact c = plain_is _ _ _ refl (required_is _ _ _ _ _ _ _ c.in_ok-automatic.ensures.exact
    (required_is _ _ _ _ _ _ _ c.in_ok-test.ensures.exact
    (required_is _ _ _ _ _ _ _ c.in_ok-trusted.ensures.exact
    (required_is _ _ _ _ _ _ _ c.in_ok-kind.ensures.exact
    (none_is _ _)))))

pub returns-clause-on : goal.returns-clause-on
returns-clause-on c = (moves_on _ _ _ c.in_ok-automatic.ensures.on (moves_on _ _ _ c.in_ok-test.ensures.on (moves_on _ _ _ c.in_ok-trusted.ensures.on c.in_ok-kind.ensures.on)))
