use Rattle.std.proofs.Common.{refl, ◌∙◌}
use Rattle.msd_codec.specs.Module.{propulsion_storage, storages}
use Rattle.msd_codec.proofs.Steps.{default_err, default_is, exit, marked_err, marked_is, more_err, more_is, presence_err}
use Rattle.msd_codec.proofs.OtherMark.{other_err, other_is, not_marked}
use Rattle.msd_codec.proofs.Steps.{moves_on}
use Rattle.msd_codec.proofs.Parts.{start_later}
use Rattle.msd_codec.proofs.reading.structure.read_storage.Goals as goal

pub returns-in_err-extended-clause-exact : goal.returns-in_err-extended-clause-exact
unfolding propulsion_storage storages
returns-in_err-extended-clause-exact c = exit _ _ _ _ _ c.from_residual.ensures.1 (marked_err _ _ _ c.in_err-extended.ensures.exact)

pub returns-in_err-present-clause-exact : goal.returns-in_err-present-clause-exact
unfolding propulsion_storage storages
returns-in_err-present-clause-exact c = exit _ _ _ _ _ c.from_residual-in_err-present.ensures.1 (presence_err _ _ _ _ _ _ refl c.in_ok-extended.ensures.exact c.in_err-present.ensures.exact)

pub returns-in_err-gasoline-clause-exact : goal.returns-in_err-gasoline-clause-exact
unfolding propulsion_storage storages
returns-in_err-gasoline-clause-exact c = exit _ _ _ _ _ c.from_residual-in_err-gasoline.ensures.1 (marked_is _ _ _ _ _ _ _ _ refl c.in_ok-extended.ensures.exact c.in_ok-present.ensures.exact (default_err _ _ _ _ _ _ _ c.in_err-gasoline.ensures.exact))

pub returns-in_err-diesel-clause-exact : goal.returns-in_err-diesel-clause-exact
unfolding propulsion_storage storages
returns-in_err-diesel-clause-exact c = exit _ _ _ _ _ c.from_residual-in_err-diesel.ensures.1 (marked_is _ _ _ _ _ _ _ _ refl c.in_ok-extended.ensures.exact c.in_ok-present.ensures.exact (default_is _ _ _ _ _ _ _ _ _ c.in_ok-gasoline.ensures.exact
    (default_err _ _ _ _ _ _ _ c.in_err-diesel.ensures.exact)))

pub returns-in_err-natural_gas-clause-exact : goal.returns-in_err-natural_gas-clause-exact
unfolding propulsion_storage storages
returns-in_err-natural_gas-clause-exact c = exit _ _ _ _ _ c.from_residual-in_err-natural_gas.ensures.1 (marked_is _ _ _ _ _ _ _ _ refl c.in_ok-extended.ensures.exact c.in_ok-present.ensures.exact (default_is _ _ _ _ _ _ _ _ _ c.in_ok-gasoline.ensures.exact
    (default_is _ _ _ _ _ _ _ _ _ c.in_ok-diesel.ensures.exact
    (default_err _ _ _ _ _ _ _ c.in_err-natural_gas.ensures.exact))))

pub returns-in_err-propane-clause-exact : goal.returns-in_err-propane-clause-exact
unfolding propulsion_storage storages
returns-in_err-propane-clause-exact c = exit _ _ _ _ _ c.from_residual-in_err-propane.ensures.1 (marked_is _ _ _ _ _ _ _ _ refl c.in_ok-extended.ensures.exact c.in_ok-present.ensures.exact (default_is _ _ _ _ _ _ _ _ _ c.in_ok-gasoline.ensures.exact
    (default_is _ _ _ _ _ _ _ _ _ c.in_ok-diesel.ensures.exact
    (default_is _ _ _ _ _ _ _ _ _ c.in_ok-natural_gas.ensures.exact
    (default_err _ _ _ _ _ _ _ c.in_err-propane.ensures.exact)))))

pub returns-in_err-electric-clause-exact : goal.returns-in_err-electric-clause-exact
unfolding propulsion_storage storages
returns-in_err-electric-clause-exact c = exit _ _ _ _ _ c.from_residual-in_err-electric.ensures.1 (marked_is _ _ _ _ _ _ _ _ refl c.in_ok-extended.ensures.exact c.in_ok-present.ensures.exact (default_is _ _ _ _ _ _ _ _ _ c.in_ok-gasoline.ensures.exact
    (default_is _ _ _ _ _ _ _ _ _ c.in_ok-diesel.ensures.exact
    (default_is _ _ _ _ _ _ _ _ _ c.in_ok-natural_gas.ensures.exact
    (default_is _ _ _ _ _ _ _ _ _ c.in_ok-propane.ensures.exact
    (default_err _ _ _ _ _ _ _ c.in_err-electric.ensures.exact))))))

pub returns-in_err-hydrogen-clause-exact : goal.returns-in_err-hydrogen-clause-exact
unfolding propulsion_storage storages
returns-in_err-hydrogen-clause-exact c = exit _ _ _ _ _ c.from_residual-in_err-hydrogen.ensures.1 (marked_is _ _ _ _ _ _ _ _ refl c.in_ok-extended.ensures.exact c.in_ok-present.ensures.exact (default_is _ _ _ _ _ _ _ _ _ c.in_ok-gasoline.ensures.exact
    (default_is _ _ _ _ _ _ _ _ _ c.in_ok-diesel.ensures.exact
    (default_is _ _ _ _ _ _ _ _ _ c.in_ok-natural_gas.ensures.exact
    (default_is _ _ _ _ _ _ _ _ _ c.in_ok-propane.ensures.exact
    (default_is _ _ _ _ _ _ _ _ _ c.in_ok-electric.ensures.exact
    (default_err _ _ _ _ _ _ _ c.in_err-hydrogen.ensures.exact)))))))

pub returns-in_err-other-clause-exact : goal.returns-in_err-other-clause-exact
unfolding propulsion_storage storages
returns-in_err-other-clause-exact c = exit _ _ _ _ _ c.from_residual-in_err-other.ensures.1 (marked_is _ _ _ _ _ _ _ _ refl c.in_ok-extended.ensures.exact c.in_ok-present.ensures.exact (default_is _ _ _ _ _ _ _ _ _ c.in_ok-gasoline.ensures.exact
    (default_is _ _ _ _ _ _ _ _ _ c.in_ok-diesel.ensures.exact
    (default_is _ _ _ _ _ _ _ _ _ c.in_ok-natural_gas.ensures.exact
    (default_is _ _ _ _ _ _ _ _ _ c.in_ok-propane.ensures.exact
    (default_is _ _ _ _ _ _ _ _ _ c.in_ok-electric.ensures.exact
    (default_is _ _ _ _ _ _ _ _ _ c.in_ok-hydrogen.ensures.exact
    (other_err _ _ _ _ c.in_ok-present.ensures.none c.in_err-other.ensures.exact))))))))

pub returns-in_err-more-clause-exact : goal.returns-in_err-more-clause-exact
unfolding propulsion_storage storages
returns-in_err-more-clause-exact c = exit _ _ _ _ _ c.from_residual-in_err-more.ensures.1 (marked_is _ _ _ _ _ _ _ _ refl c.in_ok-extended.ensures.exact c.in_ok-present.ensures.exact (default_is _ _ _ _ _ _ _ _ _ c.in_ok-gasoline.ensures.exact
    (default_is _ _ _ _ _ _ _ _ _ c.in_ok-diesel.ensures.exact
    (default_is _ _ _ _ _ _ _ _ _ c.in_ok-natural_gas.ensures.exact
    (default_is _ _ _ _ _ _ _ _ _ c.in_ok-propane.ensures.exact
    (default_is _ _ _ _ _ _ _ _ _ c.in_ok-electric.ensures.exact
    (default_is _ _ _ _ _ _ _ _ _ c.in_ok-hydrogen.ensures.exact
    (other_is _ _ _ _ _ c.in_ok-present.ensures.none c.in_ok-other.ensures.exact))))))) ∙ more_err _ _ _ _ c.in_err-more.ensures.exact)

pub returns-clause-exact : goal.returns-clause-exact
unfolding propulsion_storage storages
returns-clause-exact c = marked_is _ _ _ _ _ _ _ _ refl c.in_ok-extended.ensures.exact c.in_ok-present.ensures.exact (default_is _ _ _ _ _ _ _ _ _ c.in_ok-gasoline.ensures.exact
    (default_is _ _ _ _ _ _ _ _ _ c.in_ok-diesel.ensures.exact
    (default_is _ _ _ _ _ _ _ _ _ c.in_ok-natural_gas.ensures.exact
    (default_is _ _ _ _ _ _ _ _ _ c.in_ok-propane.ensures.exact
    (default_is _ _ _ _ _ _ _ _ _ c.in_ok-electric.ensures.exact
    (default_is _ _ _ _ _ _ _ _ _ c.in_ok-hydrogen.ensures.exact
    (other_is _ _ _ _ _ c.in_ok-present.ensures.none c.in_ok-other.ensures.exact))))))) ∙ more_is _ _ _ _ _ c.in_ok-more.ensures.exact

pub returns-clause-on : goal.returns-clause-on
returns-clause-on c = (moves_on _ _ _ c.in_ok-extended.ensures.on (moves_on _ _ _ c.in_ok-present.ensures.on (moves_on _ _ _ c.in_ok-gasoline.ensures.on (moves_on _ _ _ c.in_ok-diesel.ensures.on (moves_on _ _ _ c.in_ok-natural_gas.ensures.on (moves_on _ _ _ c.in_ok-propane.ensures.on (moves_on _ _ _ c.in_ok-electric.ensures.on (moves_on _ _ _ c.in_ok-hydrogen.ensures.on (moves_on _ _ _ c.in_ok-other.ensures.on c.in_ok-more.ensures.on)))))))))

pub returns-clause-parts : goal.returns-clause-parts
returns-clause-parts c = start_later _ _ c.read_more.new.c _ (moves_on _ _ _ c.in_ok-extended.ensures.on (moves_on _ _ _ c.in_ok-present.ensures.on (moves_on _ _ _ c.in_ok-gasoline.ensures.on (moves_on _ _ _ c.in_ok-diesel.ensures.on (moves_on _ _ _ c.in_ok-natural_gas.ensures.on (moves_on _ _ _ c.in_ok-propane.ensures.on (moves_on _ _ _ c.in_ok-electric.ensures.on (moves_on _ _ _ c.in_ok-hydrogen.ensures.on c.in_ok-other.ensures.on)))))))) c.in_ok-more.ensures.parts

pub returns-clause-marks : goal.returns-clause-marks
returns-clause-marks c = not_marked _ _ _ _ _ c.in_ok-present.ensures.none c.in_ok-other.ensures.exact
