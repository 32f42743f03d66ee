use Rattle.std.proofs.Common.{refl, ◌∙◌, rules, w32, arith}
use Rattle.std.proofs.lemmas.Int.{to_z-of_z}
use mir.Val.{SFits}
use Rattle.per_bits.specs.Bits.{digits}
use Rattle.msd_codec.specs.Module.{msd_structure}
use Rattle.msd_codec.proofs.Steps.{exit, structure_is, moves_on, marked_err, marked_is, more_err, none_is, optional_err, optional_is, presence_err, required_err, required_is}
use Rattle.msd_codec.proofs.Parts.{within}
use Rattle.msd_codec.proofs.reading.structure.read_structure.Goals as goal

pub returns-in_err-extended-clause-exact : goal.returns-in_err-extended-clause-exact
unfolding msd_structure digits
returns-in_err-extended-clause-exact c = exit _ _ _ _ _ c.from_residual.ensures.1 (marked_err _ _ _ c.in_err-extended.ensures.exact)

pub returns-in_err-present-clause-exact : goal.returns-in_err-present-clause-exact
unfolding msd_structure digits
returns-in_err-present-clause-exact c = exit _ _ _ _ _ c.from_residual-in_err-present.ensures.1 (presence_err _ _ _ _ _ _ refl c.in_ok-extended.ensures.exact c.in_err-present.ensures.exact)

pub returns-in_err-message-clause-exact : goal.returns-in_err-message-clause-exact
unfolding msd_structure digits
returns-in_err-message-clause-exact c = exit _ _ _ _ _ c.from_residual-in_err-message.ensures.1 (marked_is _ _ _ _ _ _ _ _ refl c.in_ok-extended.ensures.exact c.in_ok-present.ensures.exact (required_err _ _ _ _ _ c.in_err-message.ensures.exact))

pub returns-in_err-control-clause-exact : goal.returns-in_err-control-clause-exact
unfolding msd_structure digits
returns-in_err-control-clause-exact c = exit _ _ _ _ _ c.from_residual-in_err-control.ensures.1 (marked_is _ _ _ _ _ _ _ _ refl c.in_ok-extended.ensures.exact c.in_ok-present.ensures.exact (required_is _ _ _ _ _ _ _ c.in_ok-message.ensures.exact
    (required_err _ _ _ _ _ c.in_err-control.ensures.exact)))

pub returns-in_err-vin-clause-exact : goal.returns-in_err-vin-clause-exact
unfolding msd_structure digits
returns-in_err-vin-clause-exact c = exit _ _ _ _ _ c.from_residual-in_err-vin.ensures.1 (marked_is _ _ _ _ _ _ _ _ refl c.in_ok-extended.ensures.exact c.in_ok-present.ensures.exact (required_is _ _ _ _ _ _ _ c.in_ok-message.ensures.exact
    (required_is _ _ _ _ _ _ _ c.in_ok-control.ensures.exact
    (required_err _ _ _ _ _ c.in_err-vin.ensures.exact))))

pub returns-in_err-storage-clause-exact : goal.returns-in_err-storage-clause-exact
unfolding msd_structure digits
returns-in_err-storage-clause-exact c = exit _ _ _ _ _ c.from_residual-in_err-storage.ensures.1 (marked_is _ _ _ _ _ _ _ _ refl c.in_ok-extended.ensures.exact c.in_ok-present.ensures.exact (required_is _ _ _ _ _ _ _ c.in_ok-message.ensures.exact
    (required_is _ _ _ _ _ _ _ c.in_ok-control.ensures.exact
    (required_is _ _ _ _ _ _ _ c.in_ok-vin.ensures.exact
    (required_err _ _ _ _ _ c.in_err-storage.ensures.exact)))))

pub returns-in_err-time-clause-exact : goal.returns-in_err-time-clause-exact
unfolding msd_structure digits
returns-in_err-time-clause-exact c = exit _ _ _ _ _ c.from_residual-in_err-time.ensures.1 (marked_is _ _ _ _ _ _ _ _ refl c.in_ok-extended.ensures.exact c.in_ok-present.ensures.exact (required_is _ _ _ _ _ _ _ c.in_ok-message.ensures.exact
    (required_is _ _ _ _ _ _ _ c.in_ok-control.ensures.exact
    (required_is _ _ _ _ _ _ _ c.in_ok-vin.ensures.exact
    (required_is _ _ _ _ _ _ _ c.in_ok-storage.ensures.exact
    (required_err _ _ _ _ _ c.in_err-time.ensures.exact))))))

pub returns-in_err-latitude-clause-exact : goal.returns-in_err-latitude-clause-exact
unfolding msd_structure digits
returns-in_err-latitude-clause-exact c = exit _ _ _ _ _ c.from_residual-in_err-latitude.ensures.1 (marked_is _ _ _ _ _ _ _ _ refl c.in_ok-extended.ensures.exact c.in_ok-present.ensures.exact (required_is _ _ _ _ _ _ _ c.in_ok-message.ensures.exact
    (required_is _ _ _ _ _ _ _ c.in_ok-control.ensures.exact
    (required_is _ _ _ _ _ _ _ c.in_ok-vin.ensures.exact
    (required_is _ _ _ _ _ _ _ c.in_ok-storage.ensures.exact
    (required_is _ _ _ _ _ _ _ c.in_ok-time.ensures.exact
    (required_err _ _ _ _ _ c.in_err-latitude.ensures.exact)))))))

pub returns-in_err-heading-clause-exact : goal.returns-in_err-heading-clause-exact
unfolding msd_structure digits
returns-in_err-heading-clause-exact c = exit _ _ _ _ _ c.from_residual-in_err-heading.ensures.1 (marked_is _ _ _ _ _ _ _ _ refl c.in_ok-extended.ensures.exact c.in_ok-present.ensures.exact (required_is _ _ _ _ _ _ _ c.in_ok-message.ensures.exact
    (required_is _ _ _ _ _ _ _ c.in_ok-control.ensures.exact
    (required_is _ _ _ _ _ _ _ c.in_ok-vin.ensures.exact
    (required_is _ _ _ _ _ _ _ c.in_ok-storage.ensures.exact
    (required_is _ _ _ _ _ _ _ c.in_ok-time.ensures.exact
    (required_is _ _ _ _ _ _ _ c.in_ok-latitude.ensures.exact
    (required_err _ _ _ _ _ c.in_err-heading.ensures.exact))))))))

pub returns-in_err-before1-clause-exact : goal.returns-in_err-before1-clause-exact
unfolding msd_structure digits
returns-in_err-before1-clause-exact c = exit _ _ _ _ _ c.from_residual-in_err-before1.ensures.1 (marked_is _ _ _ _ _ _ _ _ refl c.in_ok-extended.ensures.exact c.in_ok-present.ensures.exact (required_is _ _ _ _ _ _ _ c.in_ok-message.ensures.exact
    (required_is _ _ _ _ _ _ _ c.in_ok-control.ensures.exact
    (required_is _ _ _ _ _ _ _ c.in_ok-vin.ensures.exact
    (required_is _ _ _ _ _ _ _ c.in_ok-storage.ensures.exact
    (required_is _ _ _ _ _ _ _ c.in_ok-time.ensures.exact
    (required_is _ _ _ _ _ _ _ c.in_ok-latitude.ensures.exact
    (required_is _ _ _ _ _ _ _ c.in_ok-heading.ensures.exact
    (optional_err _ _ _ _ _ _ c.in_err-before1.ensures.exact)))))))))

pub returns-in_err-before2-clause-exact : goal.returns-in_err-before2-clause-exact
unfolding msd_structure digits
returns-in_err-before2-clause-exact c = exit _ _ _ _ _ c.from_residual-in_err-before2.ensures.1 (marked_is _ _ _ _ _ _ _ _ refl c.in_ok-extended.ensures.exact c.in_ok-present.ensures.exact (required_is _ _ _ _ _ _ _ c.in_ok-message.ensures.exact
    (required_is _ _ _ _ _ _ _ c.in_ok-control.ensures.exact
    (required_is _ _ _ _ _ _ _ c.in_ok-vin.ensures.exact
    (required_is _ _ _ _ _ _ _ c.in_ok-storage.ensures.exact
    (required_is _ _ _ _ _ _ _ c.in_ok-time.ensures.exact
    (required_is _ _ _ _ _ _ _ c.in_ok-latitude.ensures.exact
    (required_is _ _ _ _ _ _ _ c.in_ok-heading.ensures.exact
    (optional_is _ _ _ _ _ _ _ _ c.in_ok-before1.ensures.exact
    (optional_err _ _ _ _ _ _ c.in_err-before2.ensures.exact))))))))))

pub returns-in_err-passengers-clause-exact : goal.returns-in_err-passengers-clause-exact
unfolding msd_structure digits
returns-in_err-passengers-clause-exact c = exit _ _ _ _ _ c.from_residual-in_err-passengers.ensures.1 (marked_is _ _ _ _ _ _ _ _ refl c.in_ok-extended.ensures.exact c.in_ok-present.ensures.exact (required_is _ _ _ _ _ _ _ c.in_ok-message.ensures.exact
    (required_is _ _ _ _ _ _ _ c.in_ok-control.ensures.exact
    (required_is _ _ _ _ _ _ _ c.in_ok-vin.ensures.exact
    (required_is _ _ _ _ _ _ _ c.in_ok-storage.ensures.exact
    (required_is _ _ _ _ _ _ _ c.in_ok-time.ensures.exact
    (required_is _ _ _ _ _ _ _ c.in_ok-latitude.ensures.exact
    (required_is _ _ _ _ _ _ _ c.in_ok-heading.ensures.exact
    (optional_is _ _ _ _ _ _ _ _ c.in_ok-before1.ensures.exact
    (optional_is _ _ _ _ _ _ _ _ c.in_ok-before2.ensures.exact
    (optional_err _ _ _ _ _ _ c.in_err-passengers.ensures.exact)))))))))))

pub returns-in_err-set_more-clause-exact : goal.returns-in_err-set_more-clause-exact
unfolding msd_structure digits
returns-in_err-set_more-clause-exact c = exit _ _ _ _ _ c.from_residual-in_err-set_more.ensures.1 (marked_is _ _ _ _ _ _ _ _ refl c.in_ok-extended.ensures.exact c.in_ok-present.ensures.exact (required_is _ _ _ _ _ _ _ c.in_ok-message.ensures.exact
    (required_is _ _ _ _ _ _ _ c.in_ok-control.ensures.exact
    (required_is _ _ _ _ _ _ _ c.in_ok-vin.ensures.exact
    (required_is _ _ _ _ _ _ _ c.in_ok-storage.ensures.exact
    (required_is _ _ _ _ _ _ _ c.in_ok-time.ensures.exact
    (required_is _ _ _ _ _ _ _ c.in_ok-latitude.ensures.exact
    (required_is _ _ _ _ _ _ _ c.in_ok-heading.ensures.exact
    (optional_is _ _ _ _ _ _ _ _ c.in_ok-before1.ensures.exact
    (optional_is _ _ _ _ _ _ _ _ c.in_ok-before2.ensures.exact
    (optional_is _ _ _ _ _ _ _ _ c.in_ok-passengers.ensures.exact
    (none_is _ _))))))))))) ∙ more_err _ _ _ _ c.in_err-set_more.ensures.exact)

pub returns-clause-exact : goal.returns-clause-exact
unfolding digits
returns-clause-exact c =
    let latitude : SFits w32 c.in_ok-latitude.latitude = search rules in
    let longitude : SFits w32 c.in_ok-latitude.longitude = search rules in
    structure_is _ _ _ _ _ _ _ _ _ _ _ _ _ _ _ _ _ _ _ _ _ _ _ _ _ _ _ _ _ _ _ _ _ c.in_ok-extended.ensures.exact c.in_ok-present.ensures.exact c.in_ok-message.ensures.exact c.in_ok-control.ensures.exact c.in_ok-vin.ensures.exact c.in_ok-storage.ensures.exact c.in_ok-time.ensures.exact c.in_ok-latitude.ensures.exact c.in_ok-heading.ensures.exact c.in_ok-before1.ensures.exact c.in_ok-before2.ensures.exact c.in_ok-passengers.ensures.exact c.in_ok-set_more.ensures.exact (to_z-of_z w32 _ latitude) (to_z-of_z w32 _ longitude)

pub returns-clause-parts : goal.returns-clause-parts
returns-clause-parts c =
    within _ _ _ _ c.read_more.new.c _ _ (moves_on _ _ _ c.in_ok-extended.ensures.on (moves_on _ _ _ c.in_ok-present.ensures.on (moves_on _ _ _ c.in_ok-message.ensures.on (moves_on _ _ _ c.in_ok-control.ensures.on c.in_ok-vin.ensures.on)))) c.in_ok-storage.ensures.on c.in_ok-storage.ensures.parts (moves_on _ _ _ c.in_ok-time.ensures.on (moves_on _ _ _ c.in_ok-latitude.ensures.on (moves_on _ _ _ c.in_ok-heading.ensures.on (moves_on _ _ _ c.in_ok-before1.ensures.on (moves_on _ _ _ c.in_ok-before2.ensures.on c.in_ok-passengers.ensures.on))))) c.in_ok-set_more.ensures.parts

pub returns-clause-on : goal.returns-clause-on
returns-clause-on c = (moves_on _ _ _ c.in_ok-extended.ensures.on (moves_on _ _ _ c.in_ok-present.ensures.on (moves_on _ _ _ c.in_ok-message.ensures.on (moves_on _ _ _ c.in_ok-control.ensures.on (moves_on _ _ _ c.in_ok-vin.ensures.on (moves_on _ _ _ c.in_ok-storage.ensures.on (moves_on _ _ _ c.in_ok-time.ensures.on (moves_on _ _ _ c.in_ok-latitude.ensures.on (moves_on _ _ _ c.in_ok-heading.ensures.on (moves_on _ _ _ c.in_ok-before1.ensures.on (moves_on _ _ _ c.in_ok-before2.ensures.on (moves_on _ _ _ c.in_ok-passengers.ensures.on c.in_ok-set_more.ensures.on))))))))))))

pub returns-clause-ends : goal.returns-clause-ends
returns-clause-ends c = record {
  fuel = c.in_ok-storage.ensures.ends.0;
  time = c.read_storage.new.c.start;
  more = c.read_passengers.new.c.start;
  fuel_more = c.in_ok-storage.ensures.ends.1;
  fields = omega (arith, c.in_ok-time.ensures.step, c.in_ok-latitude.ensures.step, c.in_ok-heading.ensures.step, c.in_ok-before1.ensures.step, c.in_ok-before2.ensures.step, c.in_ok-passengers.ensures.step);
  set_more = c.in_ok-set_more.ensures.fills;
}
