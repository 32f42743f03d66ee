use Rattle.std.proofs.Common.{refl, ◌∙◌}
use Rattle.per_bits.specs.Bits.{digits}
use Rattle.msd_codec.specs.Module.{msd_message}
use Rattle.msd_codec.proofs.Steps.{exit, moves_on, marked_err, marked_is, more_err, more_is, none_is, optional_err, optional_is, presence_err, required_err, required_is}
use Rattle.msd_codec.proofs.Parts.{three}
use Rattle.msd_codec.proofs.reading.message.read_body.Goals as goal

pub returns-in_err-extended-clause-exact : goal.returns-in_err-extended-clause-exact
unfolding msd_message digits
returns-in_err-extended-clause-exact c = exit _ _ _ _ _ c.from_residual.ensures.1 (marked_err _ _ _ c.in_err-extended.ensures.exact)

pub returns-in_err-present-clause-exact : goal.returns-in_err-present-clause-exact
unfolding msd_message digits
returns-in_err-present-clause-exact c = exit _ _ _ _ _ c.from_residual-in_err-present.ensures.1 (presence_err _ _ _ _ _ _ refl c.in_ok-extended.ensures.exact c.in_err-present.ensures.exact)

pub returns-in_err-msd-clause-exact : goal.returns-in_err-msd-clause-exact
unfolding msd_message digits
returns-in_err-msd-clause-exact c = exit _ _ _ _ _ c.from_residual-in_err-msd.ensures.1 (marked_is _ _ _ _ _ _ _ _ refl c.in_ok-extended.ensures.exact c.in_ok-present.ensures.exact (required_err _ _ _ _ _ c.in_err-msd.ensures.exact))

pub returns-in_err-extra-clause-exact : goal.returns-in_err-extra-clause-exact
unfolding msd_message digits
returns-in_err-extra-clause-exact c = exit _ _ _ _ _ c.from_residual-in_err-extra.ensures.1 (marked_is _ _ _ _ _ _ _ _ refl c.in_ok-extended.ensures.exact c.in_ok-present.ensures.exact (required_is _ _ _ _ _ _ _ c.in_ok-msd.ensures.exact
    (optional_err _ _ _ _ _ _ c.in_err-extra.ensures.exact)))

pub returns-in_err-message_more-clause-exact : goal.returns-in_err-message_more-clause-exact
unfolding msd_message digits
returns-in_err-message_more-clause-exact c = exit _ _ _ _ _ c.from_residual-in_err-message_more.ensures.1 (marked_is _ _ _ _ _ _ _ _ refl c.in_ok-extended.ensures.exact c.in_ok-present.ensures.exact (required_is _ _ _ _ _ _ _ c.in_ok-msd.ensures.exact
    (optional_is _ _ _ _ _ _ _ _ c.in_ok-extra.ensures.exact
    (none_is _ _))) ∙ more_err _ _ _ _ c.in_err-message_more.ensures.exact)

pub returns-clause-exact : goal.returns-clause-exact
unfolding msd_message digits
returns-clause-exact c = marked_is _ _ _ _ _ _ _ _ refl c.in_ok-extended.ensures.exact c.in_ok-present.ensures.exact (required_is _ _ _ _ _ _ _ c.in_ok-msd.ensures.exact
    (optional_is _ _ _ _ _ _ _ _ c.in_ok-extra.ensures.exact
    (none_is _ _))) ∙ more_is _ _ _ _ _ c.in_ok-message_more.ensures.exact

pub returns-clause-parts : goal.returns-clause-parts
returns-clause-parts c = three _ _ _ _ c.read_more.new.c _ _ _ (moves_on _ _ _ c.in_ok-extended.ensures.on c.in_ok-present.ensures.on) c.in_ok-msd.ensures.on c.in_ok-msd.ensures.parts c.in_ok-extra.ensures.on c.in_ok-extra.ensures.parts c.in_ok-message_more.ensures.parts

pub returns-clause-on : goal.returns-clause-on
returns-clause-on c = (moves_on _ _ _ c.in_ok-extended.ensures.on (moves_on _ _ _ c.in_ok-present.ensures.on (moves_on _ _ _ c.in_ok-msd.ensures.on (moves_on _ _ _ c.in_ok-extra.ensures.on c.in_ok-message_more.ensures.on))))

pub returns-clause-ends : goal.returns-clause-ends
returns-clause-ends c =
    let s = c.in_ok-msd.ensures.ends in
    record {
      beside = c.read_structure.new.c.start;
      more = c.read_extra.new.c.start;
      structure = record { fuel = s.fuel; time = s.time; more = s.more; fuel_more = s.fuel_more; fields = s.fields; set_more = s.set_more };
      extra = c.in_ok-extra.ensures.fills;
      message_more = c.in_ok-message_more.ensures.fills;
    }
