use Rattle.std.proofs.Common.{subst}
use Rattle.per_bits.specs.Bits.{Part, IsInPlace}
use Rattle.msd_codec.proofs.Steps.{exit}
use Rattle.msd_codec.proofs.Parts.{more_none, more_some, more_failed, section_lies, section_fills, section_moves, lie_between}
use Rattle.msd_codec.proofs.reading.elements.read_more.Goals as goal

pub returns-then-not-extended-clause-exact : goal.returns-then-not-extended-clause-exact
returns-then-not-extended-clause-exact c = more_none _ _ c.if-not-extended.true

pub returns-in_err-additions-clause-exact : goal.returns-in_err-additions-clause-exact
returns-in_err-additions-clause-exact c = exit _ _ _ _ _ c.from_residual.ensures.1 (more_failed _ _ _ c.if-not-extended.false c.in_err-additions.ensures.exact)

pub returns-clause-exact : goal.returns-clause-exact
returns-clause-exact c = more_some _ _ _ _ c.if-not-extended.false c.in_ok-additions.ensures.exact

pub returns-clause-parts : goal.returns-clause-parts
returns-clause-parts c =
    lie_between c.args.c.now c.in_ok-additions.additions c.read_additions.new.c (subst (λ (p : Part). IsInPlace p) c.bits-in_place.ensures.value c.bits-in_place.ensures.in_place) (section_lies _ _ _ c.in_ok-additions.ensures.exact)

pub returns-clause-on : goal.returns-clause-on
returns-clause-on c = section_moves _ _ _ c.in_ok-additions.ensures.exact

pub returns-clause-fills : goal.returns-clause-fills
returns-clause-fills c = section_fills _ _ _ c.in_ok-additions.ensures.exact
