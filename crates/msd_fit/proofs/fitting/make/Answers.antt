use Rattle.std.proofs.Common.{◌≡◌, ap, ◌∙◌}
use Rattle.msd_fit.specs.Fitting.{filled}
use Rattle.msd_fit.specs.declared.facts.Facts.TheVariants.{Own}
use Rattle.msd_fit.proofs.Choice.{made_of}
use Rattle.msd_fit.proofs.fitting.make.Goals as goal

pub returns-in-Own-clause-canonical : goal.returns-in-Own-clause-canonical
returns-in-Own-clause-canonical c =
    let is : c.args.facts.now ≡ Own c.in-Own.own = cc c.in-Own.is in
    made_of c.args.facts.now c.in-Own.own c.args.cause c.args.number c.spell.result.items c.fill.result is
    c.spell.ensures.canonical (c.fill.ensures ∙ ap filled c.as_slice.ensures.value)
