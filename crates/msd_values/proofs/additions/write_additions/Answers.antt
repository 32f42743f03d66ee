use Rattle.std.proofs.Common.{◌++◌}
use Rattle.std.specs.Prelude.{codes}
use Rattle.std.proofs.lemmas.Result.{err_from_is_err_and}
use Rattle.msd_values.specs.Additions.{additions_text}
use Rattle.msd_values.specs.Texts.{or_none}
use Rattle.msd_values.proofs.PassedFacts.{Passed-put, Passed-then, Passed-fails, Passes-last, GrewPartly-more}
use Rattle.msd_values.proofs.additions.write_additions.Goals as goal

pub returns-in_err-write_section_or_none-clause-passes : goal.returns-in_err-write_section_or_none-clause-passes
returns-in_err-write_section_or_none-clause-passes g c =
    let p = err_from_is_err_and c.from_residual.result c.from_residual.ensures.1 in
    rw p.1 (GrewPartly-more (g.O.Sink.held c.args.out.now) (g.O.Sink.held c.write_section_or_none.new.out) c.args.page.now.items
    (c.args.name.now ++ or_none additions_text c.args.additions.now) (codes "\n")
    (Passed-fails (or_none additions_text c.args.additions.now) (Passed-put (g.O.Sink.held c.args.out.now) c.put.ensures.items) c.in_err-write_section_or_none.ensures.passes))

pub returns-clause-passes : goal.returns-clause-passes
returns-clause-passes g c =
    Passes-last (g.O.Sink.held c.settle.new.out) c.settle.new.page.items c.settle.result
    (Passed-then
    (Passed-then (Passed-put (g.O.Sink.held c.args.out.now) c.put.ensures.items) c.in_ok-write_section_or_none.ensures.passes)
    (Passed-put (g.O.Sink.held c.write_section_or_none.new.out) c.put-2.ensures.items))
    c.settle.ensures.passes
