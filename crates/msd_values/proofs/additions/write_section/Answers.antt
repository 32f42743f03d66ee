use Rattle.std.specs.List.{flat_map}
use Rattle.per_bits.specs.Parts.{members_of, present_members}
use Rattle.msd_values.specs.Additions.{addition_text}
use Rattle.msd_values.proofs.PassedFacts.{Passed-put, Passes-then}
use Rattle.msd_values.proofs.additions.write_section.Goals as goal

pub returns-clause-passes : goal.returns-clause-passes
returns-clause-passes g c = Passes-then (g.O.Sink.held c.write_present.new.out) c.write_present.new.page.items (flat_map addition_text (present_members 0 (members_of c.args.additions.now.bits))) c.write_present.result (Passed-put (g.O.Sink.held c.args.out.now) c.put_count.ensures.items) c.write_present.ensures.passes
