use Rattle.std.proofs.Common.{refl, ap, ◌∙◌, List, ℕ}
use Rattle.std.specs.List.{list_all}
use Rattle.line_input.specs.Lines.{is_printable}
use Rattle.line_input.specs.inner.Kinds.{kind_of_gathered}
use Rattle.line_input.specs.declared.gather.Ending.TheVariants as ending
use Rattle.line_input.proofs.PlainLemmas.{inner_run}
use Rattle.line_input.proofs.LentLemmas.{GathersLine-lent}
use Rattle.line_input.proofs.reader.LineReader.next_line.Goals as goal

pub kind_of-requires-clause-known : goal.kind_of-requires-clause-known
kind_of-requires-clause-known g c = λ plain.
    ap (list_all is_printable) c.line.ensures ∙ inner_run c.take_line.new.self.line (c.are_plain-plain.ensures.line plain) c.if-take_line.ensures.takes.inner

pub returns-then-take_line-clause-line : goal.returns-then-take_line-clause-line
returns-then-take_line-clause-line g c = (
  ending.Newline,
  rw (← c.self.view_is) (GathersLine-lent c.self.inside.block.feed c.take_line.new.self.feed _ _ c.take_line.new.self.line refl c.if-take_line.ensures.takes),
  c.kind_of.ensures ∙ ap (λ (l : List ℕ). kind_of_gathered ending.Newline l) c.line.ensures,
)
