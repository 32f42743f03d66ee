use Rattle.std.proofs.Common.{◌∙◌}
use Rattle.trace_text.proofs.FactLemmas.{is_given}
use Rattle.trace_text.proofs.numbers.read_positive.Goals as goal

pub returns : goal.returns
returns c =
    let n = c.in_ok-read_positive_u32.field-0 in
    is_given c.new.result n (c.new.ensures.some.1 c.in_ok-read_positive_u32.ensures.low) c.new.ensures.value
    ∙ c.in_ok-read_positive_u32.ensures.value
