use Rattle.std.proofs.Common.{sym, ◌∙◌}
use Rattle.per_bits.specs.Bits.{octets_of}
use Rattle.per_types.proofs.Stringwise.{break_here, break_later}
use Rattle.per_types.proofs.readers.strings.first_break.Goals as goal

pub returns-then-breaks-clause-fault : goal.returns-then-breaks-clause-fault
returns-then-breaks-clause-fault c =
    c.loop-i.invariant
    ∙ break_here (octets_of c.args.octs.now.bits) c.count-count.result c.loop-i.i c.at-octet.result c.loop-i.begins c.count-count.ensures.value c.loop-i-test.true c.at-octet.ensures
    (sym c.breaks.ensures ∙ c.if-breaks.true)

pub loop-i-preserved : goal.loop-i-preserved
loop-i-preserved c =
    c.loop-i.invariant
    ∙ break_later (octets_of c.args.octs.now.bits) c.count-count.result c.loop-i.i c.at-octet.result c.loop-i.begins c.count-count.ensures.value c.loop-i-test.true c.at-octet.ensures
    (sym c.breaks.ensures ∙ c.if-breaks.false)
