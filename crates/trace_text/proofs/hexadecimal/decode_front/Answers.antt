use Rattle.std.proofs.Common.{arith}
use Rattle.hex.proofs.HexLemmas.{decode_of-ok}
use Rattle.trace_text.proofs.hexadecimal.decode_front.Goals as goal
use Rattle.trace_text.proofs.hexadecimal.decode_front.Goals.{then-count-eq0-via-then-count-eq0, then-count-eq0-via-else-count-eq0+then-count-into}

pub returns-then-count-eq0-clause-no : goal.returns-then-count-eq0-clause-no
returns-then-count-eq0-clause-no c = λ _ octets some decodes.
    let sized = decode_of-ok c.args.text.now octets decodes in
    elim c.then-count-eq0.branch [
      | then-count-eq0-via-then-count-eq0 w ↦ omega (arith, sized.0, sized.2, w.if-count-eq0.true)
      | then-count-eq0-via-else-count-eq0+then-count-into w ↦ omega (arith, sized.0, sized.2, w.if-count-into.true)
    ]
