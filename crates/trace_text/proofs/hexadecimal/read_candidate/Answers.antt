use Rattle.std.proofs.Common.{◌∙◌}
use Rattle.trace_text.specs.Hexadecimal.{octets_of, content_of}
use Rattle.trace_text.proofs.OctetsLemmas.{candidate_from-few}
use Rattle.trace_text.proofs.hexadecimal.read_candidate.Goals as goal

pub returns : goal.returns
returns c =
    c.of.ensures.exact
    ∙ candidate_from-few (octets_of c.args.oid.now) (content_of c.args.content.now) c.in_ok-oid.oid.now c.in_ok-content.content.now
    c.in_ok-oid.ensures c.in_ok-content.ensures
