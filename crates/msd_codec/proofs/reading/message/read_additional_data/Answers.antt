use Rattle.std.proofs.Common.{refl, sym}
use Rattle.msd_codec.specs.Module.{additional_data}
use Rattle.msd_codec.proofs.Steps.{exit, none_is, plain_is, required_err, required_is}
use Rattle.std.proofs.Common.{subst}
use Rattle.per_bits.specs.Bits.{Part, IsInPlace}
use Rattle.msd_codec.proofs.Parts.{oid_tree, oid_err, octets_tree, octets_err, two_parts, two_move, content_follows, oid_start, octets_lie}
use Rattle.msd_codec.proofs.reading.message.read_additional_data.Goals as goal

pub returns-in_err-oid-clause-exact : goal.returns-in_err-oid-clause-exact
unfolding additional_data
returns-in_err-oid-clause-exact c = exit _ _ _ _ _ c.from_residual.ensures.1 (plain_is _ _ _ refl (required_err _ _ _ _ _ (oid_err _ _ c.in_err-oid.ensures.exact)))

pub returns-in_err-content-clause-exact : goal.returns-in_err-content-clause-exact
unfolding additional_data
returns-in_err-content-clause-exact c = exit _ _ _ _ _ c.from_residual-in_err-content.ensures.1 (plain_is _ _ _ refl (required_is _ _ _ _ _ _ _ (oid_tree _ _ _ c.in_ok-oid.ensures.exact)
    (required_err _ _ _ _ _ (octets_err _ _ c.in_err-content.ensures.exact))))

pub returns-clause-exact : goal.returns-clause-exact
unfolding additional_data
returns-clause-exact c = plain_is _ _ _ refl (required_is _ _ _ _ _ _ _ (oid_tree _ _ _ c.in_ok-oid.ensures.exact)
    (required_is _ _ _ _ _ _ _ (octets_tree _ _ _ c.in_ok-content.ensures.exact)
    (none_is _ _)))

pub returns-clause-parts : goal.returns-clause-parts
returns-clause-parts c =
    two_parts _ _ _ _ _
    (subst (λ (p : Part). IsInPlace p) c.octs-oid_in_place.ensures.value c.octs-oid_in_place.ensures.in_place)
    (subst (λ (p : Part). IsInPlace p) c.bits-content_in_place.ensures.value c.bits-content_in_place.ensures.in_place)
    c.in_ok-oid.ensures.exact c.in_ok-content.ensures.exact

pub returns-clause-on : goal.returns-clause-on
returns-clause-on c = two_move _ _ _ _ _ c.in_ok-oid.ensures.exact c.in_ok-content.ensures.exact

pub returns-clause-content : goal.returns-clause-content
returns-clause-content c = content_follows _ _ _ _ _ c.in_ok-oid.ensures.exact c.in_ok-content.ensures.exact

pub returns-clause-fills : goal.returns-clause-fills
returns-clause-fills c =
    (oid_start _ _ _ c.in_ok-oid.ensures.exact, content_follows _ _ _ _ _ c.in_ok-oid.ensures.exact c.in_ok-content.ensures.exact, sym (octets_lie _ _ _ c.in_ok-content.ensures.exact).to)
