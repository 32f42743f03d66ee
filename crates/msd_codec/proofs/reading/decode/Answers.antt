use Rattle.std.proofs.Common.{Ok, ◌≡◌, ◌<◌, length, arith, ap, ◌∙◌, sym, inl, inr, ◌⊎◌}
use Rattle.std.proofs.lemmas.Bool.Decides.{nat_tests}
use Rattle.per_bits.proofs.Octets.{are_octets}
use Rattle.per_bits.specs.Bits.{Part}
use Rattle.per_bits.specs.Parts.{AreOctets}
use Rattle.per_bits.proofs.Places.{length_octet_bits}
use Rattle.msd_codec.specs.Sets.{HasSize}
use Rattle.msd_codec.specs.Trees.{tree}
use Rattle.msd_codec.proofs.SetLaws.{refused, rest_refused, passed, in_place, exit_stopped, exit_read, size_refused, answer_is}
use Rattle.msd_codec.proofs.reading.decode.Goals as goal
use Rattle.msd_codec.proofs.reading.decode.Goals.{then-is_empty-via-then-is_empty, then-is_empty-via-else-is_empty+then-octets-gt-MOST_OCTETS}

pub returns-in_err-msd-clause-stopped : goal.returns-in_err-msd-clause-stopped
returns-in_err-msd-clause-stopped c =
    let small : AreOctets c.args.octets.now = are_octets _ (λ i. omega (arith, c.type_inv.octets i)) in
    let size : HasSize c.args.octets.now = (grind (arith, nat_tests), omega arith) in
    exit_stopped _ _ _ small c.from_residual.ensures.1 (refused _ c.of-cursor.result size (c.of-cursor.ensures ∙ c.of.ensures.all) _ _ c.in_err-msd.ensures.exact)

pub check_rest-requires-clause-within : goal.check_rest-requires-clause-within
check_rest-requires-clause-within c =
    let all = ap length c.in_ok-msd.ensures.on.all in
    let whole = ap (λ (p : Part). length p.all) (c.of-cursor.ensures ∙ c.of.ensures.all) in
    omega (arith, c.place.ensures.value, c.place.ensures.in_place.within, all, whole, length_octet_bits c.args.octets.now)

pub returns-in_err-check_rest-clause-stopped : goal.returns-in_err-check_rest-clause-stopped
returns-in_err-check_rest-clause-stopped c =
    let small : AreOctets c.args.octets.now = are_octets _ (λ i. omega (arith, c.type_inv.octets i)) in
    let size : HasSize c.args.octets.now = (grind (arith, nat_tests), omega arith) in
    exit_stopped _ _ _ small c.from_residual-in_err-check_rest.ensures.1 (rest_refused _ c.of-cursor.result size (c.of-cursor.ensures ∙ c.of.ensures.all) _ _ _ _ c.in_ok-msd.ensures.exact c.place.ensures.value c.in_err-check_rest.ensures)

pub returns-clause-shown : goal.returns-clause-shown
returns-clause-shown c =
    let small : AreOctets c.args.octets.now = are_octets _ (λ i. omega (arith, c.type_inv.octets i)) in
    let size : HasSize c.args.octets.now = (grind (arith, nat_tests), omega arith) in
    answer_is _ (Ok _) small (sym (passed _ c.of-cursor.result size (c.of-cursor.ensures ∙ c.of.ensures.all) _ _ _ c.in_ok-msd.ensures.exact c.place.ensures.value c.in_ok-check_rest.ensures))

pub returns-in_err-msd-clause-read : goal.returns-in_err-msd-clause-read
returns-in_err-msd-clause-read c =
    let size : HasSize c.args.octets.now = (grind (arith, nat_tests), omega arith) in
    exit_read tree _ _ _ c.from_residual.ensures.1 (refused _ c.of-cursor.result size (c.of-cursor.ensures ∙ c.of.ensures.all) _ _ c.in_err-msd.ensures.exact)

pub returns-in_err-check_rest-clause-read : goal.returns-in_err-check_rest-clause-read
returns-in_err-check_rest-clause-read c =
    let size : HasSize c.args.octets.now = (grind (arith, nat_tests), omega arith) in
    exit_read tree _ _ _ c.from_residual-in_err-check_rest.ensures.1 (rest_refused _ c.of-cursor.result size (c.of-cursor.ensures ∙ c.of.ensures.all) _ _ _ _ c.in_ok-msd.ensures.exact c.place.ensures.value c.in_err-check_rest.ensures)

pub returns-clause-read : goal.returns-clause-read
returns-clause-read c =
    let size : HasSize c.args.octets.now = (grind (arith, nat_tests), omega arith) in
    passed _ c.of-cursor.result size (c.of-cursor.ensures ∙ c.of.ensures.all) _ _ _ c.in_ok-msd.ensures.exact c.place.ensures.value c.in_ok-check_rest.ensures

pub returns-then-is_empty-clause-read : goal.returns-then-is_empty-clause-read
returns-then-is_empty-clause-read c =
    let size : (length c.args.octets.now ≡ 0) ⊎ (140 < length c.args.octets.now) = elim c.then-is_empty.branch [ then-is_empty-via-then-is_empty w ↦ inl (grind (arith, nat_tests)) | then-is_empty-via-else-is_empty+then-octets-gt-MOST_OCTETS w ↦ inr (omega arith) ] in
    size_refused _ _ size (grind arith)

pub returns-clause-places : goal.returns-clause-places
returns-clause-places c =
    let size : HasSize c.args.octets.now = (grind (arith, nat_tests), omega arith) in
    in_place _ c.of-cursor.result size (c.of-cursor.ensures ∙ c.of.ensures.all) _ c.in_ok-msd.msd c.in_ok-msd.ensures.exact c.in_ok-msd.ensures.ends
