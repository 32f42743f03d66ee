use Rattle.std.proofs.Common.{ℕ, List, refl, ap, take, drop, arith}
use Rattle.per_types.specs.Types.{text, characters}
use Rattle.msd_codec.specs.Module.{vehicle_identification}
use Rattle.msd_codec.proofs.Puts.{plain, required_last, required_next, required_stop, canon_is}
use Rattle.msd_codec.proofs.Texts.{cut_type, last_type, last_text, piece_passes, last_passes}
use Rattle.msd_codec.proofs.writing.structure.write_vin.Goals as goal

pub write_text-requires-clause-pass : goal.write_text-requires-clause-pass
write_text-requires-clause-pass c = piece_passes 3 0 c.text-text.ensures.value c.text-text.ensures.vin

pub write_text-requires-2-clause-pass : goal.write_text-requires-2-clause-pass
write_text-requires-2-clause-pass c = piece_passes 6 3 c.text-text.ensures.value c.text-text.ensures.vin

pub write_text-requires-3-clause-pass : goal.write_text-requires-3-clause-pass
write_text-requires-3-clause-pass c = piece_passes 1 9 c.text-text.ensures.value c.text-text.ensures.vin

pub write_text-requires-4-clause-pass : goal.write_text-requires-4-clause-pass
write_text-requires-4-clause-pass c = last_passes c.text-text.ensures.value c.text-text.ensures.vin

pub returns-in_err-write_text : goal.returns-in_err-write_text
unfolding vehicle_identification
returns-in_err-write_text c =
    plain refl
    (required_stop _ c.from_residual.ensures.1 (canon_is (characters 3) (text (take 3 c.args.vin.now)) (cut_type 3 0 (omega arith) c.text-text.ensures.value c.text-text.ensures.vin) (ap (λ (v : List ℕ). text (take 3 v)) c.text-text.ensures.value) c.in_err-write_text.ensures))

pub returns-in_err-write_text-2 : goal.returns-in_err-write_text-2
unfolding vehicle_identification
returns-in_err-write_text-2 c =
    plain refl
    (required_next (canon_is (characters 3) (text (take 3 c.args.vin.now)) (cut_type 3 0 (omega arith) c.text-text.ensures.value c.text-text.ensures.vin) (ap (λ (v : List ℕ). text (take 3 v)) c.text-text.ensures.value) c.in_ok-write_text.ensures)
    (required_stop _ c.from_residual-in_err-write_text-2.ensures.1 (canon_is (characters 6) (text (take 6 (drop 3 c.args.vin.now))) (cut_type 6 3 (omega arith) c.text-text.ensures.value c.text-text.ensures.vin) (ap (λ (v : List ℕ). text (take 6 (drop 3 v))) c.text-text.ensures.value) c.in_err-write_text-2.ensures)))

pub returns-in_err-write_text-3 : goal.returns-in_err-write_text-3
unfolding vehicle_identification
returns-in_err-write_text-3 c =
    plain refl
    (required_next (canon_is (characters 3) (text (take 3 c.args.vin.now)) (cut_type 3 0 (omega arith) c.text-text.ensures.value c.text-text.ensures.vin) (ap (λ (v : List ℕ). text (take 3 v)) c.text-text.ensures.value) c.in_ok-write_text.ensures)
    (required_next (canon_is (characters 6) (text (take 6 (drop 3 c.args.vin.now))) (cut_type 6 3 (omega arith) c.text-text.ensures.value c.text-text.ensures.vin) (ap (λ (v : List ℕ). text (take 6 (drop 3 v))) c.text-text.ensures.value) c.in_ok-write_text-2.ensures)
    (required_stop _ c.from_residual-in_err-write_text-3.ensures.1 (canon_is (characters 1) (text (take 1 (drop 9 c.args.vin.now))) (cut_type 1 9 (omega arith) c.text-text.ensures.value c.text-text.ensures.vin) (ap (λ (v : List ℕ). text (take 1 (drop 9 v))) c.text-text.ensures.value) c.in_err-write_text-3.ensures))))

pub returns : goal.returns
unfolding vehicle_identification
returns c =
    plain refl
    (required_next (canon_is (characters 3) (text (take 3 c.args.vin.now)) (cut_type 3 0 (omega arith) c.text-text.ensures.value c.text-text.ensures.vin) (ap (λ (v : List ℕ). text (take 3 v)) c.text-text.ensures.value) c.in_ok-write_text.ensures)
    (required_next (canon_is (characters 6) (text (take 6 (drop 3 c.args.vin.now))) (cut_type 6 3 (omega arith) c.text-text.ensures.value c.text-text.ensures.vin) (ap (λ (v : List ℕ). text (take 6 (drop 3 v))) c.text-text.ensures.value) c.in_ok-write_text-2.ensures)
    (required_next (canon_is (characters 1) (text (take 1 (drop 9 c.args.vin.now))) (cut_type 1 9 (omega arith) c.text-text.ensures.value c.text-text.ensures.vin) (ap (λ (v : List ℕ). text (take 1 (drop 9 v))) c.text-text.ensures.value) c.in_ok-write_text-3.ensures)
    (required_last (canon_is (characters 7) (text (drop 10 c.args.vin.now)) (last_type c.text-text.ensures.value c.text-text.ensures.vin) (last_text c.text-text.ensures.value) c.write_text-4.ensures)))))
