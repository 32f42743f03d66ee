-- The summary of octets that are read as a set, or refused.
use Rattle.std.proofs.Common.{◌≡◌, ℕ, List, [], ◌∷◌, ◌++◌, take, drop, codes, decimal, Ok, Err, ap, sym, ◌∙◌}
use Rattle.std.specs.Fmt.{signed_decimal}
use Rattle.std.proofs.lemmas.List.{take-append-drop, drop-drop}
use Rattle.per_bits.specs.declared.refusals.Refusal.{Refusal}
use Rattle.msd_values.specs.declared.msd.Msd.{Msd}
use Rattle.msd_codec.specs.Reading.{reading_of}
use Rattle.msd_codec.specs.Trees.{tree}
use Rattle.trace_text.specs.Summary.{ok_words, refused_words, words_of_reading, summary_words}

-- the four texts of an identification are all of it
vin_joined : (vin : List ℕ) → take 3 vin ++ (take 6 (drop 3 vin) ++ (take 1 (drop 9 vin) ++ drop 10 vin)) ≡ vin
vin_joined vin =
    ap (λ (l : List ℕ). take 3 vin ++ (take 6 (drop 3 vin) ++ l)) (ap (λ (l : List ℕ). take 1 (drop 9 vin) ++ l) (sym (drop-drop 1 9 vin)) ∙ take-append-drop 1 (drop 9 vin))
    ∙ ap (λ (l : List ℕ). take 3 vin ++ l) (ap (λ (l : List ℕ). take 6 (drop 3 vin) ++ l) (sym (drop-drop 6 3 vin)) ∙ take-append-drop 6 (drop 3 vin))
    ∙ take-append-drop 3 vin

-- octets that are read as a set have its summary
pub summary-read : (octets : List ℕ) (msd : Msd) → reading_of octets ≡ Ok (tree msd) → summary_words octets ≡ ok_words msd
summary-read octets msd is =
    ap words_of_reading is
    ∙ ap (λ (vin : List ℕ). codes "ok" ∷ decimal msd.message ∷ vin ∷ decimal msd.time ∷ signed_decimal msd.latitude
    ∷ signed_decimal msd.longitude ∷ []) (vin_joined msd.vin)

-- octets that are refused have the summary of the refusal
pub summary-refused : (octets : List ℕ) (refusal : Refusal) → reading_of octets ≡ Err refusal → summary_words octets ≡ refused_words refusal
summary-refused octets refusal is = ap words_of_reading is
