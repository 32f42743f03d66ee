-- Whose set octets show, where they are read as a set or refused.
use Rattle.std.proofs.Common.{◌≡◌, ℕ, List, ◌++◌, take, drop, Some, None, Ok, Err, ap, sym, ◌∙◌}
use Rattle.std.proofs.lemmas.List.{take-append-drop, drop-drop}
use Rattle.per_bits.specs.declared.refusals.Refusal.{Refusal}
use Rattle.msd_values.specs.declared.msd.Msd.{Msd}
use Rattle.msd_codec.specs.Reading.{reading_of}
use Rattle.msd_codec.specs.Trees.{tree}
use Rattle.call_register.specs.Vins.{vin_in, vin_of}

-- the four texts of an identification are all of it
joined_all : (vin : List ℕ) → take 3 vin ++ (take 6 (drop 3 vin) ++ (take 1 (drop 9 vin) ++ drop 10 vin)) ≡ vin
joined_all vin =
    let last : take 1 (drop 9 vin) ++ drop 10 vin ≡ drop 9 vin =
    ap (λ (l : List ℕ). take 1 (drop 9 vin) ++ l) (sym (drop-drop 1 9 vin)) ∙ take-append-drop 1 (drop 9 vin) in
    let later : take 6 (drop 3 vin) ++ drop 9 vin ≡ drop 3 vin =
    ap (λ (l : List ℕ). take 6 (drop 3 vin) ++ l) (sym (drop-drop 6 3 vin)) ∙ take-append-drop 6 (drop 3 vin) in
    ap (λ (l : List ℕ). take 3 vin ++ (take 6 (drop 3 vin) ++ l)) last
    ∙ ap (λ (l : List ℕ). take 3 vin ++ l) later
    ∙ take-append-drop 3 vin

-- octets that are read as a set have its number
pub vin_of_read : (octets : List ℕ) (msd : Msd) → reading_of octets ≡ Ok (tree msd) → vin_of octets ≡ Some msd.vin
vin_of_read octets msd is = ap vin_in is ∙ ap Some (joined_all msd.vin)

-- octets that are refused have none
pub vin_of-refused : (octets : List ℕ) (refusal : Refusal) → reading_of octets ≡ Err refusal → vin_of octets ≡ None
vin_of-refused octets refusal is = ap vin_in is
