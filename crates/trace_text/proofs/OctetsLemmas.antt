-- The octets of a ready set, and of a candidate of additional data.
use Rattle.std.proofs.Common.{◌≡◌, ℕ, ◌-◌, eqb, eq-eqb, ◌/◌, ◌≤◌, ◌<◌, Bool, true, false, IsTrue, leb, ltb, List, [], ◌++◌, length, take, drop, replicate, Option, Some, None, Result, Ok, Err, refl, ap, sym, ◌∙◌, arith}
use Rattle.std.proofs.Math.Seq.{take-append_seam}
use Rattle.hex.proofs.HexLemmas.{decode_of-ok}
use Rattle.std.specs.List.{list_all}
use Rattle.std.specs.Result.{result_ok}
use Rattle.std.proofs.lemmas.Bool.{cond_both, lt-ltb, le-leb}
use Rattle.std.proofs.lemmas.List.{append-nil, drop-replicate, drop_all, length-replicate}
use Rattle.hex.specs.Hex.{decode_of}
use Rattle.hex.specs.declared.error.FromHexError.{FromHexError}
use Rattle.msd_fit.specs.Candidates.{candidate_of}
use Rattle.trace_text.specs.EntryLines.{is_lower_digit, set_octets}
use Rattle.trace_text.specs.FactLines.{candidate_from, padded, set_of}
use Rattle.trace_text.specs.Hexadecimal.{octets_of}
use Rattle.trace_text.specs.inner.Decoding.{DecodesTo, DecodesNone, few_of}
use Rattle.trace_text.specs.inner.Placing.{filled}

-- what was decoded to the front of zeros is a ready set
pub set_of-decodes : (text new : List ℕ) (zeros : ℕ) → zeros ≡ 140 → DecodesTo text (replicate zeros 0) new → set_of (octets_of text) ≡ Some new
set_of-decodes text new zeros all decodes =
    let octets : List ℕ = decodes.0 in
    let some : ltb 0 (length text) ≡ true = lt-ltb _ _ decodes.1 in
    let small : leb (length octets) 140 ≡ true = le-leb _ _ (omega (arith, decodes.2, length-replicate {A = ℕ} zeros 0, all)) in
    let rest : new ≡ padded octets = decodes.4 ∙ ap (λ (r : List ℕ). octets ++ r) (drop-replicate (length octets) zeros 0 ∙ ap (λ n. replicate (n - length octets) 0) all) in
    rw (some, decodes.3, small, rest) refl

-- what was decoded has half as many octets as the text has digits
pub half-few : (text old new : List ℕ) → length old ≡ 110 → DecodesTo text old new → length text / 2 ≤ 110
half-few text old new room decodes =
    let sized = decode_of-ok text decodes.0 decodes.3 in omega (arith, sized.2, decodes.2, room)

-- what was decoded to the front of a room is there
pub few_of-decodes : (text old new : List ℕ) → length old ≡ 110 → DecodesTo text old new → Some (take (length text / 2) new) ≡ few_of (octets_of text)
few_of-decodes text old new room decodes =
    let octets : List ℕ = decodes.0 in
    let sized = decode_of-ok text octets decodes.3 in
    let half : length text / 2 ≡ length octets = omega (arith, sized.2) in
    let some : ltb 0 (length text) ≡ true = lt-ltb _ _ decodes.1 in
    let small : leb (length octets) 110 ≡ true = le-leb _ _ (omega (arith, decodes.2, room)) in
    let front : take (length text / 2) new ≡ octets = rw (half, decodes.4) (take-append_seam octets (drop (length octets) old)) in
    ap Some front ∙ sym (rw (some, decodes.3, small) refl)

-- few octets are those that there were
few_of-some : (a : Option (List ℕ)) (octets : List ℕ) → Some octets ≡ few_of a → a ≡ Some octets
few_of-some None octets few = let never : ⊥ = cc in absurd never
few_of-some (Some o) octets few =
    cond_both (leb (length o) 110) (Some o) None (λ v. Some octets ≡ v → Some o ≡ Some octets) (λ _ same. sym same)
    (λ _ same. let never : ⊥ = cc in absurd never) few

-- a candidate of few octets is that of the octets
pub candidate_from-few : (a b : Option (List ℕ)) (oid content : List ℕ) → Some oid ≡ few_of a → Some content ≡ few_of b
    → candidate_of oid content ≡ candidate_from a b
candidate_from-few a b oid content first second = rw (few_of-some a oid first, few_of-some b content second) refl

from_ok : (r : Result (List ℕ) FromHexError) (octets : List ℕ) → result_ok r ≡ Some octets → r ≡ Ok octets
from_ok (Ok o) octets e = let same : o ≡ octets = cc in ap Ok same
from_ok (Err why) octets e = let never : ⊥ = cc in absurd never

-- what hexadecimal spells is what it decodes to
pub octets_of-decodes : (text octets : List ℕ) → octets_of text ≡ Some octets → decode_of text ≡ Ok octets
octets_of-decodes text octets e =
    cond_both (ltb 0 (length text)) (result_ok (decode_of text)) None (λ v. v ≡ Some octets → decode_of text ≡ Ok octets)
    (λ _ same. from_ok (decode_of text) octets same) (λ _ same. let never : ⊥ = cc in absurd never) e

-- at 280 digits of lower case a set is the octets that they spell
pub set_octets-digits : (text : List ℕ) → length text ≡ 280 → list_all is_lower_digit text ≡ true → set_octets text ≡ octets_of text
set_octets-digits text long lower =
    let test : eqb (length text) 280 ≡ true = eq-eqb (length text) 280 long in
    rw (test, lower) refl

-- what fills the room of a set is the set that 280 digits of lower case spell
full-decodes : (text old new : List ℕ) → length text ≡ 280 → list_all is_lower_digit text ≡ true → length old ≡ 140
    → DecodesTo text old new → Some new ≡ set_octets text
full-decodes text old new long lower room decodes =
    let octets : List ℕ = decodes.0 in
    let sized = decode_of-ok text octets decodes.3 in
    let some : ltb 0 (length text) ≡ true = lt-ltb _ _ decodes.1 in
    let none : drop (length octets) old ≡ [] = drop_all (length octets) old (omega (arith, sized.2, long, room)) in
    let whole : new ≡ octets = decodes.4 ∙ ap (λ (r : List ℕ). octets ++ r) none ∙ append-nil octets in
    let spelled : octets_of text ≡ Some octets = rw (some, decodes.3) refl in
    ap Some whole ∙ sym spelled ∙ sym (set_octets-digits text long lower)

-- where nothing is decoded, the digits spell no set
full-none : (text : List ℕ) (room : ℕ) → length text ≡ 280 → list_all is_lower_digit text ≡ true → room ≡ 140
    → DecodesNone text room → None ≡ set_octets text
full-none text room long lower sized none =
    by_case (octets_of text) refl ∙ sym (set_octets-digits text long lower)
  where
    by_case : (r : Option (List ℕ)) → octets_of text ≡ r → None ≡ r
    by_case None e = refl
    by_case (Some octets) e =
        let decoded : decode_of text ≡ Ok octets = octets_of-decodes text octets e in
        let half = decode_of-ok text octets decoded in
        let many : room < length octets = none octets (omega (arith, long)) decoded in
        let never : ⊥ = omega (arith, half.2, long, many, sized) in
        absurd never

-- a room of a set is filled where 280 digits of lower case spell one
pub full-set : (done : Bool) (text old new : List ℕ) → length text ≡ 280 → list_all is_lower_digit text ≡ true
    → length old ≡ 140 → (IsTrue done → DecodesTo text old new) → (done ≡ false → DecodesNone text (length old))
    → filled done new ≡ set_octets text
full-set true text old new long lower room decodes _ = full-decodes text old new long lower room (decodes refl)
full-set false text old new long lower room _ fails = full-none text (length old) long lower room (fails refl)
