-- What a candidate keeps after its identifier and its content were put into zeros.
use Rattle.std.proofs.Common.{◌≡◌, ℕ, ◌+◌, ◌-◌, ◌≤◌, List, ◌++◌, length, take, drop, replicate, refl, ap, sym, ◌∙◌, subst, arith}
use Rattle.std.proofs.lemmas.List.{append_assoc, take_at, drop_at, drop-drop, drop-replicate}
use Rattle.per_bits.specs.Parts.{AreOctets, IsOid}
use Rattle.msd_fit.specs.Candidates.{most_together}
use Rattle.msd_fit.specs.Stored.{StoresData, stored}

stored_oid : (oid content : List ℕ) (n : ℕ) → take (length oid) (stored oid content n) ≡ oid
stored_oid oid content n =
    ap (take (length oid)) (append_assoc oid content _) ∙ take_at oid _ (length oid) refl

stored_content : (oid content : List ℕ) (n : ℕ) → take (length content) (drop (length oid) (stored oid content n)) ≡ content
stored_content oid content n =
    ap (λ l. take (length content) (drop (length oid) l)) (append_assoc oid content _)
    ∙ ap (take (length content)) (drop_at oid _ (length oid) refl) ∙ take_at content _ (length content) refl

stores_stored :
    (oid content : List ℕ) → length oid + length content ≤ most_together → IsOid oid → AreOctets oid → AreOctets content
    → StoresData (stored oid content (length oid + length content)) (length oid) (length content)
stores_stored oid content few valid each others =
    let n : ℕ = length oid + length content in
    let front = stored_oid oid content n in
    let back = stored_content oid content n in
    record {
      valid = subst IsOid (sym front) valid;
      few = few;
      oid_octets = subst AreOctets (sym front) each;
      content_octets = subst AreOctets (sym back) others;
      oid_len = ap length front;
      content_len = ap length back;
      zeros = ap (λ l. stored l (take (length content) (drop (length oid) (stored oid content n))) n) front ∙ ap (λ l. stored oid l n) back;
    }

-- a piece at the front of zeros
pub first_put :
    (n : ℕ) (piece : List ℕ) → (take 0 (replicate n 0) ++ piece) ++ drop (0 + length piece) (replicate n 0) ≡ piece ++ replicate (n - length piece) 0
first_put n piece = ap (λ l. piece ++ l) (drop-replicate (0 + length piece) n 0 ∙ ap (λ k. replicate k 0) (omega arith))

second_put :
    (oid content : List ℕ)
    → (take (length oid) (oid ++ replicate (most_together - length oid) 0) ++ content)
    ++ drop (length oid + length content) (oid ++ replicate (most_together - length oid) 0)
    ≡ stored oid content (length oid + length content)
second_put oid content =
    ap (λ l. (l ++ content) ++ drop (length oid + length content) (oid ++ replicate (most_together - length oid) 0)) (take_at oid _ (length oid) refl)
    ∙ ap (λ l. (oid ++ content) ++ l)
    (sym (drop-drop (length content) (length oid) (oid ++ replicate (most_together - length oid) 0))
    ∙ ap (drop (length content)) (drop_at oid _ (length oid) refl)
    ∙ drop-replicate (length content) (most_together - length oid) 0 ∙ ap (λ n. replicate n 0) (omega arith))

-- first the identifier was put at the front, then the content behind it
pub stores :
    (oid content first second : List ℕ) → length oid + length content ≤ most_together → IsOid oid → AreOctets oid → AreOctets content
    → first ≡ (take 0 (replicate most_together 0) ++ oid) ++ drop (0 + length oid) (replicate most_together 0)
    → second ≡ (take (length oid) first ++ content) ++ drop (length oid + length content) first
    → StoresData second (length oid) (length content)
stores oid content first second few valid each others one two =
    let kept : second ≡ stored oid content (length oid + length content) =
    two ∙ ap (λ l. (take (length oid) l ++ content) ++ drop (length oid + length content) l) (one ∙ first_put most_together oid) ∙ second_put oid content in
    let P : List ℕ → Type 0 = λ l. StoresData l (length oid) (length content) in
    subst P (sym kept) (stores_stored oid content few valid each others)
