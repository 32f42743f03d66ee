-- How a candidate keeps its octets: those of the identifier, those of the content, and zeros up to the limit. Cited by
-- the model of `Candidate` alone.
use Rattle.std.specs.Prelude.{◌≡◌, ℕ, ◌+◌, ◌-◌, ◌≤◌, List, ◌++◌, length, take, drop, replicate}
use Rattle.std.proofs.Common.{ap, ◌∙◌}
use Rattle.per_bits.specs.Parts.{AreOctets, IsOid}
use Rattle.msd_fit.specs.Candidates.{most_together}

-- the octets that stand for these two, where they have so many together
abbrev pub stored : List ℕ → List ℕ → ℕ → List ℕ
stored oid content together = (oid ++ content) ++ replicate (most_together - together) 0

-- the octets begin with an identifier of so many octets, a content of so many follows, and then zeros
pub record StoresData (octets : List ℕ) (oid content : ℕ) : Type 0 where
  pub valid : IsOid (take oid octets)
  pub few : oid + content ≤ most_together
  pub oid_octets : AreOctets (take oid octets)
  pub content_octets : AreOctets (take content (drop oid octets))
  pub oid_len : length (take oid octets) ≡ oid
  pub content_len : length (take content (drop oid octets)) ≡ content
  pub zeros : stored (take oid octets) (take content (drop oid octets)) (oid + content) ≡ octets

-- so these two give the octets back
pub given_back :
    (octets : List ℕ) (oid content : ℕ) → StoresData octets oid content
    → stored
    (take oid octets)
    (take content (drop oid octets))
    (length (take oid octets) + length (take content (drop oid octets)))
    ≡ octets
given_back octets oid content h =
    ap
    (λ n. stored (take oid octets) (take content (drop oid octets)) (n + length (take content (drop oid octets))))
    h.oid_len
    ∙ ap (λ n. stored (take oid octets) (take content (drop oid octets)) (oid + n)) h.content_len
    ∙ h.zeros
