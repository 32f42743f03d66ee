-- The test of the octets of an object identifier says what the relation says.
use Rattle.std.proofs.Common.{◌≡◌, ℕ, Bool, true, false, nat_lt, List, [], ◌∷◌, refl, sym, ◌≢◌, arith}
use Rattle.std.specs.Prelude.{IsTrue, ◌↔◌, ◌==◌, not, ◌&&◌}
use Rattle.std.proofs.lemmas.Bool.Decides.{nat_tests}
use Rattle.per_bits.specs.Parts.{IsOid, ArcsFrom}
use Rattle.msd_fit.specs.Candidates.{are_arcs, is_oid}

-- an octet may stand where an arc begins or goes on
step : (begins : Bool) (o : ℕ) → IsTrue (not (begins && (o == 128))) ↔ (IsTrue begins → o ≢ 128)
step true o = (λ h t e. grind (arith, nat_tests), λ h. grind (arith, nat_tests))
step false o = (λ h t. absurd (cc t), λ h. refl)

and_is : (a b : Bool) (P Q : Type 0) → (IsTrue a ↔ P) → (IsTrue b ↔ Q) → IsTrue (a && b) ↔ (P × Q)
and_is true b P Q p q = (λ h. (p.0 refl, q.0 h), λ h. q.1 h.1)
and_is false b P Q p q = (λ h. absurd (cc h), λ h. absurd (cc (p.1 h.0)))

arcs_are : (begins : Bool) (octets : List ℕ) → IsTrue (are_arcs begins octets) ↔ ArcsFrom begins octets
arcs_are begins [] = (λ h. h, λ h. h)
arcs_are begins (o ∷ octets) = and_is _ _ _ _ (step begins o) (arcs_are (nat_lt o 128) octets)

pub oid_is : (octets : List ℕ) → IsTrue (is_oid octets) ↔ IsOid octets
oid_is [] = (λ h. absurd (cc h), λ h. absurd (h.0 refl))
oid_is (o ∷ octets) =
    let same = arcs_are true (o ∷ octets) in
    (λ h. (λ e. absurd (cc e), same.0 h), λ h. same.1 h.1)

same_bool : (a b : Bool) → (IsTrue a → IsTrue b) → (IsTrue b → IsTrue a) → a ≡ b
same_bool true b f g = sym (f refl)
same_bool false true f g = absurd (cc (g refl))
same_bool false false f g = refl

-- what is true exactly of an identifier is the test
pub tested : (b : Bool) (octets : List ℕ) → (IsTrue b ↔ IsOid octets) → b ≡ is_oid octets
tested b octets e = same_bool b (is_oid octets) (λ h. (oid_is octets).1 (e.0 h)) (λ h. e.1 ((oid_is octets).0 h))
