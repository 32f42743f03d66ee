use Rattle.std.proofs.Common.{◌≡◌, ℕ, ◌<◌, ◌≤◌, ◌*◌, ◌+◌, ◌%◌, ◌∙◌, Some, length, take, ap, sym, subst, arith}
use Rattle.std.proofs.lemmas.List.{length-drop}
use Rattle.per_bits.specs.Bits.{octets_of, value_of, Part}
use Rattle.per_bits.proofs.Octets.{octets_count, octet_of_at}
use Rattle.per_bits.proofs.strings.Octs.at.Goals as goal

-- the index lies among the octets of the same part
inside : (p q : Part) (i : ℕ) → p ≡ q → i < length (octets_of q.bits) → i < length (octets_of p.bits)
inside p q i e h = let P : Part → Type 0 = λ r. i < length (octets_of r.bits) in subst P (sym e) h

-- so the octet lies in the part
within : (p q : Part) (i : ℕ) → p ≡ q → length p.bits % 8 ≡ 0 → i < length (octets_of q.bits) → 8 * i + 8 ≤ length p.bits
within p q i e whole h = omega (arith, inside p q i e h, octets_count p.bits whole)

pub overflow_mul-i : goal.overflow_mul-i
overflow_mul-i c = omega (arith, within c.self.inside.bits c.args.self.now c.args.i c.self.view_is c.self.invariant.0 c.requires)

pub behind-requires : goal.behind-requires
behind-requires c = omega (arith, within c.self.inside.bits c.args.self.now c.args.i c.self.view_is c.self.invariant.0 c.requires)

pub number-requires-clause-within : goal.number-requires-clause-within
number-requires-clause-within c = rw c.behind.ensures.value (omega (arith, length-drop (8 * c.args.i) c.self.inside.bits.bits, within c.self.inside.bits c.args.self.now c.args.i c.self.view_is c.self.invariant.0 c.requires))

pub returns : goal.returns
returns c =
    rw (← c.self.view_is)
    (octet_of_at (length (octets_of c.self.inside.bits.bits)) c.self.inside.bits.bits c.args.i (octets_count c.self.inside.bits.bits c.self.invariant.0) (inside c.self.inside.bits c.args.self.now c.args.i c.self.view_is c.requires)
    ∙ ap Some (sym (c.number.ensures.value ∙ ap (λ (p : Part). value_of (take 8 p.bits)) c.behind.ensures.value)))
