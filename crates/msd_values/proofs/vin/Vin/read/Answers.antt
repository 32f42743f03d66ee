use Rattle.std.proofs.Common.{◌≡◌, ℕ, ◌≤◌, List, length, refl, sym, subst, arith}
use Rattle.msd_values.specs.Vin.{IsVin, fault_place}
use Rattle.msd_values.proofs.VinFacts.{IsVin-far, fault_place-IsVin}
use Rattle.msd_values.proofs.vin.Vin.read.Goals as goal
use Rattle.msd_values.proofs.vin.Vin.read.Goals.{then-place-lt17-via-then-place-lt17, then-place-lt17-via-else-place-lt17+then-text-ne17}

pub returns-then-place-lt17-clause-vin : goal.returns-then-place-lt17-clause-vin
returns-then-place-lt17-clause-vin c = (
  λ no. cc,
  λ vin.
      let whole : fault_place c.args.text.now ≡ 17 = fault_place-IsVin c.args.text.now vin in
      let long : length c.args.text.now ≡ 17 = vin.0 in
      elim c.then-place-lt17.branch [
        | then-place-lt17-via-then-place-lt17 w ↦ absurd (omega (arith, c.good_front-place.ensures.place, w.if-place-lt17.true))
        | then-place-lt17-via-else-place-lt17+then-text-ne17 w ↦ absurd (w.if-text-ne17.true long)
      ],
)

vin_of : (text : List ℕ) (place : ℕ) → place ≡ fault_place text → 17 ≤ place → length text ≡ 17 → IsVin text
vin_of text place at far len = IsVin-far text (omega arith) len

pub returns-clause-vin : goal.returns-clause-vin
returns-clause-vin c = (
  λ _. vin_of c.args.text.now c.good_front-place.result c.good_front-place.ensures.place c.if-place-lt17.false c.if-text-ne17.false,
  λ _. refl,
)

pub invariant_of-result : goal.invariant_of-result
invariant_of-result c =
    subst IsVin (sym c.copy_from_slice.ensures.after)
    (vin_of c.args.text.now c.good_front-place.result c.good_front-place.ensures.place c.if-place-lt17.false c.if-text-ne17.false)
