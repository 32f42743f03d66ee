use Rattle.std.proofs.Common.{◌≡◌, ◌<◌, ◌≤◌, ◌-◌, suc, length, take, sym, ◌∙◌, subst, arith}
use Rattle.std.specs.List.{AllByRecursion}
use Rattle.std.proofs.lemmas.Bool.{leb-true, ltb-true}
use Rattle.channel_sim.specs.inner.Turns.{calls_of}
use Rattle.channel_sim.proofs.TurnLemmas.{high_back, low_front, none_front}
use Rattle.channel_sim.proofs.calls.turns.begins_at.Goals as goal
use Rattle.channel_sim.proofs.calls.turns.begins_at.Goals.{then-place-eq0, else-place-eq0}

pub returns-then-place-turns-clause-below : goal.returns-then-place-turns-clause-below
returns-then-place-turns-clause-below c =
    λ last rise.
    let place = c.args.place in
    let ts = c.args.turns.now in
    elim c.if-place-eq0.branch [
      | then-place-eq0 w ↦ subst (λ p. AllByRecursion (λ x. x < c.args.from) (take p (calls_of ts))) (sym w.if-place-eq0.true) (none_front (λ x. x < c.args.from) (calls_of ts))
      | else-place-eq0 w ↦
          let next : suc (place - 1) ≡ place = omega (arith, w.if-place-eq0.false) in
          let inside : place - 1 < length ts = omega (arith, c.requires) in
          subst (λ p. AllByRecursion (λ x. x < c.args.from) (take p (calls_of ts))) next
          (low_front c.args.from ts (place - 1) _ rise inside (subst (λ n. n < c.args.from) w.from.ensures (ltb-true _ _ (sym w.below-is ∙ c.if-below.true))))
    ]

pub returns-else-place-turns-clause-below : goal.returns-else-place-turns-clause-below
returns-else-place-turns-clause-below c =
    λ here rise.
    let place = c.args.place in
    let ts = c.args.turns.now in
    elim c.if-place-eq0.branch [
      | then-place-eq0 w ↦ subst (λ p. AllByRecursion (λ x. x < c.args.from) (take p (calls_of ts))) (sym w.if-place-eq0.true) (none_front (λ x. x < c.args.from) (calls_of ts))
      | else-place-eq0 w ↦
          let next : suc (place - 1) ≡ place = omega (arith, w.if-place-eq0.false) in
          let inside : place - 1 < length ts = omega (arith, c.requires) in
          subst (λ p. AllByRecursion (λ x. x < c.args.from) (take p (calls_of ts))) next
          (low_front c.args.from ts (place - 1) _ rise inside (subst (λ n. n < c.args.from) w.from.ensures (ltb-true _ _ (sym w.below-is ∙ c.if-below.true))))
    ]

pub returns-else-place-turns-clause-behind : goal.returns-else-place-turns-clause-behind
returns-else-place-turns-clause-behind c =
    λ here rise.
    let place = c.args.place in
    let ts = c.args.turns.now in
    let inside : place < length ts = omega (arith, c.requires, c.if-place-turns.false) in
    high_back c.args.from ts place _ rise inside (subst (λ n. c.args.from ≤ n) c.from-else-place-turns.ensures (leb-true _ _ here))
