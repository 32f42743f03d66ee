use Rattle.std.proofs.Common.{◌≡◌, ◌∷◌, [], ◌++◌, drop, fold}
use Rattle.json.specs.Token.{begin_array}
use Rattle.call_register.specs.inner.Tokens.{with_set}
use Rattle.call_register.proofs.text.write_sets.Given as goal

abbrev pub invariant-loop-set : goal.invariant-loop-set
invariant-loop-set l =
    (fold with_set l.out.tokens (drop l.set-index l.sets) ≡ fold with_set (l.fn.out.tokens ++ begin_array ∷ []) l.sets)
    × (l.out.before ≡ l.fn.out.before)
