use Rattle.std.proofs.Common.{◌≡◌, ◌∷◌, [], ◌++◌, fold}
use Rattle.json.specs.Token.{begin_array}
use Rattle.call_register.specs.inner.Tokens.{with_row}
use Rattle.call_register.proofs.register.Register.write.Given as goal

abbrev pub invariant-loop-call : goal.invariant-loop-call
invariant-loop-call l =
    (fold with_row l.out.tokens l.call-iterator ≡ fold with_row (l.fn.out.tokens ++ begin_array ∷ []) l.self)
    × (l.out.before ≡ l.fn.out.before)
