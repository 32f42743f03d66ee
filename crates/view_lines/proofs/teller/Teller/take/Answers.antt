use Rattle.std.proofs.Common.{◌++◌, ◌∷◌, [], ℕ, List, take, sym, subst, append_assoc, eqb-true}
use Rattle.std.specs.List.{AllByRecursion}
use Rattle.std.proofs.lemmas.Result.{err_from_is_err_and}
use Rattle.line_input.specs.Feed.{IsInner}
use Rattle.view_lines.specs.inner.Standing.{Stands}
use Rattle.view_lines.proofs.PieceLemmas.{inner_all, line_taken, many_taken}
use Rattle.view_lines.proofs.TellerLemmas.{gone_on}
use Rattle.view_lines.proofs.teller.Teller.take.Goals as goal

pub returns-in_err-end_line-clause-most : goal.returns-in_err-end_line-clause-most
returns-in_err-end_line-clause-most g c =
    let p = err_from_is_err_and c.from_residual.result c.from_residual.ensures.1 in
    let kept = c.loop-at.invariant in
    rw (p.1, p.2) (λ is front handed s.
    many_taken g.T.LineTeller.tells g.T.LineTeller.heard front handed c.args.piece.now kept.0 c.loop-at.rest.now
    c.loop-at.self (kept.2 front handed s) kept.1 (c.in_err-end_line.ensures.most is))

pub loop-at-preserved : goal.loop-at-preserved
loop-at-preserved g c =
    let kept = c.loop-at.invariant in
    let rest : List ℕ = c.loop-at.rest.now in
    let first = c.in-Some.ensures in (
      kept.0 ++ (take c.in-Some.at rest ++ 10 ∷ []),
      line_taken c.args.piece.now kept.0 rest c.in-Some.at kept.1 first.0.high (eqb-true _ 10 first.1),
      λ front handed s.
          subst (λ (z : List ℕ). Stands g.T.LineTeller.tells g.T.LineTeller.heard z handed c.end_line.new.self)
          (append_assoc front kept.0 (take c.in-Some.at rest ++ 10 ∷ []))
          (c.in_ok-end_line.ensures.ok (front ++ kept.0) handed (kept.2 front handed s)),
    )

pub returns-clause-ok : goal.returns-clause-ok
returns-clause-ok g c = λ front handed s.
    let kept = c.loop-at.invariant in
    let inner : AllByRecursion IsInner c.loop-at.rest.now = inner_all c.loop-at.rest.now c.in_default.ensures in
    subst (λ (z : List ℕ). Stands g.T.LineTeller.tells g.T.LineTeller.heard (front ++ z) handed c.go_on.new.self)
    (sym kept.1)
    (subst (λ (z : List ℕ). Stands g.T.LineTeller.tells g.T.LineTeller.heard z handed c.go_on.new.self)
    (append_assoc front kept.0 c.loop-at.rest.now)
    (gone_on g.T.LineTeller.tells g.T.LineTeller.heard c.loop-at.self c.go_on.new.self c.loop-at.rest.now c.go_on.ensures
    inner (front ++ kept.0) handed (kept.2 front handed s)))
