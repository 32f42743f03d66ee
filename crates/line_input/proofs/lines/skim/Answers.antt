use Rattle.std.proofs.Common.{sym, refl, ◌∙◌}
use Rattle.std.proofs.lemmas.Result.{err_from_is_err_and}
use Rattle.line_input.proofs.SkimLemmas.{Skimmed-none, Skimmed-more, ReadsLine-found, ReadsLine-bad, ReadsLine-end, ReadsLine-fault, Cuts-says, Cuts-passed, CutsBad-refused, GathersLine-none, passed_none, newline_too, begins_still}
use Rattle.line_input.proofs.lines.skim.Goals as goal

pub loop-kind-init : goal.loop-kind-init
loop-kind-init g c = (Skimmed-none _ _ _ _ c.requires.done c.requires.few, refl, λ _. (refl, refl), λ ended. (ended, refl))

pub returns-in_err-kind-clause-reads : goal.returns-in_err-kind-clause-reads
returns-in_err-kind-clause-reads g c =
    let p = err_from_is_err_and c.from_residual.result c.from_residual.ensures.1 in
    rw (p.1, p.2) (ReadsLine-fault _ _ _ _ _ _ _ _ c.loop-kind.invariant.0 c.in_err-kind.ensures.line c.in_err-kind.ensures.limit c.in_err-kind.ensures.near)

pub returns-in-NoLine-clause-reads : goal.returns-in-NoLine-clause-reads
returns-in-NoLine-clause-reads g c =
    let none = GathersLine-none _ _ _ _ _ _ c.in_ok-kind.ensures.line.1 (sym (rw c.in-NoLine.is at c.in_ok-kind.ensures.line.2)) in
    ReadsLine-end _ _ _ _ _ _ _ c.loop-kind.invariant.0 none.0 c.in_ok-kind.ensures.limit c.in_ok-kind.ensures.near none.1

pub returns-in-Says-clause-reads : goal.returns-in-Says-clause-reads
returns-in-Says-clause-reads g c =
    let line = c.in_ok-kind.ensures.line.1 in
    let cut = Cuts-says _ _ _ _ _ _ line (sym (rw c.in-Says.is at c.in_ok-kind.ensures.line.2)) in
    ReadsLine-found _ _ _ _ _ _ _ _ c.loop-kind.invariant.0 line.draws line.done c.in_ok-kind.ensures.limit c.in_ok-kind.ensures.near cut.0 cut.1

pub returns-in-Refused-clause-reads : goal.returns-in-Refused-clause-reads
returns-in-Refused-clause-reads g c =
    let line = c.in_ok-kind.ensures.line.1 in
    let cut = CutsBad-refused _ _ _ _ _ _ _ line (sym (rw c.in-Refused.is at c.in_ok-kind.ensures.line.2)) in
    ReadsLine-bad _ _ _ _ _ _ _ _ _ c.loop-kind.invariant.0 line.draws line.done c.in_ok-kind.ensures.limit c.in_ok-kind.ensures.near cut

pub loop-kind-preserved : goal.loop-kind-preserved
loop-kind-preserved g c =
    let line = c.in_ok-kind.ensures.line.1 in
    let cut = Cuts-passed _ _ _ _ _ _ line (sym (rw c.in-PassedOver.is at c.in_ok-kind.ensures.line.2)) in (
      Skimmed-more _ _ _ _ _ _ _ _ c.loop-kind.invariant.0 line.draws line.done cut.0 cut.1,
      c.in_ok-kind.ensures.stood ∙ c.loop-kind.invariant.1,
      λ begins. absurd (passed_none _ _ _ _ _ _ line (sym (rw c.in-PassedOver.is at c.in_ok-kind.ensures.line.2)) (begins_still _ _ (c.loop-kind.invariant.2 begins).0 begins)),
      λ ended. let now = c.loop-kind.invariant.3 ended in (line.draws.stays now.0, c.in_ok-kind.ensures.ended now.0 ∙ now.1),
    )

pub returns-in_err-kind-clause-at_hand : goal.returns-in_err-kind-clause-at_hand
returns-in_err-kind-clause-at_hand g c = λ begins. let first = c.loop-kind.invariant.2 begins in c.in_err-kind.ensures.at_hand (newline_too c.loop-kind.reader.feed.pending (begins_still _ _ first.0 begins)) ∙ first.1

pub returns-in-NoLine-clause-at_hand : goal.returns-in-NoLine-clause-at_hand
returns-in-NoLine-clause-at_hand g c = λ begins. let first = c.loop-kind.invariant.2 begins in c.in_ok-kind.ensures.at_hand (newline_too c.loop-kind.reader.feed.pending (begins_still _ _ first.0 begins)) ∙ first.1

pub returns-in-Says-clause-at_hand : goal.returns-in-Says-clause-at_hand
returns-in-Says-clause-at_hand g c = λ begins. let first = c.loop-kind.invariant.2 begins in c.in_ok-kind.ensures.at_hand (newline_too c.loop-kind.reader.feed.pending (begins_still _ _ first.0 begins)) ∙ first.1

pub returns-in-Refused-clause-at_hand : goal.returns-in-Refused-clause-at_hand
returns-in-Refused-clause-at_hand g c = λ begins. let first = c.loop-kind.invariant.2 begins in c.in_ok-kind.ensures.at_hand (newline_too c.loop-kind.reader.feed.pending (begins_still _ _ first.0 begins)) ∙ first.1

pub returns-in_err-kind-clause-ended : goal.returns-in_err-kind-clause-ended
returns-in_err-kind-clause-ended g c = λ ended. let now = c.loop-kind.invariant.3 ended in c.in_err-kind.ensures.ended now.0 ∙ now.1

pub returns-in-NoLine-clause-ended : goal.returns-in-NoLine-clause-ended
returns-in-NoLine-clause-ended g c = λ ended. let now = c.loop-kind.invariant.3 ended in c.in_ok-kind.ensures.ended now.0 ∙ now.1

pub returns-in-Says-clause-ended : goal.returns-in-Says-clause-ended
returns-in-Says-clause-ended g c = λ ended. let now = c.loop-kind.invariant.3 ended in c.in_ok-kind.ensures.ended now.0 ∙ now.1

pub returns-in-Refused-clause-ended : goal.returns-in-Refused-clause-ended
returns-in-Refused-clause-ended g c = λ ended. let now = c.loop-kind.invariant.3 ended in c.in_ok-kind.ensures.ended now.0 ∙ now.1
