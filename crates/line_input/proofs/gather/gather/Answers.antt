use Rattle.std.proofs.Common.{◌≡◌, ◌<◌, ◌∙◌, length, sym}
use Rattle.std.proofs.lemmas.Result.{err_from_is_err_and}
use Rattle.std.proofs.lemmas.Bool.{eqb-true}
use Rattle.line_input.proofs.GatherLemmas.{Gathering-more, Gathering-run, GathersLine-end, GathersLine-newline, GathersLine-full, GathersLine-fault, below_full, newline_after_run, newline_after_byte, run_is_some}
use Rattle.line_input.proofs.PlainLemmas.{plain_byte, plain_run}
use Rattle.line_input.proofs.gather.gather.Goals as goal

pub returns-in_err-byte-clause-line : goal.returns-in_err-byte-clause-line
returns-in_err-byte-clause-line g c =
    let p = err_from_is_err_and c.from_residual.result c.from_residual.ensures.1 in
    rw (p.1, p.2) (GathersLine-fault _ _ _ _ _ _ _ _ (Gathering-run _ _ _ _ _ _ _ _ c.loop-byte.invariant.0 c.put_run.ensures.run c.put_run.ensures.text c.put_run.ensures.short) c.in_err-byte.ensures.next)

pub returns-in_default-clause-line : goal.returns-in_default-clause-line
returns-in_default-clause-line g c =
    GathersLine-end _ _ _ _ _ _ _ (Gathering-run _ _ _ _ _ _ _ _ c.loop-byte.invariant.0 c.put_run.ensures.run c.put_run.ensures.text c.put_run.ensures.short) (rw c.in_default.is at c.in_ok-byte.ensures.next)

pub returns-then-byte-eq10-clause-line : goal.returns-then-byte-eq10-clause-line
returns-then-byte-eq10-clause-line g c =
    GathersLine-newline _ _ _ _ _ _ _ _ (Gathering-run _ _ _ _ _ _ _ _ c.loop-byte.invariant.0 c.put_run.ensures.run c.put_run.ensures.text c.put_run.ensures.short) (rw c.in-Some.is at c.in_ok-byte.ensures.next) c.if-byte-eq10.true

pub returns-then-is_full-clause-line : goal.returns-then-is_full-clause-line
returns-then-is_full-clause-line g c =
    let full : length c.put_run.new.text.items ≡ 512 = eqb-true _ _ (sym c.if-is_full.ensures.value) in
    GathersLine-full _ _ _ _ _ _ _ _ (Gathering-run _ _ _ _ _ _ _ _ c.loop-byte.invariant.0 c.put_run.ensures.run c.put_run.ensures.text c.put_run.ensures.short) (rw c.in-Some.is at c.in_ok-byte.ensures.next) c.if-byte-eq10.false full

pub loop-byte-preserved : goal.loop-byte-preserved
loop-byte-preserved g c = let room : length c.put_run.new.text.items < 512 = below_full _ c.if-is_full.ensures.value c.if-is_full.ensures.fits in (
  rw c.push.ensures.items (Gathering-more _ _ _ _ _ _ _ _ (Gathering-run _ _ _ _ _ _ _ _ c.loop-byte.invariant.0 c.put_run.ensures.run c.put_run.ensures.text c.put_run.ensures.short) (rw c.in-Some.is at c.in_ok-byte.ensures.next) c.if-byte-eq10.false room),
  c.in_ok-byte.ensures.stood ∙ c.loop-byte.invariant.1,
  λ some. let now = c.loop-byte.invariant.2 some in (
    newline_after_byte _ _ _ _ _ (rw c.in-Some.is at c.in_ok-byte.ensures.next) c.if-byte-eq10.false (newline_after_run _ _ _ c.put_run.ensures.run now.0),
    c.in_ok-byte.ensures.at_hand (run_is_some _ _ _ c.put_run.ensures.run now.0) ∙ now.1,
  ),
  λ ended. let now = c.loop-byte.invariant.3 ended in (
    c.in_ok-byte.ensures.next.draws.stays (c.put_run.ensures.run.ended ∙ now.0),
    c.in_ok-byte.ensures.ended (c.put_run.ensures.run.ended ∙ now.0) ∙ now.1,
  ),
  plain_byte c.put_run.new.text.items _ _ _ _ c.push.ensures.items c.may_stand.ensures (plain_run _ _ _ _ _ _ _ c.loop-byte.invariant.4 c.are_plain.ensures.pending c.put_run.ensures.run c.put_run.ensures.text),
)

pub returns-in_err-byte-clause-at_hand : goal.returns-in_err-byte-clause-at_hand
returns-in_err-byte-clause-at_hand g c = λ some. let now = c.loop-byte.invariant.2 some in c.in_err-byte.ensures.at_hand (run_is_some _ _ _ c.put_run.ensures.run now.0) ∙ now.1

pub returns-in_default-clause-at_hand : goal.returns-in_default-clause-at_hand
returns-in_default-clause-at_hand g c = λ some. let now = c.loop-byte.invariant.2 some in c.in_ok-byte.ensures.at_hand (run_is_some _ _ _ c.put_run.ensures.run now.0) ∙ now.1

pub returns-then-byte-eq10-clause-at_hand : goal.returns-then-byte-eq10-clause-at_hand
returns-then-byte-eq10-clause-at_hand g c = λ some. let now = c.loop-byte.invariant.2 some in c.in_ok-byte.ensures.at_hand (run_is_some _ _ _ c.put_run.ensures.run now.0) ∙ now.1

pub returns-then-is_full-clause-at_hand : goal.returns-then-is_full-clause-at_hand
returns-then-is_full-clause-at_hand g c = λ some. let now = c.loop-byte.invariant.2 some in c.in_ok-byte.ensures.at_hand (run_is_some _ _ _ c.put_run.ensures.run now.0) ∙ now.1

pub returns-in_err-byte-clause-ended : goal.returns-in_err-byte-clause-ended
returns-in_err-byte-clause-ended g c = λ ended. let now = c.loop-byte.invariant.3 ended in c.in_err-byte.ensures.ended (c.put_run.ensures.run.ended ∙ now.0) ∙ now.1

pub returns-in_default-clause-ended : goal.returns-in_default-clause-ended
returns-in_default-clause-ended g c = λ ended. let now = c.loop-byte.invariant.3 ended in c.in_ok-byte.ensures.ended (c.put_run.ensures.run.ended ∙ now.0) ∙ now.1

pub returns-then-byte-eq10-clause-ended : goal.returns-then-byte-eq10-clause-ended
returns-then-byte-eq10-clause-ended g c = λ ended. let now = c.loop-byte.invariant.3 ended in c.in_ok-byte.ensures.ended (c.put_run.ensures.run.ended ∙ now.0) ∙ now.1

pub returns-then-is_full-clause-ended : goal.returns-then-is_full-clause-ended
returns-then-is_full-clause-ended g c = λ ended. let now = c.loop-byte.invariant.3 ended in c.in_ok-byte.ensures.ended (c.put_run.ensures.run.ended ∙ now.0) ∙ now.1

pub returns-in_err-byte-clause-known : goal.returns-in_err-byte-clause-known
returns-in_err-byte-clause-known g c = plain_run _ _ _ _ _ _ _ c.loop-byte.invariant.4 c.are_plain.ensures.pending c.put_run.ensures.run c.put_run.ensures.text

pub returns-in_default-clause-known : goal.returns-in_default-clause-known
returns-in_default-clause-known g c = plain_run _ _ _ _ _ _ _ c.loop-byte.invariant.4 c.are_plain.ensures.pending c.put_run.ensures.run c.put_run.ensures.text

pub returns-then-byte-eq10-clause-known : goal.returns-then-byte-eq10-clause-known
returns-then-byte-eq10-clause-known g c = plain_run _ _ _ _ _ _ _ c.loop-byte.invariant.4 c.are_plain.ensures.pending c.put_run.ensures.run c.put_run.ensures.text

pub returns-then-is_full-clause-known : goal.returns-then-is_full-clause-known
returns-then-is_full-clause-known g c = plain_run _ _ _ _ _ _ _ c.loop-byte.invariant.4 c.are_plain.ensures.pending c.put_run.ensures.run c.put_run.ensures.text
