use Rattle.std.specs.Prelude.{ℕ}
use Rattle.std.proofs.Common.{refl, sym, ap, subst, ◌∙◌}
use Rattle.std.proofs.lemmas.Result.{err_from_is_err_and}
use Rattle.call_io.specs.Blocks.{held}
use Rattle.line_input.specs.Words.{words}
use Rattle.link_frames.specs.declared.frame.End.TheVariants as «end»
use Rattle.live_link.specs.LiveOutcome.{streams}
use Rattle.live_link.specs.Scripts.{line_by_words, placed_line}
use Rattle.live_link.specs.inner.FrontGoes.{TakesInFront, told_facts}
use Rattle.live_link.proofs.FrontLemmas.{still_now}
use Rattle.live_link.proofs.VehicleFront.{front_ends, front_takes, no_line, refused_here}
use Rattle.live_link.proofs.vehicle_front.read_fact.Goals as goal

pub returns-in_err-found-clause-goes : goal.returns-in_err-found-clause-goes
returns-in_err-found-clause-goes g c over start from to passes f =
    let p = err_from_is_err_and c.from_residual.result c.from_residual.ensures.1 in
    let old = streams (g.S.Source.left c.args.script.now) (held g.O.Sink.held c.args.trace.now) from to passes in
    let now = streams (g.S.Source.left c.next_line.new.script) (held g.O.Sink.held c.next_line.new.trace) from to passes in
    rw (p.1, p.2)
    (no_line over start now (g.S.Source.left c.args.script.now) c.args.lines.now c.next_line.new.lines f.lines f.told
    f.so_far (still_now start old now f.still c.in_err-found.ensures.held refl refl refl) f.same _ c.in_err-found.ensures.reads)

pub returns-then-not-found-clause-goes : goal.returns-then-not-found-clause-goes
returns-then-not-found-clause-goes g c over start from to passes f =
    let old = streams (g.S.Source.left c.args.script.now) (held g.O.Sink.held c.args.trace.now) from to passes in
    let now = streams (g.S.Source.left c.next_line.new.script) (held g.O.Sink.held c.next_line.new.trace) from to passes in
    front_ends over start now (g.S.Source.left c.args.script.now) c.args.lines.now c.next_line.new.lines f.lines f.told
    f.so_far (still_now start old now f.still c.in_ok-found.ensures.held refl refl refl) f.same
    (rw c.if-not-found.true at c.in_ok-found.ensures.reads)

-- a line that is none of the vehicle's was read
pub returns-in-Err-clause-goes : goal.returns-in-Err-clause-goes
returns-in-Err-clause-goes g c over start from to passes f =
    let old = streams (g.S.Source.left c.args.script.now) (held g.O.Sink.held c.args.trace.now) from to passes in
    let now = streams (g.S.Source.left c.next_line.new.script) (held g.O.Sink.held c.next_line.new.trace) from to passes in
    let text = c.text.ensures.text ∙ ap (λ z. z.text) c.line-line.ensures in
    rw c.refused.ensures
    (refused_here over start now (g.S.Source.left c.args.script.now) c.args.lines.now c.next_line.new.lines f.lines f.told
    f.so_far (still_now start old now f.still c.in_ok-found.ensures.held refl refl refl) f.same
    (record { line = c.number.result; reason = c.in-Err.reason })
    (rw c.if-not-found.false at c.in_ok-found.ensures.reads) (c.number.ensures ∙ ap (λ z. z.number) c.line-line.ensures)
    (ap (λ z. placed_line «end».Vehicle (told_facts f.told) z)
    (sym (c.in-Err.ensures ∙ ap (λ z. line_by_words «end».Vehicle (words z)) text))))

-- one of them was read
pub returns-in-Ok-clause-goes : goal.returns-in-Ok-clause-goes
returns-in-Ok-clause-goes g c over start from to passes f =
    let old = streams (g.S.Source.left c.args.script.now) (held g.O.Sink.held c.args.trace.now) from to passes in
    let now = streams (g.S.Source.left c.next_line.new.script) (held g.O.Sink.held c.next_line.new.trace) from to passes in
    let text = c.text.ensures.text ∙ ap (λ z. z.text) c.line-line.ensures in
    front_takes over start now (g.S.Source.left c.args.script.now) c.args.lines.now c.next_line.new.lines f.lines f.told
    f.so_far (still_now start old now f.still c.in_ok-found.ensures.held refl refl refl) f.same
    (rw c.if-not-found.false at c.in_ok-found.ensures.reads) c.in-Ok.says
    (sym (c.in-Ok.ensures ∙ ap (λ z. line_by_words «end».Vehicle (words z)) text)) c.take_in_front.new.draft
    c.take_in_front.result
    (subst (λ (n : ℕ). TakesInFront f.told c.take_in_front.new.draft c.in-Ok.says n c.take_in_front.result)
    (c.number-in-Ok.ensures ∙ ap (λ z. z.number) c.line-line.ensures) (c.take_in_front.ensures.takes f.told f.drafted))
