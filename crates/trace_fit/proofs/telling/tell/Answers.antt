use Rattle.std.proofs.Common.{◌+◌, drop, subst, sym, ◌∙◌}
use Rattle.std.proofs.lemmas.Result.{err_from_is_err_and}
use Rattle.trace_model.specs.History.{told}
use Rattle.trace_fit.proofs.TellingLemmas.{told-take_more, told-around}
use Rattle.trace_fit.proofs.telling.tell.Goals as goal

pub returns-in_err-hear_item-clause-err : goal.returns-in_err-hear_item-clause-err
returns-in_err-hear_item-clause-err g c =
    let p = err_from_is_err_and c.from_residual.result c.from_residual.ensures.1 in
    rw p.1
    (subst (g.H.Listener.partly c.args.to.now c.hear_item.new.self)
    (told-around c.args.tick c.args.items.now c.loop-note.note-index c.note-item.result c.loop-note-test.true c.note-item.is)
    (g.met.H.Listener.longer _ _ _ (told c.args.tick (drop (c.loop-note.note-index + 1) c.args.items.now))
    (g.met.H.Listener.then_partly _ _ _ _ _ c.loop-note.invariant.grew c.in_err-hear_item.ensures.err)))

pub loop-note-preserved : goal.loop-note-preserved
loop-note-preserved g c =
    record {
      grew =
          subst (g.H.Listener.grew c.args.to.now c.hear_item.new.self)
          (sym (told-take_more c.args.tick c.args.items.now c.loop-note.note-index c.note-item.result c.loop-note-test.true c.note-item.is))
          (g.met.H.Listener.twice _ _ _ _ _ c.loop-note.invariant.grew c.in_ok-hear_item.ensures.ok);
      stood = c.in_ok-hear_item.ensures.stood ∙ c.loop-note.invariant.stood;
    }
