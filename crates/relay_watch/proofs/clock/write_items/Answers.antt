use Rattle.std.proofs.Common.{◌+◌, drop, subst, sym, ◌∙◌}
use Rattle.std.proofs.lemmas.Result.{err_from_is_err_and}
use Rattle.call_io.specs.Bytes.{Grew, GrewPartly}
use Rattle.call_io.proofs.BytesLemmas.{Grew-append, GrewPartly-after, GrewPartly-longer}
use Rattle.call_io.proofs.BlockLemmas.{Onward-append}
use Rattle.relay_watch.proofs.ClockLemmas.{lines_at, lines_at-around, lines_at-take_more}
use Rattle.relay_watch.proofs.clock.write_items.Goals as goal

pub returns-in_err-write_one-clause-err : goal.returns-in_err-write_one-clause-err
returns-in_err-write_one-clause-err g c =
    let p = err_from_is_err_and c.from_residual.result c.from_residual.ensures.1 in
    rw p.1
    (subst (GrewPartly (g.O.Sink.held c.args.out.now) (g.O.Sink.held c.write_one.new.out))
    (lines_at-around c.args.tick c.args.notes.now c.loop-note.note-index _ c.loop-note-test.true)
    (GrewPartly-longer _ _ _ (lines_at c.args.tick (drop (c.loop-note.note-index + 1) c.args.notes.now))
    (GrewPartly-after _ _ _ _ _ c.loop-note.invariant.wrote c.in_err-write_one.ensures.err)))

pub loop-note-preserved : goal.loop-note-preserved
loop-note-preserved g c =
    record {
      wrote =
          subst (Grew (g.O.Sink.held c.args.out.now) (g.O.Sink.held c.write_one.new.out))
          (sym (lines_at-take_more c.args.tick c.args.notes.now c.loop-note.note-index _ c.loop-note-test.true))
          (Grew-append _ _ _ _ _ c.loop-note.invariant.wrote c.in_ok-write_one.ensures.ok);
      stood = c.in_ok-write_one.ensures.stood ∙ c.loop-note.invariant.stood;
      onward = Onward-append _ _ _ c.loop-note.invariant.onward c.write_one.ensures.onward;
    }
