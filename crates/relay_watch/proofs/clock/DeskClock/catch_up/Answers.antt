use Rattle.std.proofs.Common.{arith, ◌∙◌}
use Rattle.std.proofs.lemmas.Result.{err_from_is_err_and}
use Rattle.call_io.proofs.BlockLemmas.{Onward-append}
use Rattle.relay_watch.proofs.ClockLemmas.{reach_more, reach_partly}
use Rattle.relay_watch.proofs.clock.DeskClock.catch_up.Goals as goal

pub loop-self-preserved : goal.loop-self-preserved
loop-self-preserved g c =
    let near = c.in_ok-go_on.ensures.ok in
    record {
      later = omega (arith, c.loop-self.invariant.later, near.later);
      within = omega (arith, c.loop-self.invariant.later, near.later, near.within);
      told =
          reach_more c.args.self.now c.loop-self.self c.go_on.new.self c.args.target (g.O.Sink.held c.args.out.now)
          (g.O.Sink.held c.loop-self.out) (g.O.Sink.held c.go_on.new.out) c.loop-self.invariant.later
          c.loop-self.invariant.told near;
      stood = c.in_ok-go_on.ensures.stood ∙ c.loop-self.invariant.stood;
      onward = Onward-append _ _ _ c.loop-self.invariant.onward c.go_on.ensures.onward;
    }

pub returns-in_err-go_on-clause-err : goal.returns-in_err-go_on-clause-err
returns-in_err-go_on-clause-err g c =
    let p = err_from_is_err_and c.from_residual.result c.from_residual.ensures.1 in
    rw p.1
    (reach_partly c.args.self.now c.loop-self.self c.args.target (g.O.Sink.held c.args.out.now)
    (g.O.Sink.held c.loop-self.out) (g.O.Sink.held c.go_on.new.out) c.loop-self.invariant.later c.loop-self-test.true
    c.loop-self.invariant.told c.in_err-go_on.ensures.err)
