use Rattle.std.proofs.Common.{[], refl, arith, ◌∙◌}
use Rattle.view_lines.proofs.TellingLemmas.{ran_out, so_far_first}
use Rattle.view_lines.proofs.telling.tell_lines.Goals as goal

pub loop-init : goal.loop-init
loop-init g c = record {
  told = (
    [],
    so_far_first g.T.LineTeller.tells g.T.LineTeller.ends g.T.LineTeller.heard (g.I.Source.left c.args.input.now) (g.O.Sink.held c.args.output.now) c.new-teller.result
        (c.new-teller.ensures.stands c.requires) c.new-teller.ensures.empty,
    omega arith,
  );
  read = refl;
  wrote = refl;
}

pub loop-preserved : goal.loop-preserved
loop-preserved g c =
    let s = c.loop.invariant.told in
    let told = rw c.if-not-more.false at (c.in-Ok.ensures.told _ _ s.0 c.loop.counter s.2 s.1) in record {
      told = told;
      read = c.in-Ok.ensures.unread ∙ c.loop.invariant.read;
      wrote = c.in-Ok.ensures.unwritten ∙ c.loop.invariant.wrote;
    }

pub returns-then-not-more-clause-outcome : goal.returns-then-not-more-clause-outcome
returns-then-not-more-clause-outcome g c =
    let s = c.loop.invariant.told in
    let told = rw c.if-not-more.true at (c.in-Ok.ensures.told _ _ s.0 c.loop.counter s.2 s.1) in
    c.tell_end.ensures.told _ _ _ told.0 told.1 told.2

pub returns-in-Err-clause-outcome : goal.returns-in-Err-clause-outcome
returns-in-Err-clause-outcome g c =
    let s = c.loop.invariant.told in c.in-Err.ensures.told _ _ s.0 c.loop.counter s.2 s.1

pub returns-clause-outcome : goal.returns-clause-outcome
returns-clause-outcome g c =
    let s = c.loop.invariant.told in
    ran_out g.T.LineTeller.tells g.T.LineTeller.ends g.T.LineTeller.heard (g.I.Source.left c.args.input.now) (g.I.Source.left c.loop.input) (g.O.Sink.held c.args.output.now)
    (g.O.Sink.held c.loop.output) c.loop.teller s.0 s.1 (omega arith)
