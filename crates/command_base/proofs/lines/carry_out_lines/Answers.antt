use Rattle.std.proofs.Common.{Some, ap, arith, refl, sym, subst, ◌∙◌}
use Rattle.call_io.proofs.BlockLemmas.{Onward-append, Onward-nothing}
use Rattle.call_io.specs.Blocks.{held}
use Rattle.line_input.specs.Reading.{Reading}
use Rattle.command_base.specs.Outcome.{Streams, streams_of}
use Rattle.command_base.specs.inner.Standing.{CommandStanding, RepliesFrom, most_from}
use Rattle.command_base.proofs.CommandTurns.{stands_first}
use Rattle.command_base.proofs.WholeReplies.{whole_reply}
use Rattle.command_base.proofs.lines.carry_out_lines.Goals as goal

pub loop-status-init : goal.loop-status-init
loop-status-init g c = record {
  stands = λ first stands.
      let start : Streams =
      streams_of g.I.Source.left (held g.O.Sink.held) c.args.input.now c.args.output.now
      (g.C.LineCommand.count c.args.command.now).passes in
      subst (λ (r : Reading).
      CommandStanding g.C.LineCommand.rest g.C.LineCommand.most first (g.C.LineCommand.stands c.args.command.now) start
      start r) (sym c.new-lines.ensures)
      (stands_first g.C.LineCommand.rest g.C.LineCommand.most first g.C.LineCommand.closes (g.C.LineCommand.stands c.args.command.now) start
      stands);
  bound = rw c.new-lines.ensures (omega arith);
  named = refl;
  silent = λ quiet. refl;
  reads = refl;
  writes = refl;
  onward = Onward-nothing _;
}

pub take_turn-requires : goal.take_turn-requires
take_turn-requires g c =
    let s = c.loop-status.invariant.stands c.requires.0 c.requires.1 in
    record { alive = s.lines.so_far.taken.alive; stands = (s.seen, s.stands) }

pub loop-status-smaller : goal.loop-status-smaller
loop-status-smaller g c =
    let turns = c.in-None.ensures.turns _ c.requires.0 (c.loop-status.invariant.stands c.requires.0 c.requires.1) in
    omega (arith, turns.1, turns.2)

pub loop-status-preserved : goal.loop-status-preserved
loop-status-preserved g c =
    let start : Streams =
    streams_of g.I.Source.left (held g.O.Sink.held) c.args.input.now c.args.output.now
    (g.C.LineCommand.count c.args.command.now).passes in
    let turns = c.in-None.ensures.turns start c.requires.0 (c.loop-status.invariant.stands c.requires.0 c.requires.1) in
    record {
      stands = λ first stands. (c.in-None.ensures.turns start first (c.loop-status.invariant.stands first stands)).0;
      bound = turns.2;
      named = c.in-None.ensures.named ∙ c.loop-status.invariant.named;
      silent = λ quiet. c.in-None.ensures.silent quiet tt ∙ c.loop-status.invariant.silent quiet;
      reads = c.in-None.ensures.unread ∙ c.loop-status.invariant.reads;
      writes = c.in-None.ensures.unwritten ∙ c.loop-status.invariant.writes;
      onward = Onward-append _ _ _ c.loop-status.invariant.onward c.in-None.ensures.onward;
    }

pub returns-in-Some-clause-outcome : goal.returns-in-Some-clause-outcome
returns-in-Some-clause-outcome g c = λ first stands.
    (c.in-Some.ensures.turns _ first (c.loop-status.invariant.stands first stands)).0

pub returns-in-Some-clause-told : goal.returns-in-Some-clause-told
returns-in-Some-clause-told g c = λ first stands.
    (c.in-Some.ensures.turns _ first (c.loop-status.invariant.stands first stands)).1

pub returns-in-Some-clause-handed : goal.returns-in-Some-clause-handed
returns-in-Some-clause-handed g c = λ is. c.in-Some.ensures.handed (ap Some is)

pub returns-in-Some-clause-complete : goal.returns-in-Some-clause-complete
returns-in-Some-clause-complete g c = λ first stands bytes told few uncut.
    whole_reply (RepliesFrom g.C.LineCommand.rest g.C.LineCommand.most first)
    (most_from g.C.LineCommand.rest g.C.LineCommand.most first)
    (streams_of g.I.Source.left (held g.O.Sink.held) c.args.input.now c.args.output.now
    (g.C.LineCommand.count c.args.command.now).passes)
    (streams_of g.I.Source.left (held g.O.Sink.held) c.take_turn.new.input c.take_turn.new.output
    (g.C.LineCommand.count c.take_turn.new.command).passes) bytes told few c.in-Some.status uncut
    (c.in-Some.ensures.turns _ first (c.loop-status.invariant.stands first stands)).0

pub returns-in-Some-clause-silent : goal.returns-in-Some-clause-silent
returns-in-Some-clause-silent g c = λ quiet turn.
    c.in-Some.ensures.silent quiet turn ∙ c.loop-status.invariant.silent quiet
