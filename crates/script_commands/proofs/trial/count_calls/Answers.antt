use Rattle.std.proofs.Common.{arith, sym, subst, ◌∙◌, List}
use Rattle.msd_fit.specs.declared.facts.Facts.TheVariants as facts
use Rattle.msd_fit.specs.declared.facts.OwnFacts.{OwnFacts}
use Rattle.trace_model.specs.declared.event.Event.{Event}
use Rattle.channel_sim.specs.World.{first_world}
use Rattle.channel_sim.specs.PlayStands.{PlayStandsFor}
use Rattle.script_commands.specs.inner.Trialled.{Counted, events_of_calls, made_own}
use Rattle.script_commands.proofs.MadeText.{x_behind-more, x_behind-none}
use Rattle.script_commands.proofs.Trialled.{counted_call, counted_none, counted_passes, counted_tally, events_of_calls-none, halted_calls, length-events_of_calls}
use Rattle.script_commands.proofs.trial.count_calls.Goals as goal

pub loop-made-init : goal.loop-made-init
loop-made-init g c =
    let stands : PlayStandsFor c.new-world.result (first_world (facts.Own made_own)) =
    subst (λ (own : OwnFacts). PlayStandsFor c.new-world.result (first_world (facts.Own own))) c.own_facts.ensures
    c.new-world.ensures.stands in
    record {
      counts =
          subst (λ (es : List Event).
          Counted c.args.moments.now (facts.Own made_own) es c.new-world.result c.new-tally.result c.args.moments.now)
          (sym (events_of_calls-none c.args.seed))
          (counted_none c.args.moments.now (facts.Own made_own) c.new-world.result c.new-tally.result stands
          c.new-world.ensures.calls c.new-world.ensures.reached c.new-tally.ensures);
      drawn = c.new-draws.ensures ∙ sym (x_behind-none c.args.seed);
    }

pub count_call-requires-clause-early : goal.count_call-requires-clause-early
count_call-requires-clause-early g c = (
  c.args.moments.now,
  facts.Own made_own,
  events_of_calls c.args.seed c.loop-made.made,
  c.loop-made.invariant.counts,
  omega (arith, length-events_of_calls c.args.seed c.loop-made.made),
)

pub loop-made-preserved : goal.loop-made-preserved
loop-made-preserved g c =
    let before = c.loop-made.invariant in
    record {
      counts =
          counted_call _ _ c.args.seed c.loop-made.made c.call.result c.loop-made.draws.x _ _ _ before.drawn
          c.call.ensures.times (c.in_ok-count_call.ensures.counts _ _ _ before.counts);
      drawn =
          x_behind-more c.args.seed c.loop-made.made c.loop-made.draws.x c.call.new.self.x before.drawn
          c.call.ensures.x;
    }

pub returns-clause-tally : goal.returns-clause-tally
returns-clause-tally g c =
    counted_tally _ c.args.seed c.loop-made.made _ _ _ (omega arith) c.loop-made.invariant.counts

pub returns-clause-passes : goal.returns-clause-passes
returns-clause-passes g c =
    counted_passes _ c.args.seed c.loop-made.made _ _ _ (omega arith) c.loop-made.invariant.counts

pub returns-in_err-count_call-clause-passes : goal.returns-in_err-count_call-clause-passes
returns-in_err-count_call-clause-passes g c =
    let before = c.loop-made.invariant in
    halted_calls c.args.moments.now c.args.seed c.loop-made.made c.call.result c.loop-made.draws.x
    c.count_call.new.moments before.drawn c.call.ensures.times (omega arith)
    (c.count_call.ensures.few c.args.moments.now (facts.Own made_own) (events_of_calls c.args.seed c.loop-made.made)
    before.counts)
