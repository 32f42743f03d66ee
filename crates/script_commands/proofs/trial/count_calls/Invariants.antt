use Rattle.std.proofs.Common.{◌≡◌}
use Rattle.msd_fit.specs.declared.facts.Facts.TheVariants as facts
use Rattle.script_commands.specs.Make.{x_behind}
use Rattle.script_commands.specs.inner.Trialled.{Counted, events_of_calls, made_own}
use Rattle.script_commands.proofs.trial.count_calls.Given as goal

-- the calls so far were counted
abbrev pub invariant-loop-made : goal.invariant-loop-made
invariant-loop-made g l = record {
  counts :
      Counted l.fn.moments (facts.Own made_own) (events_of_calls l.seed l.made) l.world l.tally l.moments;
  drawn : l.draws.x ≡ x_behind l.seed l.made;
}
