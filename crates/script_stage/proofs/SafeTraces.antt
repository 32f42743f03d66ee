-- Each script's trace is safe up to its last tick, and leaves no voice to be opened.
use Rattle.std.specs.Prelude.{[], Option, Some, None}
use Rattle.std.proofs.lemmas.Bool.{false≢true}
use Rattle.msd_fit.specs.declared.facts.Facts.{Facts}
use Rattle.trace_model.specs.Safety.{Finished, Safe}
use Rattle.trace_text.specs.Script.{Script}
use Rattle.channel_sim.proofs.Whole.{trace_fits}
use Rattle.script_stage.specs.ScriptTrace.{tick_after, played, script_tick, script_trace}

-- nothing is safe
nothing_safe : Safe [] 0
nothing_safe =
    record {
      agreed = tt;
      opened = λ e c. tt;
      bounded = λ e c. record { each = tt; last = λ up muted. absurd (false≢true up) };
    }

pub script_safe : (script : Script) → Safe (script_trace script) (script_tick script)
script_safe script = by_facts script.facts
  where
    by_facts : (o : Option Facts) → Safe (played o script.events) (tick_after o script.events)
    by_facts None = nothing_safe
    by_facts (Some known) = (trace_fits known script.events).safe

pub script_finished : (script : Script) → Finished (script_trace script)
script_finished script = by_facts script.facts
  where
    by_facts : (o : Option Facts) → Finished (played o script.events)
    by_facts None = λ e c owes. owes
    by_facts (Some known) = (trace_fits known script.events).finished
