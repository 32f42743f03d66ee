-- What `register` has come to behind some lines of its script, what it replies to the others, and what one more line
-- comes to. Cited by the command and by the functions that keep the register.
use Rattle.std.specs.Prelude.{◌≡◌, ℕ, ◌⊎◌, List, Option, Result}
use Rattle.trace_text.specs.Facts.{facts_in}
use Rattle.trace_text.specs.Script.{Said, Script}
use Rattle.trace_model.specs.declared.event.Event.{Event}
use Rattle.line_input.specs.declared.reason.Reason.{Reason}
use Rattle.trace_text.specs.declared.script.ScriptLine.{ScriptLine}
use Rattle.call_register.specs.Growth.{RegisterGrew}
use Rattle.call_register.specs.Rows.{Rows}
use Rattle.call_register.specs.Table.{table}
use Rattle.script_stage.specs.declared.stage.Stage.{Stage}
use Rattle.command_base.specs.declared.status.Status.{Status}
use Rattle.command_base.specs.declared.status.Status.TheVariants as status
use Rattle.command_base.specs.Refusals.{Reply}
use Rattle.script_commands.specs.Register.{registered, table_line}
use Rattle.script_stage.specs.ScriptTrace.{played, script_trace}
use Rattle.command_base.specs.Ends.{EndsWithText}
use Rattle.script_stage.specs.ScriptSeen.{IsTidy, ScriptSeen, script_behind}
use Rattle.script_stage.specs.ScriptTurns.{PlaysTo}
use Rattle.script_stage.specs.Stage.{IsEarly, StageStandsFor}

abbrev pub registered_script : Script → Reply
registered_script script = registered (script_trace script) script.refused

-- the reply to lines behind what was said
abbrev pub RegisteredFrom : ScriptSeen → ℕ → List (List ℕ) → Reply → Type 0
RegisteredFrom seen number texts r = r ≡ registered_script (script_behind seen number texts)

-- The stage stands for what the lines said, and the rows are those of its trace so far.
pub record RegisterStands (before : ℕ) (seen : ScriptSeen) (stage : Stage) (rows : Rows) : Type 0 where
  pub stage_stands : StageStandsFor stage seen.said seen.events
  pub rows_are : rows ≡ table (played (facts_in seen.said.facts) seen.events)
  pub early : IsEarly stage before
  pub tidy : IsTidy seen.said seen.events

-- what a line that was read comes to: the rows grow by its entries, and it alone that is refused is written
abbrev pub Registers : Result (Option ScriptLine) Reason → (number : ℕ) → Said → List Event → (old new : Stage)
    → (rows rows' : Rows) → (held held' : Option (List ℕ)) → (Counted : ℕ → Type 0) → Option Status → Type 0
Registers place number said events old new rows rows' held held' Counted answer =
    PlaysTo place number said events old new held held' (λ es. RegisterGrew rows rows' es × (held' ≡ held))
    (λ es. held' ≡ held) Counted answer

-- the line of these rows was written, or a part of it, or there was no memory for their text
abbrev pub WritesRows : Rows → (held held' : Option (List ℕ)) → Status → Type 0
WritesRows rows held held' answer =
    EndsWithText held held' (table_line rows) status.Done answer ⊎ ((answer ≡ status.Memory) × (held' ≡ held))
