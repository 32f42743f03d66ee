-- What `ecall run` replies to a script: its trace, and then the refusal of the first line that is refused. This
-- project's profile. Cited by the reply to words and an input.
use Rattle.std.specs.Prelude.{ℕ, List}
use Rattle.trace_text.specs.EntryLine.{text_of}
use Rattle.trace_text.specs.Script.{script_of}
use Rattle.command_base.specs.Refusals.{Reply}
use Rattle.script_stage.specs.ScriptTrace.{ended, script_trace}

-- the reply of `run` to an input
abbrev pub run_reply : List ℕ → Reply
run_reply input = ended (text_of (script_trace (script_of input))) (script_of input).refused
