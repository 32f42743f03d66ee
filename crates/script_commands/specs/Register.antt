-- What `ecall register` replies to a script: the text of the register of its trace, in one line, or the line that
-- refuses the first line that is refused, alone. This project's profile. Cited by the reply to words and an input.
use Rattle.std.specs.Prelude.{◌≡◌, ℕ, List, [], ◌∷◌, ◌++◌, Option, Some, None}
use Rattle.line_input.specs.Characters.{newline}
use Rattle.trace_text.specs.Script.{script_of}
use Rattle.trace_model.specs.declared.entry.Entry.{Entry}
use Rattle.line_input.specs.declared.reason.BadLine.{BadLine}
use Rattle.call_register.specs.Rows.{Rows}
use Rattle.call_register.specs.Table.{table}
use Rattle.call_register.specs.Text.{table_text}
use Rattle.command_base.specs.declared.refusal.Refused.TheVariants as refused
use Rattle.command_base.specs.declared.status.Status.TheVariants as status
use Rattle.command_base.specs.Refusals.{Reply, refusal_reply}
use Rattle.script_stage.specs.ScriptTrace.{script_trace}

-- the text of a table, and a newline
abbrev pub table_line : Rows → List ℕ
table_line rows = table_text rows ++ newline ∷ []

-- the text at the end of the input
abbrev pub ClosesRegister : List ℕ → Type 0
ClosesRegister text = (rows : Rows) × (text ≡ table_line rows)

-- the line of the register of a trace, or, where a line is refused, the line that refuses it
abbrev pub registered : List Entry → Option BadLine → Reply
registered trace None = record { text = table_line (table trace); status = status.Done }
registered trace (Some bad) = refusal_reply (refused.Line bad)

-- the reply of `register` to an input
abbrev pub register_reply : List ℕ → Reply
register_reply input = registered (script_trace (script_of input)) (script_of input).refused
