-- The script of a text: its facts and events, up to the first line that is refused. This project's profile. Cited by
-- the contract of `read_script` and by the reply of `ecall`.
use Rattle.std.specs.Prelude.{ℕ, ◌+◌, Bool, true, false, List, [], ◌∷◌, ◌++◌, codes, Option, Some, None, Result, Ok, Err, if◌then◌else◌}
use Rattle.std.specs.Option.{is_some}
use Rattle.std.specs.Str.{bytes_eq}
use Rattle.msd_fit.specs.declared.facts.Facts.{Facts}
use Rattle.trace_text.specs.EventLines.{event_line}
use Rattle.trace_text.specs.FactLines.{own_fact, set_line}
use Rattle.trace_text.specs.Facts.{facts_in, is_one_too_many}
use Rattle.line_input.specs.Lines.{lines_of, line_fault, is_comment}
use Rattle.line_input.specs.Words.{words}
use Rattle.trace_model.specs.declared.event.Event.{Event}
use Rattle.trace_text.specs.declared.fact_line.FactLine.{FactLine}
use Rattle.line_input.specs.declared.reason.BadLine.{BadLine}
use Rattle.line_input.specs.declared.reason.Reason.{Reason}
use Rattle.line_input.specs.declared.reason.Reason.TheVariants as reason
use Rattle.trace_text.specs.declared.script.ScriptLine.{ScriptLine}
use Rattle.trace_text.specs.declared.script.ScriptLine.TheVariants as line

abbrev pub fact_says : Result FactLine Reason → Result ScriptLine Reason
fact_says (Ok f) = Ok (line.Fact f)
fact_says (Err why) = Err why

abbrev pub event_says : Result Event Reason → Result ScriptLine Reason
event_says (Ok e) = Ok (line.Event e)
event_says (Err why) = Err why

abbrev pub event_answer : Result Event BadLine → Result ScriptLine BadLine
event_answer (Ok e) = Ok (line.Event e)
event_answer (Err bad) = Err bad

-- an event line by its first word and the words behind it; nothing where the first word is that of a fact
abbrev pub event_by_word : List ℕ → List (List ℕ) → Option (Result Event Reason)
event_by_word first rest =
    if is_some (own_fact first rest) then None
    else if bytes_eq first (codes "set") then None
    else Some (event_line first rest)

abbrev pub event_by_words : List (List ℕ) → Option (Result Event Reason)
event_by_words [] = None
event_by_words (first ∷ rest) = event_by_word first rest

-- a line that tells no fact which the vehicle knows of itself
abbrev pub other_by_word : List ℕ → List (List ℕ) → Result ScriptLine Reason
other_by_word first rest =
    if bytes_eq first (codes "set") then fact_says (set_line rest) else event_says (event_line first rest)

-- a line by its first word and the words behind it
abbrev pub line_by_word : List ℕ → List (List ℕ) → Result ScriptLine Reason
line_by_word first rest = elim (own_fact first rest) [ Some says ↦ fact_says says | None ↦ other_by_word first rest ]

abbrev pub line_by_words : List (List ℕ) → Result ScriptLine Reason
line_by_words [] = Err reason.Word
line_by_words (first ∷ rest) = line_by_word first rest

-- what a line says by itself, or why it is refused
abbrev pub script_line : List ℕ → Result ScriptLine Reason
script_line text = line_by_words (words text)

-- what the lines so far said: the facts, in order, and whether an event line came
pub record Said : Type 0 where
  pub facts : List FactLine
  pub eventful : Bool

abbrev pub nothing_said : Said
nothing_said = record { facts = []; eventful = false }

-- a fact line where no event line came: whether it is one candidate too many
abbrev pub placed_fact : List FactLine → FactLine → Result (Option ScriptLine) Reason
placed_fact facts f = if is_one_too_many facts f then Err reason.Many else Ok (Some (line.Fact f))

-- an event line behind these facts: whether they are those that a vehicle needs
abbrev pub placed_event : Option Facts → Event → Result (Option ScriptLine) Reason
placed_event None e = Err reason.Missing
placed_event (Some facts) e = Ok (Some (line.Event e))

-- Whether a line may stand where it stands: a fact line in front of the first event line, and no fifth candidate of
-- additional data; an event line behind the facts that a vehicle needs.
abbrev pub placed : Said → ScriptLine → Result (Option ScriptLine) Reason
placed said (line.Fact f) = if said.eventful then Err reason.Late else placed_fact said.facts f
placed said (line.Event e) = placed_event (facts_in said.facts) e

abbrev pub placed_line : Said → Result ScriptLine Reason → Result (Option ScriptLine) Reason
placed_line said (Ok says) = placed said says
placed_line said (Err why) = Err why

-- what a line says in its place, nothing where it is passed over, or why it is refused
abbrev pub judged : Said → List ℕ → Result (Option ScriptLine) Reason
judged said text =
    elim (line_fault text) [
      | Some why ↦ Err why
      | None ↦ if is_comment text then Ok None else placed_line said (script_line text)
    ]

-- what was said behind a line
abbrev pub said_after : Said → ScriptLine → Said
said_after said (line.Fact f) = record said { facts = said.facts ++ f ∷ [] }
said_after said (line.Event e) = record said { eventful = true }

-- the facts and the events of the lines in front of the first that is refused, and that one
pub record Script : Type 0 where
  pub facts : Option Facts
  pub events : List Event
  pub refused : Option BadLine

-- what a line says, in front of what the lines behind it say
abbrev pub in_front : ScriptLine → Script → Script
in_front (line.Fact f) script = script
in_front (line.Event e) script = record script { events = e ∷ script.events }

-- the script of the lines from a number on
unfoldable pub script_from : Said → ℕ → List (List ℕ) → Script
script_from said number [] = record { facts = facts_in said.facts; events = []; refused = None }
script_from said number (text ∷ texts) = elim (judged said text) [
  | Ok None ↦ script_from said (number + 1) texts
  | Ok (Some says) ↦ in_front says (script_from (said_after said says) (number + 1) texts)
  | Err why ↦
      record { facts = facts_in said.facts; events = []; refused = Some (record { line = number; reason = why }) }
]

-- the script of a text
abbrev pub script_of : List ℕ → Script
script_of bytes = script_from nothing_said 1 (lines_of bytes)
