-- The lines of a script with a relay desk: those of a script, and three event lines more, `pass <call>`,
-- `hand forth <k>` and `hand back <k>`; and what is refused, line by line. This project's profile. Cited by the reply
-- of `relay`.
use Rattle.std.specs.Prelude.{ℕ, true, List, [], ◌∷◌, codes, Option, Some, None, Result, Ok, Err, if◌then◌else◌}
use Rattle.std.specs.Str.{bytes_eq}
use Rattle.msd_fit.specs.declared.facts.Facts.{Facts}
use Rattle.line_input.specs.Lines.{line_fault, is_comment}
use Rattle.line_input.specs.Numbers.{positive}
use Rattle.line_input.specs.Words.{words}
use Rattle.line_input.specs.declared.reason.Reason.{Reason}
use Rattle.line_input.specs.declared.reason.Reason.TheVariants as reason
use Rattle.trace_text.specs.EventLines.{only_number}
use Rattle.trace_text.specs.Facts.{facts_in}
use Rattle.trace_text.specs.Script.{Said, placed, said_after, script_line}
use Rattle.trace_text.specs.declared.script.ScriptLine.{ScriptLine}
use Rattle.relay_text.specs.declared.line.RelayLine.{RelayLine}
use Rattle.relay_text.specs.declared.line.RelayLine.TheVariants as line
use Rattle.relay_text.specs.declared.line.RelayOrder.{RelayOrder}
use Rattle.relay_text.specs.declared.line.RelayOrder.TheVariants as order

-- `pass <call>`
abbrev pub pass_line : List (List ℕ) → Result RelayOrder Reason
pass_line rest = elim (only_number rest) [ Ok call ↦ Ok (order.Pass call) | Err why ↦ Err why ]

-- the order of a number, or the reason where there is none
abbrev pub order_or : (ℕ → RelayOrder) → Option ℕ → Result RelayOrder Reason
order_or order (Some number) = Ok (order number)
order_or order None = Err reason.Number

-- the arguments of `hand` are judged from left to right
abbrev pub hand_of : List ℕ → Option ℕ → Result RelayOrder Reason
hand_of way k =
    if bytes_eq way (codes "forth") then order_or order.Forth k
    else if bytes_eq way (codes "back") then order_or order.Back k
    else Err reason.Word

-- `hand forth|back <k>`
abbrev pub hand_line : List (List ℕ) → Result RelayOrder Reason
hand_line (way ∷ k ∷ []) = hand_of way (positive k)
hand_line _ = Err reason.Count

-- an order to the relay desk by its first word and the words behind it
abbrev pub order_by_word : List ℕ → List (List ℕ) → Option (Result RelayOrder Reason)
order_by_word first rest =
    if bytes_eq first (codes "pass") then Some (pass_line rest)
    else if bytes_eq first (codes "hand") then Some (hand_line rest)
    else None

abbrev pub order_line : List (List ℕ) → Option (Result RelayOrder Reason)
order_line [] = None
order_line (first ∷ rest) = order_by_word first rest

abbrev pub order_says : Result RelayOrder Reason → Result RelayLine Reason
order_says (Ok o) = Ok (line.Order o)
order_says (Err why) = Err why

abbrev pub script_says : Result ScriptLine Reason → Result RelayLine Reason
script_says (Ok says) = Ok (line.Script says)
script_says (Err why) = Err why

-- what a line says by itself, or why it is refused
abbrev pub relay_line : List ℕ → Result RelayLine Reason
relay_line text = elim (order_line (words text)) [ Some says ↦ order_says says | None ↦ script_says (script_line text) ]

-- an order to the relay desk behind these facts: whether they are those that a vehicle needs
abbrev pub placed_order : Option Facts → RelayOrder → Result (Option RelayLine) Reason
placed_order None o = Err reason.Missing
placed_order (Some known) o = Ok (Some (line.Order o))

abbrev pub placed_script : Result (Option ScriptLine) Reason → Result (Option RelayLine) Reason
placed_script (Ok (Some says)) = Ok (Some (line.Script says))
placed_script (Ok None) = Ok None
placed_script (Err why) = Err why

-- whether a line may stand where it stands; an order is an event line
abbrev pub placed_relay : Said → RelayLine → Result (Option RelayLine) Reason
placed_relay said (line.Script says) = placed_script (placed said says)
placed_relay said (line.Order o) = placed_order (facts_in said.facts) o

abbrev pub placed_relay_line : Said → Result RelayLine Reason → Result (Option RelayLine) Reason
placed_relay_line said (Ok says) = placed_relay said says
placed_relay_line said (Err why) = Err why

-- what a line says in its place, nothing where it is passed over, or why it is refused
abbrev pub judged_relay : Said → List ℕ → Result (Option RelayLine) Reason
judged_relay said text =
    elim (line_fault text) [
      | Some why ↦ Err why
      | None ↦ if is_comment text then Ok None else placed_relay_line said (relay_line text)
    ]

-- what was said behind a line
abbrev pub said_behind : Said → RelayLine → Said
said_behind said (line.Script says) = said_after said says
said_behind said (line.Order o) = record said { eventful = true }
