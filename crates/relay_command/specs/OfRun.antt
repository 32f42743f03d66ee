-- What the trace of a script with a relay desk has to do with that of `run`: its entries of the world are those of
-- `run` for the lines in front of the first that is refused, but for the orders to the desk. This project's profile.
-- Cited by the laws of this crate and by the contract of `ecall`.
use Rattle.std.specs.Prelude.{ℕ, List, [], ◌∷◌, Some, None, Ok, Err}
use Rattle.line_input.specs.Lines.{lines_of}
use Rattle.trace_model.specs.declared.entry.Entry.{Entry}
use Rattle.trace_text.specs.Script.{Said, Script, nothing_said, script_from}
use Rattle.relay_text.specs.ItemLine.{RelayEntry, OfDesk, OfWorld}
use Rattle.relay_text.specs.RelayLines.{judged_relay, said_behind}
use Rattle.relay_text.specs.declared.line.RelayLine.{RelayLine}
use Rattle.relay_text.specs.declared.line.RelayLine.TheVariants as line

-- the entries of the world in a trace with a relay desk
abbrev pub of_world : List RelayEntry → List Entry
of_world [] = []
of_world (OfWorld x ∷ xs) = x ∷ of_world xs
of_world (OfDesk tick item ∷ xs) = of_world xs

-- a line in front of others, unless it is an order to the desk
abbrev pub unless_order : RelayLine → List ℕ → List (List ℕ) → List (List ℕ)
unless_order (line.Script says) text texts = text ∷ texts
unless_order (line.Order o) text texts = texts

-- these lines up to the first that is refused, without the orders to the desk
unfoldable pub without_orders : Said → List (List ℕ) → List (List ℕ)
without_orders said [] = []
without_orders said (text ∷ texts) = elim (judged_relay said text) [
  | Ok None ↦ text ∷ without_orders said texts
  | Ok (Some says) ↦ unless_order says text (without_orders (said_behind said says) texts)
  | Err why ↦ []
]

-- the script that `run` reads in the lines of an input, up to the first that is refused, without the orders to the desk
abbrev pub script_without_orders : List ℕ → Script
script_without_orders input = script_from nothing_said 1 (without_orders nothing_said (lines_of input))
