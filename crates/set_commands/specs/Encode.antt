-- What `ecall encode` replies to lines with facts of a vehicle and lines that ask for a set of data: for each set that
-- is asked for the octets of the set that fits the facts so far, in hexadecimal, up to the first line that is refused.
-- This project's profile. Cited by the reply to words and an input.
use Rattle.std.specs.Prelude.{ℕ, ◌+◌, List, [], ◌∷◌, ◌++◌, Option, Some, None, Ok, Err}
use Rattle.hex.specs.Hex.{encode_lower}
use Rattle.msd_fit.specs.Fitting.{fits}
use Rattle.msd_fit.specs.declared.cause.Cause.{Cause}
use Rattle.msd_fit.specs.declared.facts.OwnFacts.{OwnFacts}
use Rattle.line_input.specs.Characters.{newline}
use Rattle.trace_text.specs.Encode.{encode_judged}
use Rattle.trace_text.specs.Facts.{own_in}
use Rattle.line_input.specs.Lines.{lines_of}
use Rattle.trace_text.specs.declared.encode.EncodeLine.{EncodeLine}
use Rattle.trace_text.specs.declared.encode.EncodeLine.TheVariants as line
use Rattle.trace_text.specs.declared.fact_line.FactLine.{FactLine}
use Rattle.command_base.specs.declared.refusal.Refused.TheVariants as refused
use Rattle.command_base.specs.declared.status.Status.TheVariants as status
use Rattle.command_base.specs.Refusals.{Reply, refusal_reply, in_front_of}

-- octets in hexadecimal of lower case, and a newline
abbrev pub octets_line : List ℕ → List ℕ
octets_line octets = encode_lower octets ++ newline ∷ []

-- the line of the set that fits; a line that asks for a set before its facts is refused, and writes none
abbrev pub set_line : Option OwnFacts → Cause → ℕ → List ℕ
set_line None cause number = []
set_line (Some own) cause number = octets_line (fits own cause number)

-- what is written for a line behind these facts
abbrev pub written_for : List FactLine → EncodeLine → List ℕ
written_for facts (line.Fact f) = []
written_for facts (line.Write cause number) = set_line (own_in facts) cause number

-- the facts behind a line
abbrev pub facts_behind : List FactLine → EncodeLine → List FactLine
facts_behind facts (line.Fact f) = facts ++ f ∷ []
facts_behind facts (line.Write cause number) = facts

-- the reply to lines from a number on, behind these facts
unfoldable pub encoded_from : List FactLine → ℕ → List (List ℕ) → Reply
encoded_from facts number [] = record { text = []; status = status.Done }
encoded_from facts number (text ∷ texts) = elim (encode_judged facts text) [
  | Ok None ↦ encoded_from facts (number + 1) texts
  | Ok (Some says) ↦ in_front_of (written_for facts says) (encoded_from (facts_behind facts says) (number + 1) texts)
  | Err why ↦ refusal_reply (refused.Line (record { line = number; reason = why }))
]

-- the reply of `encode` to an input
abbrev pub encode_reply : List ℕ → Reply
encode_reply input = encoded_from [] 1 (lines_of input)
