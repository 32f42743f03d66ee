-- The lines of `encode`: fact lines, and lines that ask for a set of data to be written. This project's profile. Cited
-- by the contract of `read_encode`, and by the reply of `ecall encode`.
use Rattle.std.specs.Prelude.{ℕ, List, [], ◌∷◌, codes, Option, Some, None, Result, Ok, Err, if◌then◌else◌}
use Rattle.std.specs.Str.{bytes_eq}
use Rattle.msd_fit.specs.declared.cause.Cause.{Cause}
use Rattle.msd_fit.specs.declared.facts.OwnFacts.{OwnFacts}
use Rattle.trace_text.specs.Choices.{cause_of}
use Rattle.trace_text.specs.FactLines.{own_fact}
use Rattle.trace_text.specs.Facts.{own_in, is_one_too_many}
use Rattle.line_input.specs.Lines.{line_fault, is_comment}
use Rattle.line_input.specs.Numbers.{natural_below}
use Rattle.line_input.specs.Words.{words}
use Rattle.trace_text.specs.declared.encode.EncodeLine.{EncodeLine}
use Rattle.trace_text.specs.declared.encode.EncodeLine.TheVariants as line
use Rattle.trace_text.specs.declared.fact_line.FactLine.{FactLine}
use Rattle.line_input.specs.declared.reason.Reason.{Reason}
use Rattle.line_input.specs.declared.reason.Reason.TheVariants as reason

-- the arguments of `write` are judged from left to right
abbrev pub write_of : Option Cause → Option ℕ → Result EncodeLine Reason
write_of None number = Err reason.Word
write_of (Some cause) None = Err reason.Number
write_of (Some cause) (Some number) = Ok (line.Write cause number)

-- `write auto|manual|test <number>`, a number from 0 to 255
abbrev pub write_line : List (List ℕ) → Result EncodeLine Reason
write_line (cause ∷ number ∷ []) = write_of (cause_of cause) (natural_below 256 number)
write_line _ = Err reason.Count

abbrev pub fact_says : Result FactLine Reason → Result EncodeLine Reason
fact_says (Ok f) = Ok (line.Fact f)
fact_says (Err why) = Err why

abbrev pub other_by_word : List ℕ → List (List ℕ) → Result EncodeLine Reason
other_by_word first rest = if bytes_eq first (codes "write") then write_line rest else Err reason.Word

-- A line by its first word and the words behind it. A ready set is no fact here.
abbrev pub encode_by_word : List ℕ → List (List ℕ) → Result EncodeLine Reason
encode_by_word first rest = elim (own_fact first rest) [ Some says ↦ fact_says says | None ↦ other_by_word first rest ]

abbrev pub encode_by_words : List (List ℕ) → Result EncodeLine Reason
encode_by_words [] = Err reason.Word
encode_by_words (first ∷ rest) = encode_by_word first rest

-- what a line says by itself, or why it is refused
abbrev pub encode_line : List ℕ → Result EncodeLine Reason
encode_line text = encode_by_words (words text)

-- a line that asks for a set of these facts: whether they are those that a set needs
abbrev pub placed_write : Option OwnFacts → Cause → ℕ → Result (Option EncodeLine) Reason
placed_write None cause number = Err reason.Missing
placed_write (Some own) cause number = Ok (Some (line.Write cause number))

-- Whether a line may stand behind these fact lines: a fact line where it is no fifth candidate of additional data, and
-- a set may be asked for behind the facts that it needs.
abbrev pub encode_placed : List FactLine → EncodeLine → Result (Option EncodeLine) Reason
encode_placed facts (line.Fact f) = if is_one_too_many facts f then Err reason.Many else Ok (Some (line.Fact f))
encode_placed facts (line.Write cause number) = placed_write (own_in facts) cause number

abbrev pub encode_placed_line : List FactLine → Result EncodeLine Reason → Result (Option EncodeLine) Reason
encode_placed_line facts (Ok says) = encode_placed facts says
encode_placed_line facts (Err why) = Err why

-- what a line says in its place, nothing where it is passed over, or why it is refused
abbrev pub encode_judged : List FactLine → List ℕ → Result (Option EncodeLine) Reason
encode_judged facts text =
    elim (line_fault text) [
      | Some why ↦ Err why
      | None ↦ if is_comment text then Ok None else encode_placed_line facts (encode_line text)
    ]
