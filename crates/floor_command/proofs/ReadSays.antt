-- What a line says, by what it says behind its number.
use Rattle.std.specs.Prelude.{◌≡◌, ℕ, List, Result, Ok, Err}
use Rattle.std.proofs.Common.{ap, ◌∙◌}
use Rattle.line_input.specs.Lines.{Numbered, line_answer}
use Rattle.line_input.specs.declared.reason.BadLine.{BadLine}
use Rattle.line_input.specs.declared.reason.Reason.{Reason}
use Rattle.floor_text.specs.declared.line.NumberedLine.{NumberedLine}
use Rattle.floor_command.specs.FloorScript.{line_says, numbered_says}
use Rattle.floor_command.specs.declared.says.FloorLine.{FloorLine}

pub read_ok : (line : Numbered) (n : NumberedLine) (number : ℕ) (r : Result NumberedLine Reason)
    (s : Result FloorLine Reason) (a : Result FloorLine BadLine) → Ok n ≡ line_answer line r → number ≡ line.number
    → s ≡ numbered_says n.vehicle n.says
    → ((text : List ℕ) → a ≡ line_answer (record { number = number; text = text }) s)
    → a ≡ line_answer line (line_says r)
read_ok line n number (Ok m) s a reads is says at =
    let same : n ≡ m = cc in
    at line.text
    ∙ ap (λ (k : ℕ). line_answer (record { number = k; text = line.text }) s) is
    ∙ ap (line_answer line) (says ∙ ap (λ (x : NumberedLine). numbered_says x.vehicle x.says) same)
read_ok line n number (Err why) s a reads is says at = absurd cc

pub read_err : (line : Numbered) (bad : BadLine) (r : Result NumberedLine Reason) → Err bad ≡ line_answer line r
    → Err bad ≡ line_answer line (line_says r)
read_err line bad (Ok m) reads = absurd cc
read_err line bad (Err why) reads =
    let same : bad ≡ record { line = line.number; reason = why } = cc in ap Err same
