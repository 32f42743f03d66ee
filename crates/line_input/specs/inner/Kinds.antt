-- What a line is whose bytes were gathered, and a reader by its parts. This project's profile. Scaffolding: cited by
-- the contracts of private functions alone.
use Rattle.std.specs.Prelude.{◌≡◌, ℕ, Bool, true, false, List, [], ◌∷◌, Option, Some, None, Result, Ok, Err}
use Rattle.line_input.specs.Feed.{Feed}
use Rattle.line_input.specs.Lines.{line_fault, is_comment}
use Rattle.line_input.specs.Reading.{Reading}
use Rattle.line_input.specs.declared.fault.LineFault.{LineFault}
use Rattle.line_input.specs.declared.gather.Ending.{Ending}
use Rattle.line_input.specs.declared.gather.Ending.TheVariants as ending
use Rattle.line_input.specs.declared.kind.LineKind.{LineKind}
use Rattle.line_input.specs.declared.kind.LineKind.TheVariants as kind
use Rattle.line_input.specs.declared.reason.Reason.{Reason}
use Rattle.line_input.specs.declared.reason.Reason.TheVariants as reason
use Rattle.line_input.specs.inner.Gathering.{GathersLine}

-- what a whole line is, by its fault and by whether it is a comment
abbrev pub kind_from : Option Reason → Bool → LineKind
kind_from (Some why) comment = kind.Refused why
kind_from None true = kind.PassedOver
kind_from None false = kind.Says

abbrev pub kind_of_line : List ℕ → LineKind
kind_of_line text = kind_from (line_fault text) (is_comment text)

-- what a line is whose bytes were gathered and ended so
abbrev pub kind_of_gathered : Ending → List ℕ → LineKind
kind_of_gathered ending.Full text = kind.Refused reason.LineLong
kind_of_gathered ending.Newline text = kind_of_line text
kind_of_gathered ending.InputEnd [] = kind.NoLine
kind_of_gathered ending.InputEnd (b ∷ bytes) = kind_of_line (b ∷ bytes)

-- a reader that gave no fault, by its parts
abbrev pub reading : Feed → ℕ → List ℕ → Reading
reading feed lines text = record { feed = feed; lines = lines; text = text; failed = false }

-- The bytes of one line were gathered, or lent, and the answer tells what the line is.
abbrev pub JudgesLine : (old new : Feed) → (left left' : Option (List ℕ)) → List ℕ → Result LineKind LineFault → Type 0
JudgesLine old new left left' text (Ok kind) =
    (how : Ending) × GathersLine old new left left' text (Ok how) × (kind ≡ kind_of_gathered how text)
JudgesLine old new left left' text (Err fault) = GathersLine old new left left' text (Err fault)
