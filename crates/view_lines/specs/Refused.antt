-- The object of a line that is refused whatever stands around it: one line of JSON, with the number and the name of the
-- reason. This project's profile. A place and a value are of sets of data alone, and null here. Cited by what is told
-- of a line.
use Rattle.std.specs.Prelude.{ℕ, List, [], ◌∷◌, codes, decimal}
use Rattle.std.specs.List.{concat}
use Rattle.line_input.specs.ReasonCode.{reason_code}
use Rattle.line_input.specs.declared.reason.Reason.{Reason}
use Rattle.line_input.specs.declared.reason.Reason.TheVariants as reason

-- the name of why a line is refused
abbrev pub line_reason_name : Reason → List ℕ
line_reason_name reason.Word = codes "Word"
line_reason_name reason.Number = codes "Number"
line_reason_name reason.Count = codes "Count"
line_reason_name reason.LineLong = codes "LineLong"
line_reason_name reason.Text = codes "Text"
line_reason_name reason.Hex = codes "Hex"
line_reason_name reason.Missing = codes "Missing"
line_reason_name reason.Late = codes "Late"
line_reason_name reason.Many = codes "Many"

abbrev pub line_refusal_object : ℕ → Reason → List ℕ
line_refusal_object number why =
    concat (
    codes "{\"line\":" ∷ decimal number
    ∷ codes ",\"refused\":{\"place\":null,\"reason\":" ∷ decimal (reason_code why)
    ∷ codes ",\"name\":\"" ∷ line_reason_name why
    ∷ codes "\",\"value\":null}}\n" ∷ []
    )
