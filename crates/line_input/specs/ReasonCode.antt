-- The numbers of the reasons for which a line is refused: this project's profile. Cited by the contract of
-- `Reason::code`, and by the refusal line of `ecall`.
use Rattle.std.specs.Prelude.{ℕ}
use Rattle.line_input.specs.declared.reason.Reason.{Reason}
use Rattle.line_input.specs.declared.reason.Reason.TheVariants.{Word, Number, Count, LineLong, Text, Hex, Missing, Late, Many}

abbrev pub reason_code : Reason → ℕ
reason_code Word = 1
reason_code Number = 2
reason_code Count = 3
reason_code LineLong = 4
reason_code Text = 5
reason_code Hex = 6
reason_code Missing = 7
reason_code Late = 8
reason_code Many = 9
