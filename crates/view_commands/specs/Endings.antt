-- How the program ends: this project's profile. Cited by the contracts of `Ending` and of telling one file.
use Rattle.std.specs.Prelude.{ℕ, Bool, true, false}
use Rattle.view_lines.specs.declared.answer.Answer.{Answer}
use Rattle.view_lines.specs.declared.answer.Answer.TheVariants as answer
use Rattle.view_commands.specs.declared.ending.Ending.{Ending}
use Rattle.view_commands.specs.declared.ending.Ending.TheVariants.{Done, Failed, Refused}

abbrev pub ending_code : Ending → ℕ
ending_code Done = 0
ending_code Failed = 1
ending_code Refused = 2

-- how two parts end together: a failure goes before a refusal
abbrev pub worse : Ending → Ending → Ending
worse Done other = other
worse Failed other = Failed
worse Refused Failed = Failed
worse Refused _ = Refused

-- what the answer of telling a file comes to: who closes the pipe has what he wants
abbrev pub ending_of : Answer → Bool → Ending
ending_of answer.Done _ = Done
ending_of answer.SomeRefused _ = Refused
ending_of answer.WriteFault true = Done
ending_of answer.WriteFault false = Failed
ending_of answer.ReadFault _ = Failed
ending_of answer.Memory _ = Failed
ending_of answer.TooLong _ = Failed
