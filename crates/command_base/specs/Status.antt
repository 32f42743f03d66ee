-- The numbers of the answers of `ecall`. This project's profile. Cited by `Status::code`.
use Rattle.std.specs.Prelude.{ℕ}
use Rattle.command_base.specs.declared.status.Status.{Status}
use Rattle.command_base.specs.declared.status.Status.TheVariants as status

abbrev pub status_code : Status → ℕ
status_code status.Done = 0
status_code status.Usage = 1
status_code (status.Refused why) = 2
status_code (status.Broken number rule) = 3
status_code status.ReadFault = 4
status_code status.WriteFault = 5
status_code status.Memory = 6
status_code status.TooLong = 7
