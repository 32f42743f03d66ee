-- The numbers of the reasons for which a set of data is refused, as they are written in every refusal. They
-- are this project's profile. Cited by `Reason::code`.
use Rattle.std.specs.Prelude.{ℕ}
use Rattle.per_bits.specs.declared.refusals.Reason.{Reason}
use Rattle.per_bits.specs.declared.refusals.Reason.TheVariants.{Short, OutOfRange, LongLength, SmallLarge, NoAddition, EmptyOpen, BadOid, Version, PadBits, Trailing, Size}

abbrev pub code_of : Reason → ℕ
code_of Short = 1
code_of OutOfRange = 2
code_of LongLength = 3
code_of SmallLarge = 4
code_of NoAddition = 5
code_of EmptyOpen = 6
code_of BadOid = 7
code_of Version = 8
code_of PadBits = 9
code_of Trailing = 10
code_of Size = 11
