-- The numbers of the answers of a live end. This project's profile. Cited by `LiveStatus::code`.
use Rattle.std.specs.Prelude.{ℕ}
use Rattle.live_link.specs.declared.answer.LiveStatus.{LiveStatus}
use Rattle.live_link.specs.declared.answer.LiveStatus.TheVariants as status

-- its number
abbrev pub live_code : LiveStatus → ℕ
live_code status.Done = 0
live_code (status.Refused bad) = 2
live_code status.ReadFault = 4
live_code status.WriteFault = 5
live_code status.Memory = 6
live_code status.TooLong = 7
live_code status.PeerEnded = 8
live_code status.LinkCut = 9
live_code (status.LinkFault fault) = 10
live_code status.NoLink = 11
