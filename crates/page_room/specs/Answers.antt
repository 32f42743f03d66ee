-- What a page is told: the text and the status of a command whose input and answer lie in memory. This project's
-- profile. Cited by the exports of both modules.
use Rattle.std.specs.Prelude.{◌≡◌, ℕ, List, [], length, Option, Some}
use Rattle.command_base.specs.Status.{status_code}
use Rattle.command_base.specs.declared.status.Status.{Status}
use Rattle.command_base.specs.declared.status.Status.TheVariants as status
use Rattle.ecall_top.specs.Replies.{CommandOutcome}
use Rattle.ecall_top.specs.declared.command.Command.{Command}
use Rattle.page_room.specs.declared.outlet.TheConstants.{ROOM}

-- the command ended so, as `ecall` does: it took a front of this input, and wrote this text
abbrev pub Ends : Option Command → (input text : List ℕ) → Status → Type 0
Ends asked input text answer =
    (left : List ℕ)
    × CommandOutcome asked (record { left = Some input; held = Some []; passes = 0 })
    (record { left = Some left; held = Some text; passes = 0 }) answer

-- The same, by the number of the status. No read failed, and a write only where the text fills its room.
pub record Answers (asked : Option Command) (input text : List ℕ) (code : ℕ) : Type 0 where
  pub answer : Status
  pub number : code ≡ status_code answer
  pub ends : Ends asked input text answer
  pub readable : answer ≡ status.ReadFault → ⊥
  pub full : answer ≡ status.WriteFault → length text ≡ ROOM
