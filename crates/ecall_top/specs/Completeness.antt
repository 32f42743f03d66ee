-- What `ecall` answers where nothing outside failed, and where it reads nothing. This project's profile. Cited by the
-- contracts of `ecall` and of `reply_laws`.
use Rattle.std.specs.Prelude.{◌≡◌, ℕ, ◌⊎◌, true, List, Option, Some, None}
use Rattle.call_io.specs.Counts.{Rose}
use Rattle.command_base.specs.Outcome.{ClosesSilently, IsWholeReply}
use Rattle.command_base.specs.declared.status.Status.{Status}
use Rattle.command_base.specs.declared.status.Status.TheVariants as status
use Rattle.script_commands.specs.Register.{ClosesRegister}
use Rattle.script_commands.specs.Replay.{ClosesReplay}
use Rattle.script_commands.specs.Trial.{trial_reply}
use Rattle.set_commands.specs.Frames.{ClosesFrames}
use Rattle.ecall_top.specs.declared.command.Command.{Command}
use Rattle.ecall_top.specs.declared.command.Command.TheVariants as command
use Rattle.ecall_top.specs.Commands.{takes_memory}
use Rattle.ecall_top.specs.Replies.{Replies}

-- Neither the source's count of faults rose nor the sink's.
pub record NothingFailed (reads reads' writes writes' : ℕ) : Type 0 where
  pub source : Rose reads reads' → ⊥
  pub sink : Rose writes writes' → ⊥

-- The answer is the status of the reply to the words and all these bytes, and its whole text was written; or there was
-- no memory, for a command that takes any.
abbrev pub IsComplete : (asked : Option Command) → (bytes : List ℕ) → (held held' : Option (List ℕ)) → Status → Type 0
IsComplete asked bytes held held' answer =
    IsWholeReply (λ input r. Replies asked input r) bytes held held' answer
    ⊎ ((answer ≡ status.Memory) × (takes_memory asked ≡ true))

-- done, or refused
abbrev pub IsDoneOrRefused : Status → Type 0
IsDoneOrRefused status.Done = Unit {0}
IsDoneOrRefused (status.Refused why) = Unit {0}
IsDoneOrRefused _ = ⊥

-- done, or refused, or a rule is broken
abbrev pub IsJudged : Status → Type 0
IsJudged (status.Broken number rule) = Unit {0}
IsJudged other = IsDoneOrRefused other

-- the statuses that a reply may have: where nothing is refused, a command is done, and `replay` may tell a broken rule
abbrev pub HasStatus : Option Command → Status → Type 0
HasStatus None answer = answer ≡ status.Usage
HasStatus (Some (command.Make number)) answer = answer ≡ status.Done
HasStatus (Some (command.Trial number)) answer = answer ≡ status.Done
HasStatus (Some command.Conform) answer = answer ≡ status.Done
HasStatus (Some command.Replay) answer = IsJudged answer
HasStatus (Some _) answer = IsDoneOrRefused answer

-- the answers where the words name no command, or one that reads nothing
abbrev pub EndsUnread : Option Command → Status → Type 0
EndsUnread None answer = (answer ≡ status.Usage) ⊎ (answer ≡ status.WriteFault)
EndsUnread (Some (command.Make number)) answer = (answer ≡ status.Done) ⊎ (answer ≡ status.WriteFault)
EndsUnread (Some command.Conform) answer = (answer ≡ status.Done) ⊎ (answer ≡ status.WriteFault)
EndsUnread (Some (command.Trial number)) answer =
    (answer ≡ status.Done) ⊎ ((answer ≡ status.WriteFault) ⊎ (answer ≡ status.Memory))
EndsUnread (Some _) answer = Unit {0}

-- the text at the end of the input, behind that of its lines
abbrev pub Closes : Option Command → List ℕ → Type 0
Closes (Some command.Frames) text = ClosesFrames text
Closes (Some command.Register) text = ClosesRegister text
Closes (Some command.Replay) text = ClosesReplay text
Closes (Some (command.Trial number)) text = text ≡ (trial_reply number).text
Closes _ text = ClosesSilently text
