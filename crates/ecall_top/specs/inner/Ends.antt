-- What an answer to words says, and what it becomes where what was written is handed over. This project's profile.
-- Cited by the functions that carry out a command and hand over what it wrote.
use Rattle.std.specs.Prelude.{◌≡◌, ℕ, ◌⊎◌, true, List, [], Option}
use Rattle.command_base.specs.declared.status.Status.{Status}
use Rattle.command_base.specs.declared.status.Status.TheVariants as status
use Rattle.command_base.specs.Outcome.{IsCutSilently, Streams, ToldBefore}
use Rattle.ecall_top.specs.declared.command.Command.{Command}
use Rattle.ecall_top.specs.Commands.{writes_once}
use Rattle.ecall_top.specs.Completeness.{Closes, EndsUnread}
use Rattle.ecall_top.specs.Replies.{CommandOutcome, Replies}

-- What an answer says of the bytes taken and written, and of the passes: by the reply to the words; that all was
-- written that the lines before a failed read gave; that a command which writes at its end alone wrote nothing where it
-- was cut short before; and which answers there are where nothing is read.
pub record CommandEnds (asked : Option Command) (old new : Streams) (answer : Status) : Type 0 where
  pub outcome : CommandOutcome asked old new answer
  pub told :
      ToldBefore (λ input r. Replies asked input r) (λ text. Closes asked text) old.left new.left old.held new.held
      answer
  pub silent : writes_once asked ≡ true → IsCutSilently answer → new.held ≡ old.held
  pub unread : EndsUnread asked answer

-- a read or a write failed
abbrev pub IsFault : Status → Type 0
IsFault status.ReadFault = Unit {0}
IsFault status.WriteFault = Unit {0}
IsFault _ = ⊥

-- what an answer becomes where all that is pending is to be handed over: it stays, with nothing pending unless a write
-- had failed; or that write fails
pub data HandsOver (old : Status) (pending : List ℕ) (new : Status) : Type 0 where
  stays : new ≡ old → (old ≡ status.WriteFault) ⊎ (pending ≡ []) → HandsOver old pending new
  fails : (IsFault old → ⊥) → new ≡ status.WriteFault → HandsOver old pending new
