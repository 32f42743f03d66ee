-- Where a source tells its bytes, these are within what an input may have, and no read and no write failed, the answer is
-- the whole reply to the words and all of them, or there was no memory.
use Rattle.std.specs.Prelude.{◌≡◌, ℕ, ◌≤◌, true, List, length, Option, Some}
use Rattle.std.proofs.Common.{refl, subst, inl, inr}
use Rattle.line_input.specs.Lines.{most_bytes}
use Rattle.command_base.specs.Outcome.{Answered, IsRead, IsWholeReply, ReadCause, Streams, WriteCause}
use Rattle.command_base.specs.Refusals.{Reply}
use Rattle.command_base.specs.declared.status.Status.{Status}
use Rattle.command_base.specs.declared.status.Status.TheVariants as status
use Rattle.command_base.proofs.WholeReplies.{whole_reply}
use Rattle.ecall_top.specs.Commands.{reads, takes_memory}
use Rattle.ecall_top.specs.Completeness.{IsComplete, NothingFailed}
use Rattle.ecall_top.specs.Replies.{CommandOutcome, Replies, passes_of}
use Rattle.ecall_top.specs.declared.command.Command.{Command}
use Rattle.ecall_top.proofs.ReplyLaws.{unread_reply, usage_reply}

module _ (asked : Option Command) (old new : Streams) (bytes : List ℕ) (told : old.left ≡ Some bytes)
    (few : length bytes ≤ most_bytes) where
  abbrev To : List ℕ → Reply → Type 0
  To input r = Replies asked input r

  abbrev Whole : Status → Type 0
  Whole answer = IsWholeReply To bytes old.held new.held answer

  abbrev most : List ℕ → ℕ
  most input = passes_of asked input

  -- where the input was read to its end, or nothing is read
  done : (input : List ℕ) (r : Reply) → Answered To most old new input r → r.status ≡ status.Done
      → IsRead (reads asked) new.left input → Whole status.Done
  done input r a same (inl whole) =
      whole_reply To most old new bytes told few status.Done tt (input, r, a, same, inl whole)
  done input r a same (inr none) =
      record {
        reply = r;
        replied = unread_reply asked none.0 r (subst (λ (b : List ℕ). To b r) none.1 a.replied) bytes;
        status = same;
        wrote = a.wrote;
      }

  -- so what was answered where no read and no write failed is all
  pub complete_answer : (answer : Status) (reads reads' writes writes' : ℕ) → ReadCause answer reads reads'
      → WriteCause answer writes writes' → NothingFailed reads reads' writes writes'
      → (answer ≡ status.Memory → takes_memory asked ≡ true) → CommandOutcome asked old new answer
      → IsComplete asked bytes old.held new.held answer
  complete_answer status.Done reads reads' writes writes' read wrote calm wants o = inl (done o.0 o.1 o.2 o.3 o.4)
  complete_answer status.Usage reads reads' writes writes' read wrote calm wants o =
      inl (record {
        reply = o.0;
        replied = usage_reply asked o.0 o.1.replied o.2 bytes;
        status = o.2;
        wrote = o.1.wrote;
      })
  complete_answer (status.Refused why) reads reads' writes writes' read wrote calm wants o =
      inl (whole_reply To most old new bytes told few (status.Refused why) tt o)
  complete_answer (status.Broken place rule) reads reads' writes writes' read wrote calm wants o =
      inl (whole_reply To most old new bytes told few (status.Broken place rule) tt o)
  complete_answer status.TooLong reads reads' writes writes' read wrote calm wants o =
      inl (whole_reply To most old new bytes told few status.TooLong tt o)
  complete_answer status.ReadFault reads reads' writes writes' read wrote calm wants o = absurd (calm.source read)
  complete_answer status.WriteFault reads reads' writes writes' read wrote calm wants o = absurd (calm.sink wrote)
  complete_answer status.Memory reads reads' writes writes' read wrote calm wants o = inr (refl, wants refl)
