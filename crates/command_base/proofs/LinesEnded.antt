-- How a command that reads lines ends, by what the lines that were read say of its reply: at a line that ends it, at one
-- that couldn't be read, and at the end of its input.
use Rattle.std.specs.Prelude.{◌≡◌, ℕ, ◌+◌, ◌≤◌, ◌⊎◌, Bool, true, false, List, [], ◌∷◌, ◌++◌, length, Option, Ok, Err}
use Rattle.std.specs.Io.KnownBytes.{IsAtEnd}
use Rattle.std.proofs.Common.{sym, ◌∙◌, refl, subst, inl, inr, arith, length-append}
use Rattle.std.proofs.lemmas.Bool.{false≢true}
use Rattle.call_io.specs.Bytes.{Grew}
use Rattle.call_io.proofs.BytesLemmas.{Grew-append}
use Rattle.line_input.specs.declared.fault.LineFault.{LineFault}
use Rattle.line_input.specs.declared.fault.LineFault.TheVariants as fault
use Rattle.line_input.specs.Inputs.{IsSettledBy}
use Rattle.line_input.specs.Lines.{IsWhole, lines_of, most_at_once, most_bytes}
use Rattle.line_input.specs.Reading.{Reading, ReadsLine}
use Rattle.command_base.specs.declared.status.Status.{Status}
use Rattle.command_base.specs.declared.status.Status.TheVariants as status
use Rattle.command_base.specs.declared.refusal.Refused.TheVariants as refused
use Rattle.command_base.specs.LineCommands.{IsLined, EndsLine, EndsInput}
use Rattle.command_base.specs.Outcome.{Streams, Answered, CutShort, Outcome, ToldBefore}
use Rattle.command_base.specs.Refusals.{Reply, refusal_reply, in_front_of, line_of}
use Rattle.command_base.specs.inner.ReadEnds.{FailsWith, EndsReading, by_line, in_front}
use Rattle.command_base.specs.inner.Standing.{LinesStanding}
use Rattle.line_input.proofs.LinesSoFar.{ended_whole, part_lines, taken_took, within_few}
use Rattle.command_base.proofs.LineEnds.{cut_settled}
use Rattle.command_base.proofs.LinesRead as read

module _ (Replies : List (List ℕ) → Reply → Type 0) (most : List (List ℕ) → ℕ)
    (Rest : ℕ → List (List ℕ) → Reply → Type 0) (passing : ℕ → List (List ℕ) → ℕ) (closes : List ℕ → Type 0)
    (lined : IsLined Rest passing closes)
    (start now : Streams) (old : Reading) (s : LinesStanding Replies most Rest passing start now old) where
  abbrev Ended : (passes : ℕ) → (left held : Option (List ℕ)) → Status → Type 0
  Ended passes left held answer =
      Outcome (read.replies Replies most Rest passing closes lined) (read.most_of Replies most Rest passing closes lined) true start
      (record { left = left; held = held; passes = passes }) answer

  abbrev ToldEnded : (left held : Option (List ℕ)) → Status → Type 0
  ToldEnded left held answer =
      ToldBefore (read.replies Replies most Rest passing closes lined) closes start.left left start.held held answer

  -- what is settled in a line is so in the line of that number
  settled_here : (number : ℕ) (Holds : List ℕ → Type 0) (left : Option (List ℕ)) (input : List ℕ) → {here : ℕ}
      → number ≡ here → IsSettledBy Holds here input ⊎ IsWhole left input
      → IsSettledBy Holds number input ⊎ IsWhole left input
  settled_here number Holds left input same settled =
      subst (λ (n : ℕ). IsSettledBy Holds n input ⊎ IsWhole left input) (sym same) settled

  -- a line ended the command
  pub ends_line : (passes : ℕ) (new : Reading) (left held : Option (List ℕ)) → ReadsLine old new now.left left (Ok true)
      → (answer : Status) → EndsLine Rest new.lines new.text now.held held answer
      → ((texts : List (List ℕ)) → passes ≤ now.passes + passing new.lines (new.text ∷ texts))
      → Ended passes left held answer
  ends_line passes new left held reads (status.Refused why) e few =
      let r : Reply = record { text = e.0; status = status.Refused why } in
      let ending = read.ending_line Replies most Rest passing closes lined start now old s new left reads passes r e.1 few in (
        ending.input,
        in_front_of s.text r,
        read.ends_answered Replies most Rest passing closes lined start now old s passes left held new.lines r ending e.2,
        refl,
        settled_here (line_of why) (λ bytes. Replies (lines_of bytes) (in_front_of s.text r)) left ending.input e.3
            ending.settled,
      )
  ends_line passes new left held reads (status.Broken place rule) e few =
      let r : Reply = record { text = e.0; status = status.Broken place rule } in
      let ending = read.ending_line Replies most Rest passing closes lined start now old s new left reads passes r e.1 few in (
        ending.input,
        in_front_of s.text r,
        read.ends_answered Replies most Rest passing closes lined start now old s passes left held new.lines r ending e.2,
        refl,
        settled_here place (λ bytes. Replies (lines_of bytes) (in_front_of s.text r)) left ending.input e.3
            ending.settled,
      )
  ends_line passes new left held reads status.WriteFault e few =
      (_, read.cut_line Replies most Rest passing closes lined start now old s new left reads passes held e.0 e.1 e.2 few)
  ends_line passes new left held reads status.Memory e few =
      (_, read.cut_line Replies most Rest passing closes lined start now old s new left reads passes held e.0 e.1 e.2 few)
  ends_line passes new left held reads status.Done e few = absurd e
  ends_line passes new left held reads status.Usage e few = absurd e
  ends_line passes new left held reads status.ReadFault e few = absurd e
  ends_line passes new left held reads status.TooLong e few = absurd e

  -- a line that couldn't be read ends the command
  failed : (new : Reading) (left held : Option (List ℕ)) (f : LineFault) → ReadsLine old new now.left left (Err f)
      → (answer : Status) → FailsWith f now.held held answer → Ended now.passes left held answer
  failed new left held (fault.Bad bad) reads answer (inl h) =
      let r : Reply = refusal_reply (refused.Line bad) in
      let ending = read.ending_bad Replies most Rest passing closes lined start now old s new left bad reads in
      subst (λ (a : Status). Ended now.passes left held a) (sym h.0) (
        ending.input,
        in_front_of s.text r,
        read.ends_answered Replies most Rest passing closes lined start now old s now.passes left held bad.line r ending h.1,
        refl,
        ending.settled,
      )
  failed new left held (fault.Bad bad) reads answer (inr h) =
      subst (λ (a : Status). Ended now.passes left held a) (sym h.0)
      (read.cut_refused Replies most Rest passing closes lined start now old s now.passes left held bad.line
      (refusal_reply (refused.Line bad))
      (read.ending_bad Replies most Rest passing closes lined start now old s new left bad reads) h.1)
  failed new left held fault.ReadFault reads answer fails =
      subst (λ (h : Option (List ℕ)). Ended now.passes left h answer) (sym fails.1)
      (subst (λ (a : Status). Ended now.passes left now.held a) (sym fails.0) (
        read.taken_all Replies most Rest passing closes lined start now old s new left reads.taken,
        read.cut_here Replies most Rest passing closes lined start now old s new left reads.taken reads.draws
            (within_few (λ bytes. Unit {0}) _ (part_lines start.left now.left left old new s.lines s.so_far (λ ls. Unit {0}) reads tt)),
      ))
  failed new left held fault.TooLong reads answer fails =
      subst (λ (h : Option (List ℕ)). Ended now.passes left h answer) (sym fails.1)
      (subst (λ (a : Status). Ended now.passes left now.held a) (sym fails.0)
      (read.too_long Replies most Rest passing closes lined start now old s new left reads))

  -- what was written so far, where not even a line was looked for
  cut_before : CutShort (read.replies Replies most Rest passing closes lined)
      (read.most_of Replies most Rest passing closes lined) start now (s.so_far.front ++ old.feed.pending)
  cut_before =
      record {
        took = s.so_far.taken.took;
        within = simp length-append (omega (arith, s.so_far.taken.within, s.so_far.taken.near));
        front = s.so_far.front;
        rest = old.feed.pending;
        split = refl;
        text = s.text;
        wrote = s.wrote;
        begins = by_end old.feed.ended refl;
        counted =
            subst (λ (ls : List (List ℕ)). now.passes ≤ start.passes + most ls)
            (sym (s.so_far.split old.feed.pending s.so_far.taken.done))
            (omega (arith, s.counted (lines_of old.feed.pending)));
      }
    where
      by_end : (b : Bool) → old.feed.ended ≡ b
          → ((more : List ℕ) → (r : Reply)
          × read.replies Replies most Rest passing closes lined (s.so_far.front ++ more) (in_front_of s.text r))
          ⊎ (IsAtEnd now.left × ((r : Reply)
          × read.replies Replies most Rest passing closes lined (s.so_far.front ++ old.feed.pending) (in_front_of s.text r)))
      by_end false open_ended =
          inl (λ more. read.begun Replies most Rest passing closes lined start now old s more
          (λ ended. absurd (false≢true (sym open_ended ∙ ended))))
      by_end true ended =
          inr (
            s.so_far.taken.«end» ended,
            read.begun Replies most Rest passing closes lined start now old s old.feed.pending s.so_far.taken.done,
          )

  -- a line that wasn't read ends the command
  pub unread : (new : Reading) (left held : Option (List ℕ)) (answer : Status)
      → EndsReading old new now.left left now.held held answer → Ended now.passes left held answer
  unread new left held answer (by_line f reads fails) = failed new left held f reads answer fails
  unread new left held answer (in_front is left_is held_is) =
      subst (λ (h : Option (List ℕ)). Ended now.passes left h answer) (sym held_is)
      (subst (λ (l : Option (List ℕ)). Ended now.passes l now.held answer) (sym left_is)
      (subst (λ (a : Status). Ended now.passes now.left now.held a) (sym is)
      (s.so_far.front ++ old.feed.pending, cut_before)))

  -- a line that couldn't be read ends it with all written before
  told_fault : (new : Reading) (left held : Option (List ℕ)) (f : LineFault) → ReadsLine old new now.left left (Err f)
      → (answer : Status) → FailsWith f now.held held answer → ToldEnded left held answer
  told_fault new left held (fault.Bad bad) reads answer (inl h) =
      subst (λ (a : Status). ToldEnded left held a) (sym h.0) tt
  told_fault new left held (fault.Bad bad) reads answer (inr h) =
      subst (λ (a : Status). ToldEnded left held a) (sym h.0) tt
  told_fault new left held fault.ReadFault reads answer fails =
      subst (λ (h : Option (List ℕ)). ToldEnded left h answer) (sym fails.1)
      (subst (λ (a : Status). ToldEnded left now.held a) (sym fails.0)
      (read.unread_told Replies most Rest passing closes lined start now old s new left reads))
  told_fault new left held fault.TooLong reads answer fails =
      subst (λ (a : Status). ToldEnded left held a) (sym fails.0) tt

  pub told_unread : (new : Reading) (left held : Option (List ℕ)) (answer : Status)
      → EndsReading old new now.left left now.held held answer → ToldEnded left held answer
  told_unread new left held answer (by_line f reads fails) = told_fault new left held f reads answer fails
  told_unread new left held answer (in_front is left_is held_is) =
      subst (λ (a : Status). ToldEnded left held a) (sym is) tt

  -- a line that wanted memory ends it with all written before; no other line is one of which more is said
  pub told_line : (new : Reading) (left held : Option (List ℕ)) → ReadsLine old new now.left left (Ok true)
      → (answer : Status) → EndsLine Rest new.lines new.text now.held held answer → ToldEnded left held answer
  told_line new left held reads status.Memory e =
      read.line_told Replies most Rest passing closes lined start now old s new left reads held e.0 e.2
  told_line new left held reads status.ReadFault e = absurd e
  told_line new left held reads (status.Refused why) e = tt
  told_line new left held reads (status.Broken place rule) e = tt
  told_line new left held reads status.WriteFault e = tt
  told_line new left held reads status.Done e = tt
  told_line new left held reads status.Usage e = tt
  told_line new left held reads status.TooLong e = tt

  -- and so does the end
  pub told_input : (new : Reading) (left held : Option (List ℕ)) → ReadsLine old new now.left left (Ok false)
      → (number : ℕ) (answer : Status) → EndsInput Rest number now.held held answer → ToldEnded left held answer
  told_input new left held reads number status.Memory e =
      subst (λ (h : Option (List ℕ)). ToldEnded left h status.Memory) (sym e)
      (read.end_told Replies most Rest passing closes lined start now old s new left reads)
  told_input new left held reads number status.ReadFault e = absurd e
  told_input new left held reads number (status.Refused why) e = tt
  told_input new left held reads number (status.Broken place rule) e = tt
  told_input new left held reads number status.WriteFault e = tt
  told_input new left held reads number status.Done e = tt
  told_input new left held reads number status.Usage e = tt
  told_input new left held reads number status.TooLong e = tt

  module _ (new : Reading) (left held : Option (List ℕ)) (reads : ReadsLine old new now.left left (Ok false)) where
    abbrev whole_input : List ℕ
    whole_input = read.taken_all Replies most Rest passing closes lined start now old s new left reads.taken

    whole_few : length whole_input ≤ most_bytes + most_at_once
    whole_few = omega (arith, (ended_whole start.left now.left left old new s.lines s.so_far reads).within)

    -- the whole of a reply at the end of the input
    end_answered : (r : Reply) → Rest (old.lines + 1 + length reads.finds.0.passed) [] r → Grew now.held held r.text
        → Answered (read.replies Replies most Rest passing closes lined) (read.most_of Replies most Rest passing closes lined) start
        (record now { left = left; held = held }) whole_input (in_front_of s.text r)
    end_answered r ends grew =
        record {
          took = taken_took start.left now.left left old new s.lines s.so_far reads.taken reads.draws;
          replied = read.end_replied Replies most Rest passing closes lined start now old s new left r reads ends;
          wrote = Grew-append start.held now.held held s.text r.text s.wrote grew;
          counted = read.all_counted Replies most Rest passing closes lined start now old s new left reads.taken reads.draws;
        }

    -- the end of the input was read, and the command ended there
    pub ended : (answer : Status) → EndsInput Rest (old.lines + 1 + length reads.finds.0.passed) now.held held answer
        → Ended now.passes left held answer
    ended status.Done e =
        let r : Reply = record { text = e.0; status = status.Done } in (
          whole_input,
          in_front_of s.text r,
          end_answered r e.1 e.2,
          refl,
          inl (ended_whole start.left now.left left old new s.lines s.so_far reads),
        )
    ended (status.Broken place rule) e =
        let r : Reply = record { text = e.0; status = status.Broken place rule } in (
          whole_input,
          in_front_of s.text r,
          end_answered r e.1 e.2,
          refl,
          inr (ended_whole start.left now.left left old new s.lines s.so_far reads),
        )
    ended status.WriteFault e = (
      whole_input,
      cut_settled (read.replies Replies most Rest passing closes lined)
          (read.most_of Replies most Rest passing closes lined) start now.passes left held 0 whole_input
          (s.text ++ e.0) (taken_took start.left now.left left old new s.lines s.so_far reads.taken reads.draws)
          (Grew-append start.held now.held held s.text e.0 s.wrote e.3) whole_few
          (read.all_counted Replies most Rest passing closes lined start now old s new left reads.taken reads.draws) all
          (inr (ended_whole start.left now.left left old new s.lines s.so_far reads)),
    )
      where
        all : (r : Reply) × read.replies Replies most Rest passing closes lined whole_input (in_front_of (s.text ++ e.0) r)
        all = (
          e.1,
          read.in_front_twice Replies most Rest passing closes lined
              (lines_of whole_input) s.text e.0 e.1
              (read.end_replied Replies most Rest passing closes lined start now old s new left (in_front_of e.0 e.1) reads e.2),
        )
    ended status.Memory e =
        subst (λ (h : Option (List ℕ)). Ended now.passes left h status.Memory) (sym e) (
          whole_input,
          read.cut_here Replies most Rest passing closes lined start now old s new left reads.taken reads.draws
              whole_few,
        )
    ended (status.Refused why) e = absurd e
    ended status.Usage e = absurd e
    ended status.ReadFault e = absurd e
    ended status.TooLong e = absurd e
