-- What an answer says where the words name no command, or one that reads nothing.
use Rattle.std.specs.Prelude.{◌≡◌, ℕ, ◌+◌, ◌≤◌, ◌⊎◌, false, List, [], ◌++◌, Option, Some, None}
use Rattle.std.proofs.Common.{sym, ◌∙◌, refl, subst, inl, inr, arith}
use Rattle.std.proofs.lemmas.Bool.{false≢true}
use Rattle.call_io.specs.Bytes.{Grew, GrewPartly}
use Rattle.call_io.proofs.BytesLemmas.{Grew-nothing, Took-nothing}
use Rattle.line_input.proofs.LinesLemmas.{lines_of-nil}
use Rattle.trace_text.specs.Script.{script_of}
use Rattle.command_base.specs.Ends.{EndsWithText}
use Rattle.command_base.specs.Outcome.{Answered, CutShort, IsCutSilently, Streams, ToldBefore}
use Rattle.command_base.specs.LineCommands.{IsQuietTurn}
use Rattle.command_base.specs.Refusals.{Reply}
use Rattle.command_base.specs.declared.status.Status.{Status}
use Rattle.command_base.specs.declared.status.Status.TheVariants as status
use Rattle.script_commands.specs.Make.{made_script}
use Rattle.script_stage.specs.ScriptTrace.{script_passes}
use Rattle.script_commands.specs.Trial.{EndsTrial, trial_reply}
use Rattle.ecall_top.specs.Commands.{reads, writes_once}
use Rattle.ecall_top.specs.Completeness.{Closes, EndsUnread}
use Rattle.ecall_top.specs.inner.Ends.{CommandEnds}
use Rattle.ecall_top.specs.Replies.{CommandOutcome, Replies, passes_of, usage_line}
use Rattle.ecall_top.specs.declared.command.Command.{Command}
use Rattle.ecall_top.specs.declared.command.Command.TheVariants as command

-- an answer to a command is one to words that name it
pub named : (asked asked' : Option Command) (old new : Streams) (answer : Status) → asked ≡ asked'
    → CommandEnds asked' old new answer → CommandEnds asked old new answer
named asked asked' old new answer same ends =
    subst (λ (a : Option Command). CommandEnds a old new answer) (sym same) ends

-- where no read failed and there was memory, nothing is said of these
told_unless : (replies : List ℕ → Reply → Type 0) (closes : List ℕ → Type 0) (left left' held held' : Option (List ℕ))
    (answer : Status) → (answer ≡ status.ReadFault → ⊥) → (answer ≡ status.Memory → ⊥)
    → ToldBefore replies closes left left' held held' answer
told_unless replies closes left left' held held' status.ReadFault read full = absurd (read refl)
told_unless replies closes left left' held held' status.Memory read full = absurd (full refl)
told_unless replies closes left left' held held' status.Done read full = tt
told_unless replies closes left left' held held' status.Usage read full = tt
told_unless replies closes left left' held held' (status.Refused why) read full = tt
told_unless replies closes left left' held held' (status.Broken number rule) read full = tt
told_unless replies closes left left' held held' status.WriteFault read full = tt
told_unless replies closes left left' held held' status.TooLong read full = tt

-- an answer that was cut short in silence ends a turn in silence
pub cut_quiet : (answer : Status) → IsCutSilently answer → IsQuietTurn (Some answer)
cut_quiet status.Memory cut = tt
cut_quiet status.ReadFault cut = tt
cut_quiet status.TooLong cut = tt
cut_quiet status.Done cut = absurd cut
cut_quiet status.Usage cut = absurd cut
cut_quiet status.WriteFault cut = absurd cut
cut_quiet (status.Refused why) cut = absurd cut
cut_quiet (status.Broken number rule) cut = absurd cut

-- what was written is all, or a part: no answer is another one
text_ends : (held held' : Option (List ℕ)) (text : List ℕ) (wanted other answer : Status)
    → EndsWithText held held' text wanted answer → (wanted ≡ other → ⊥) → (status.WriteFault ≡ other → ⊥)
    → answer ≡ other → ⊥
text_ends held held' text wanted other answer (inl h) whole part is = whole (sym h.0 ∙ is)
text_ends held held' text wanted other answer (inr h) whole part is = part (sym h.0 ∙ is)

-- so no read failed
pub text_reads_on : (held held' : Option (List ℕ)) (text : List ℕ) (wanted answer : Status)
    → EndsWithText held held' text wanted answer → (wanted ≡ status.ReadFault → ⊥) → answer ≡ status.ReadFault → ⊥
text_reads_on held held' text wanted answer ends fine is =
    text_ends held held' text wanted status.ReadFault answer ends fine (λ same. cc) is

pub trial_reads_on : (number : ℕ) (held held' : Option (List ℕ)) (answer : Status) → EndsTrial number held held' answer
    → answer ≡ status.ReadFault → ⊥
trial_reads_on number held held' answer (inl h) is =
    text_reads_on held held' (trial_reply number).text status.Done answer h (λ same. cc) is
trial_reads_on number held held' answer (inr h) is = let both = sym h.0 ∙ is in cc

-- and nothing is said of one, or of want of memory
told_text : (replies : List ℕ → Reply → Type 0) (closes : List ℕ → Type 0) (left left' held held' : Option (List ℕ))
    (text : List ℕ) (wanted answer : Status) → EndsWithText held held' text wanted answer
    → (wanted ≡ status.ReadFault → ⊥) → (wanted ≡ status.Memory → ⊥)
    → ToldBefore replies closes left left' held held' answer
told_text replies closes left left' held held' text wanted answer ends read full =
    told_unless replies closes left left' held held' answer
    (text_reads_on held held' text wanted answer ends read)
    (text_ends held held' text wanted status.Memory answer ends full (λ same. cc))

-- where there was no memory for a trial, nothing was taken, and nothing was to be written before
trial_told : (number : ℕ) (left held held' : Option (List ℕ)) (answer : Status) → EndsTrial number held held' answer
    → ToldBefore (λ input r. Replies (Some (command.Trial number)) input r)
    (λ text. Closes (Some (command.Trial number)) text) left left held held' answer
trial_told number left held held' answer (inl h) =
    told_text (λ input r. Replies (Some (command.Trial number)) input r)
    (λ text. Closes (Some (command.Trial number)) text) left left held held' (trial_reply number).text status.Done
    answer h (λ same. cc) (λ same. cc)
trial_told number left held held' answer (inr h) =
    subst (λ (a : Status). ToldBefore (λ input r. Replies (Some (command.Trial number)) input r)
    (λ text. Closes (Some (command.Trial number)) text) left left held held' a) (sym h.0) (
      [],
      Took-nothing left,
      record {
        front = [];
        rest = [];
        split = refl;
        within = omega arith;
        near = omega arith;
        before = [];
        last = [];
        lines = lines_of-nil;
        few = omega arith;
        holds =
            record {
              text = [];
              part = [];
              wrote = subst (λ (h : Option (List ℕ)). Grew held h []) (sym h.1) (Grew-nothing held);
              closing = trial_reply number;
              replied = λ bytes same. refl;
              done = refl;
              closes = refl;
            };
      },
    )

trial_silent : (number : ℕ) (held held' : Option (List ℕ)) (answer : Status) → EndsTrial number held held' answer
    → IsCutSilently answer → held' ≡ held
trial_silent number held held' answer (inl (inl h)) cut = absurd (subst IsCutSilently h.0 cut)
trial_silent number held held' answer (inl (inr h)) cut = absurd (subst IsCutSilently h.0 cut)
trial_silent number held held' answer (inr h) cut = h.1

trial_unread : (number : ℕ) (held held' : Option (List ℕ)) (answer : Status) → EndsTrial number held held' answer
    → EndsUnread (Some (command.Trial number)) answer
trial_unread number held held' answer (inl (inl h)) = inl h.0
trial_unread number held held' answer (inl (inr h)) = inr (inl h.0)
trial_unread number held held' answer (inr h) = inr (inr h.0)

text_unread : (held held' : Option (List ℕ)) (text : List ℕ) (wanted answer : Status)
    → EndsWithText held held' text wanted answer → (answer ≡ wanted) ⊎ (answer ≡ status.WriteFault)
text_unread held held' text wanted answer (inl h) = inl h.0
text_unread held held' text wanted answer (inr h) = inr h.0

-- what is answered where the reply, which ends so, is this text whatever the input is
module _ (asked : Option Command) (left held held' : Option (List ℕ)) (passes passes' : ℕ) (text : List ℕ)
    (wanted : Status)
    (replies : (input : List ℕ) → Replies asked input (record { text = text; status = wanted })) where
  abbrev before : Streams
  before = record { left = left; held = held; passes = passes }

  abbrev after : Streams
  after = record { left = left; held = held'; passes = passes' }

  abbrev Ended : Status → Type 0
  Ended answer = CommandOutcome asked before after answer

  answered_so : (answer other : Status) → answer ≡ other → Ended other → Ended answer
  answered_so answer other same ended = subst Ended (sym same) ended

  abbrev Counts : Type 0
  Counts = passes' ≤ passes + passes_of asked []

  -- a front of its text was written
  front_written : Counts → (front rest : List ℕ) → front ++ rest ≡ text → Grew held held' front
      → (input : List ℕ) × CutShort (λ input r. Replies asked input r) (λ input. passes_of asked input) before after input
  front_written few front rest same grew = (
    [],
    record {
      took = Took-nothing left;
      within = omega arith;
      front = [];
      rest = [];
      split = refl;
      text = front;
      wrote = grew;
      begins =
          inl
          (λ more. (
            record { text = rest; status = wanted },
            subst (λ (t : List ℕ). Replies asked more (record { text = t; status = wanted })) (sym same)
                (replies more),
          ));
      counted = few;
    },
  )

  -- its text was written in part
  cut : Counts → GrewPartly held held' text → Ended status.WriteFault
  cut few grew = front_written few grew.0 grew.1 grew.2 grew.3

  -- there was no memory, and nothing was written
  pub unread_memory : (answer : Status) → Counts → (answer ≡ status.Memory) × (held' ≡ held) → Ended answer
  unread_memory answer few ends =
      answered_so answer status.Memory ends.0
      (front_written few [] text refl (subst (λ (h : Option (List ℕ)). Grew held h []) (sym ends.1) (Grew-nothing held)))

  answered : Counts → Grew held held' text
      → Answered (λ input r. Replies asked input r) (λ input. passes_of asked input) before after []
      (record { text = text; status = wanted })
  answered few grew = record { took = Took-nothing left; replied = replies []; wrote = grew; counted = few }

  pub unread_text : (answer : Status) → reads asked ≡ false → wanted ≡ status.Done → Counts
      → EndsWithText held held' text wanted answer → Ended answer
  unread_text answer none done few (inl ends) =
      answered_so answer status.Done (ends.0 ∙ done) (
        [],
        record { text = text; status = wanted },
        answered few ends.1,
        done,
        inr (none, refl),
      )
  unread_text answer none done few (inr ends) = answered_so answer status.WriteFault ends.0 (cut few ends.1)

  pub usage_text : (answer : Status) → wanted ≡ status.Usage → Counts
      → EndsWithText held held' text wanted answer → Ended answer
  usage_text answer same few (inl ends) =
      answered_so answer status.Usage (ends.0 ∙ same)
      (record { text = text; status = wanted }, answered few ends.1, same)
  usage_text answer same few (inr ends) = answered_so answer status.WriteFault ends.0 (cut few ends.1)

-- the usage line was written, or a part of it
pub used : (left held held' : Option (List ℕ)) (passes : ℕ) (answer : Status)
    → EndsWithText held held' usage_line status.Usage answer
    → CommandEnds None (record { left = left; held = held; passes = passes })
    (record { left = left; held = held'; passes = passes }) answer
used left held held' passes answer ends =
    record {
      outcome =
          usage_text None left held held' passes passes usage_line status.Usage (λ input. refl) answer refl
          (omega arith) ends;
      told =
          told_text (λ input r. Replies None input r) (λ text. Closes None text) left left held held' usage_line
          status.Usage answer ends (λ same. cc) (λ same. cc);
      silent = λ once cut. absurd (false≢true once);
      unread = text_unread held held' usage_line status.Usage answer ends;
    }

-- the text of a command that reads nothing was written, or a part of it
pub written : (asked : Option Command) (left held held' : Option (List ℕ)) (passes : ℕ) (text : List ℕ) (answer : Status)
    → ((input : List ℕ) → Replies asked input (record { text = text; status = status.Done })) → reads asked ≡ false
    → writes_once asked ≡ false
    → ((answer ≡ status.Done) ⊎ (answer ≡ status.WriteFault) → EndsUnread asked answer)
    → EndsWithText held held' text status.Done answer
    → CommandEnds asked (record { left = left; held = held; passes = passes })
    (record { left = left; held = held'; passes = passes }) answer
written asked left held held' passes text answer replies none many unread ends =
    record {
      outcome =
          unread_text asked left held held' passes passes text status.Done replies answer none refl (omega arith) ends;
      told =
          told_text (λ input r. Replies asked input r) (λ text. Closes asked text) left left held held' text status.Done
          answer ends (λ same. cc) (λ same. cc);
      silent = λ once cut. absurd (false≢true (sym many ∙ once));
      unread = unread (text_unread held held' text status.Done answer ends);
    }

-- a trial was told, or there was no memory for it
pub tried : (number : ℕ) (left held held' : Option (List ℕ)) (passes passes' : ℕ) (answer : Status)
    → passes' ≤ passes + script_passes (script_of (made_script number)) → EndsTrial number held held' answer
    → CommandEnds (Some (command.Trial number)) (record { left = left; held = held; passes = passes })
    (record { left = left; held = held'; passes = passes' }) answer
tried number left held held' passes passes' answer few ends =
    record {
      outcome = by_ends ends;
      told = trial_told number left held held' answer ends;
      silent = λ once cut. trial_silent number held held' answer ends cut;
      unread = trial_unread number held held' answer ends;
    }
  where
    by_ends : EndsTrial number held held' answer
        → CommandOutcome (Some (command.Trial number)) (record { left = left; held = held; passes = passes })
        (record { left = left; held = held'; passes = passes' }) answer
    by_ends (inl ends) =
        unread_text (Some (command.Trial number)) left held held' passes passes' (trial_reply number).text status.Done
        (λ input. refl) answer refl refl few ends
    by_ends (inr ends) =
        unread_memory (Some (command.Trial number)) left held held' passes passes' (trial_reply number).text status.Done
        (λ input. refl) answer few ends
