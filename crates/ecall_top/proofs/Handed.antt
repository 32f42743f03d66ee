-- What a command that wrote through a block says of the sink, once all that was pending is handed over.
use Rattle.std.specs.Prelude.{◌≡◌, ℕ, ◌⊎◌, Bool, false, List, [], ◌++◌, length, Option, Some, None}
use Rattle.std.proofs.Common.{sym, ◌∙◌, ap, refl, subst, append_assoc, inl, inr, arith}
use Rattle.std.proofs.lemmas.List.{append-nil}
use Rattle.call_io.specs.Blocks.{sink, pending, held, way}
use Rattle.call_io.specs.Bytes.{Grew, GrewPartly}
use Rattle.call_io.specs.Ways.{Onward}
use Rattle.call_io.specs.declared.block.Block.{Block}
use Rattle.call_io.proofs.BlockLemmas.{Grew_through, GrewPartly_through}
use Rattle.call_io.proofs.BytesLemmas.{Grew-nothing, GrewPartly-whole}
use Rattle.line_input.specs.Lines.{IsWhole}
use Rattle.line_input.proofs.LinesSoFar.{near_as, settled_as, within_as}
use Rattle.command_base.proofs.LineEnds.{cut_settled, settled_few}
use Rattle.command_base.specs.declared.status.Status.{Status}
use Rattle.command_base.specs.declared.status.Status.TheVariants as status
use Rattle.command_base.specs.Outcome.{Streams, Answered, CutShort, IsCutSilently, IsRead, IsSettled, Outcome, ReadCause, ToldAll, ToldBefore, ToldMore}
use Rattle.command_base.specs.Refusals.{Reply, in_front_of, line_of}
use Rattle.ecall_top.specs.Commands.{reads}
use Rattle.ecall_top.specs.Replies.{Replies, passes_of}
use Rattle.ecall_top.specs.Completeness.{Closes, EndsUnread}
use Rattle.ecall_top.specs.declared.command.Command.{Command}
use Rattle.ecall_top.specs.declared.command.Command.TheVariants as command
use Rattle.ecall_top.proofs.ReplyLaws.{unread_reply, usage_reply}
use Rattle.ecall_top.specs.inner.Ends.{CommandEnds, IsFault, HandsOver, stays, fails}

module _ (replies : List ℕ → Reply → Type 0) (most : List ℕ → ℕ) (reads : Bool) where
  -- a reply that begins with all of its text
  all_of : (input : List ℕ) (r : Reply) → replies input r
      → replies input (in_front_of r.text (record { text = []; status = r.status }))
  all_of input r replied =
      subst (λ (t : List ℕ). replies input (record { text = t; status = r.status })) (sym (append-nil r.text)) replied

  -- a reply that was written whole was written in part
  ended_cut : (old new : Streams) (number : ℕ) (input : List ℕ) (r : Reply) → Answered replies most old new input r
      → IsSettled replies number input r ⊎ IsWhole new.left input → CutShort replies most old new input
  ended_cut old new number input r a s =
      cut_settled replies most old new.passes new.left new.held number input r.text a.took a.wrote
      (settled_few (λ bytes. replies bytes r) new.left number input s) a.counted (part input a.replied)
      (settled_as (λ bytes. replies bytes r) (λ bytes. (q : Reply) × replies bytes (in_front_of r.text q)) new.left
      number input part s)
    where
      part : (bytes : List ℕ) → replies bytes r → (q : Reply) × replies bytes (in_front_of r.text q)
      part bytes replied = (record { text = []; status = r.status }, all_of bytes r replied)

  -- where nothing was taken, and this is the reply to any input, it was written in part, too
  nothing_cut : (old new : Streams) (input : List ℕ) (r : Reply) → Answered replies most old new input r → input ≡ []
      → ((more : List ℕ) → replies more r) → CutShort replies most old new input
  nothing_cut old new input r a none any =
      record {
        took = a.took;
        within = omega (arith, ap length none);
        front = [];
        rest = input;
        split = refl;
        text = r.text;
        wrote = a.wrote;
        begins = inl (λ more. (record { text = []; status = r.status }, all_of more r (any more)));
        counted = a.counted;
      }

  -- Where nothing is read, and where the words name no command, the reply to nothing is that to any input.
  module _ (unread : reads ≡ false → (r : Reply) → replies [] r → (more : List ℕ) → replies more r)
      (used : (r : Reply) → replies [] r → r.status ≡ status.Usage → (more : List ℕ) → replies more r) where
    done_cut : (old new : Streams) (input : List ℕ) (r : Reply) → Answered replies most old new input r
        → IsRead reads new.left input → CutShort replies most old new input
    done_cut old new input r a (inl w) = ended_cut old new 0 input r a (inr w)
    done_cut old new input r a (inr none) =
        nothing_cut old new input r a none.1
        (unread none.0 r (subst (λ (b : List ℕ). replies b r) none.1 a.replied))

    -- whatever was answered, a front of the reply was written
    cut_of : (old new : Streams) (answer : Status) → Outcome replies most reads old new answer
        → (input : List ℕ) × CutShort replies most old new input
    cut_of old new status.Done o = (o.0, done_cut old new o.0 o.1 o.2 o.4)
    cut_of old new status.Usage o = ([], nothing_cut old new [] o.0 o.1 refl (used o.0 o.1.replied o.2))
    cut_of old new (status.Refused why) o = (o.0, ended_cut old new (line_of why) o.0 o.1 o.2 o.4)
    cut_of old new (status.Broken place rule) o = (o.0, ended_cut old new place o.0 o.1 o.2 o.4)
    cut_of old new status.ReadFault o = (o.0, o.1)
    cut_of old new status.WriteFault o = o
    cut_of old new status.Memory o = o
    cut_of old new status.TooLong o = (o.0, o.1)

    module _ {O : Type 0} (of_sink : O → Option (List ℕ)) (left left' : Option (List ℕ)) (passes passes' : ℕ)
        (old new : Block O) (began : pending old ≡ []) (onward : Onward (way of_sink old) (way of_sink new)) where
      abbrev through_old : Streams
      through_old = record { left = left; held = held of_sink old; passes = passes }

      abbrev through_new : Streams
      through_new = record { left = left'; held = held of_sink new; passes = passes' }

      abbrev sink_old : Streams
      sink_old = record { left = left; held = of_sink (sink old); passes = passes }

      abbrev sink_new : Streams
      sink_new = record { left = left'; held = of_sink (sink new); passes = passes' }

      -- a reply that begins with a text begins with a front of it
      begins_front : (text front rest : List ℕ) → front ++ rest ≡ text → (input : List ℕ)
          → (r : Reply) × replies input (in_front_of text r) → (r : Reply) × replies input (in_front_of front r)
      begins_front text front rest same input h = (
        in_front_of rest h.0,
        subst (λ (t : List ℕ). replies input (record { text = t; status = h.0.status }))
            (ap (λ t. t ++ h.0.text) (sym same) ∙ append_assoc front rest h.0.text) h.1,
      )

      cut_through : (input : List ℕ) → CutShort replies most through_old through_new input
          → CutShort replies most sink_old sink_new input
      cut_through input c =
          let grew : GrewPartly (of_sink (sink old)) (of_sink (sink new)) c.text =
          GrewPartly_through of_sink old new c.text began onward
          (GrewPartly-whole (held of_sink old) (held of_sink new) c.text c.wrote) in
          record {
            took = c.took;
            within = c.within;
            front = c.front;
            rest = c.rest;
            split = c.split;
            text = grew.0;
            wrote = grew.3;
            begins = elim (c.begins) [
              | inl more ↦ inl (λ bytes. begins_front c.text grew.0 grew.1 grew.2 (c.front ++ bytes) (more bytes))
              | inr ended ↦ inr (ended.0, begins_front c.text grew.0 grew.1 grew.2 input ended.1)
            ];
            counted = c.counted;
          }

      answered_through : pending new ≡ [] → (input : List ℕ) (r : Reply)
          → Answered replies most through_old through_new input r → Answered replies most sink_old sink_new input r
      answered_through empty input r a =
          record {
            took = a.took;
            replied = a.replied;
            wrote = Grew_through of_sink old new r.text began empty a.wrote;
            counted = a.counted;
          }

      -- an answer that stays
      outcome_stays : (answer : Status) → (answer ≡ status.WriteFault) ⊎ (pending new ≡ [])
          → Outcome replies most reads through_old through_new answer
          → Outcome replies most reads sink_old sink_new answer
      outcome_stays status.Done (inl h) o = absurd (cc)
      outcome_stays status.Done (inr empty) o = (o.0, o.1, answered_through empty o.0 o.1 o.2, o.3, o.4)
      outcome_stays status.Usage (inl h) o = absurd (cc)
      outcome_stays status.Usage (inr empty) o = (o.0, answered_through empty [] o.0 o.1, o.2)
      outcome_stays (status.Refused why) (inl h) o = absurd (cc)
      outcome_stays (status.Refused why) (inr empty) o = (o.0, o.1, answered_through empty o.0 o.1 o.2, o.3, o.4)
      outcome_stays (status.Broken place rule) (inl h) o = absurd (cc)
      outcome_stays (status.Broken place rule) (inr empty) o =
          (o.0, o.1, answered_through empty o.0 o.1 o.2, o.3, o.4)
      outcome_stays status.ReadFault h o = (o.0, cut_through o.0 o.1)
      outcome_stays status.WriteFault h o = (o.0, cut_through o.0 o.1)
      outcome_stays status.Memory h o = (o.0, cut_through o.0 o.1)
      outcome_stays status.TooLong h o = (o.0, cut_through o.0 o.1, o.2)

      -- what was answered through the block is answered of the sink
      outcome_over : (answer result : Status) → HandsOver answer (pending new) result
          → Outcome replies most reads through_old through_new answer
          → Outcome replies most reads sink_old sink_new result
      outcome_over answer result (stays same empty) o =
          subst (λ (a : Status). Outcome replies most reads sink_old sink_new a) (sym same)
          (outcome_stays answer empty o)
      outcome_over answer result (fails sound same) o =
          let cut : (input : List ℕ) × CutShort replies most through_old through_new input =
          cut_of through_old through_new answer o in
          subst (λ (a : Status). Outcome replies most reads sink_old sink_new a) (sym same)
          (cut.0, cut_through cut.0 cut.1)

    -- the same, where handing over left what the block tells as it was
    handed_through : {O : Type 0} (of_sink : O → Option (List ℕ)) (left left' : Option (List ℕ)) (passes passes' : ℕ)
        (old mid new : Block O) → pending old ≡ [] → Onward (way of_sink old) (way of_sink new)
        → held of_sink new ≡ held of_sink mid → (answer result : Status) → HandsOver answer (pending new) result
        → Outcome replies most reads (record { left = left; held = held of_sink old; passes = passes })
        (record { left = left'; held = held of_sink mid; passes = passes' }) answer
        → Outcome replies most reads (record { left = left; held = of_sink (sink old); passes = passes })
        (record { left = left'; held = of_sink (sink new); passes = passes' }) result
    handed_through of_sink left left' passes passes' old mid new began onward kept answer result over o =
        outcome_over of_sink left left' passes passes' old new began onward answer result over
        (subst (λ (h : Option (List ℕ)).
        Outcome replies most reads (record { left = left; held = held of_sink old; passes = passes })
        (record { left = left'; held = h; passes = passes' }) answer) (sym kept) o)

module _ (replies : List ℕ → Reply → Type 0) (closes : List ℕ → Type 0) {O : Type 0} (of_sink : O → Option (List ℕ))
    (left left' : Option (List ℕ)) (old mid new : Block O) (began : pending old ≡ [])
    (kept : held of_sink new ≡ held of_sink mid) where
  -- all that lines gave was written to the sink
  all_through : pending new ≡ [] → (bytes : List ℕ) → ToldAll replies closes (held of_sink old) (held of_sink mid) bytes
      → ToldAll replies closes (of_sink (sink old)) (of_sink (sink new)) bytes
  all_through empty bytes t =
      record {
        text = t.text;
        wrote =
            Grew_through of_sink old new t.text began empty
            (subst (λ (h : Option (List ℕ)). Grew (held of_sink old) h t.text) (sym kept) t.wrote);
        closing = t.closing;
        replied = t.replied;
        done = t.done;
        closes = t.closes;
      }

  -- and a part of what a line behind them gives
  more_through : pending new ≡ [] → (lines : List (List ℕ))
      → ToldMore replies closes (held of_sink old) (held of_sink mid) lines
      → ToldMore replies closes (of_sink (sink old)) (of_sink (sink new)) lines
  more_through empty lines t =
      record {
        text = t.text;
        part = t.part;
        wrote =
            Grew_through of_sink old new (t.text ++ t.part) began empty
            (subst (λ (h : Option (List ℕ)). Grew (held of_sink old) h (t.text ++ t.part)) (sym kept) t.wrote);
        closing = t.closing;
        replied = t.replied;
        done = t.done;
        closes = t.closes;
      }

  told_stays : (answer : Status) → pending new ≡ []
      → ToldBefore replies closes left left' (held of_sink old) (held of_sink mid) answer
      → ToldBefore replies closes left left' (of_sink (sink old)) (of_sink (sink new)) answer
  told_stays status.ReadFault empty t = (
    t.0,
    t.1,
    within_as (λ bytes. ToldAll replies closes (held of_sink old) (held of_sink mid) bytes)
        (λ bytes. ToldAll replies closes (of_sink (sink old)) (of_sink (sink new)) bytes) t.0 (all_through empty) t.2,
  )
  told_stays status.Done empty t = tt
  told_stays status.Usage empty t = tt
  told_stays (status.Refused why) empty t = tt
  told_stays (status.Broken place rule) empty t = tt
  told_stays status.WriteFault empty t = tt
  told_stays status.Memory empty t = (
    t.0,
    t.1,
    near_as (λ lines. ToldMore replies closes (held of_sink old) (held of_sink mid) lines)
        (λ lines. ToldMore replies closes (of_sink (sink old)) (of_sink (sink new)) lines) t.0 (more_through empty) t.2,
  )
  told_stays status.TooLong empty t = tt

  abbrev ToldOf : Status → Type 0
  ToldOf answer = ToldBefore replies closes left left' (of_sink (sink old)) (of_sink (sink new)) answer

  told_over : (answer result : Status) → HandsOver answer (pending new) result
      → ToldBefore replies closes left left' (held of_sink old) (held of_sink mid) answer → ToldOf result
  told_over answer result (stays same (inl write)) t = subst ToldOf (sym (same ∙ write)) tt
  told_over answer result (stays same (inr empty)) t = subst ToldOf (sym same) (told_stays answer empty t)
  told_over answer result (fails sound same) t = subst ToldOf (sym same) tt

  -- where the block got nothing, its sink got nothing
  silent_over : (answer result : Status) → HandsOver answer (pending new) result
      → (IsCutSilently answer → held of_sink mid ≡ held of_sink old) → IsCutSilently result
      → of_sink (sink new) ≡ of_sink (sink old)
  silent_over answer result (stays same (inl write)) silent cut = absurd (subst IsCutSilently (same ∙ write) cut)
  silent_over answer result (stays same (inr empty)) silent cut =
      let still : held of_sink new ≡ held of_sink old = kept ∙ silent (subst IsCutSilently same cut) in
      let none : Grew (held of_sink old) (held of_sink new) [] =
      subst (λ (h : Option (List ℕ)). Grew (held of_sink old) h []) (sym still) (Grew-nothing (held of_sink old)) in
      Grew_through of_sink old new [] began empty none ∙ sym (Grew-nothing (of_sink (sink old)))
  silent_over answer result (fails sound same) silent cut = absurd (subst IsCutSilently same cut)

-- a failed write is an answer where nothing is read
unread_write : (asked : Option Command) → EndsUnread asked status.WriteFault
unread_write None = inr refl
unread_write (Some (command.Make number)) = inr refl
unread_write (Some (command.Trial number)) = inr (inl refl)
unread_write (Some command.Conform) = inr refl
unread_write (Some command.Run) = tt
unread_write (Some command.Register) = tt
unread_write (Some command.Decode) = tt
unread_write (Some command.Encode) = tt
unread_write (Some command.Frames) = tt
unread_write (Some command.Replay) = tt
unread_write (Some (command.Tones noise)) = tt
unread_write (Some command.Floor) = tt
unread_write (Some command.Relay) = tt

handed_unread : (asked : Option Command) (answer result : Status) (rest : List ℕ) → HandsOver answer rest result
    → EndsUnread asked answer → EndsUnread asked result
handed_unread asked answer result rest (stays same empty) ends =
    subst (λ (a : Status). EndsUnread asked a) (sym same) ends
handed_unread asked answer result rest (fails sound same) ends =
    subst (λ (a : Status). EndsUnread asked a) (sym same) (unread_write asked)

-- what was answered to words and an input through a block is answered of its sink
pub handed_over : (asked : Option Command) → {O : Type 0} (of_sink : O → Option (List ℕ))
    (left left' : Option (List ℕ)) (passes passes' : ℕ) (old mid new : Block O) → pending old ≡ []
    → Onward (way of_sink old) (way of_sink new) → held of_sink new ≡ held of_sink mid → (answer result : Status)
    → HandsOver answer (pending new) result
    → CommandEnds asked (record { left = left; held = held of_sink old; passes = passes })
    (record { left = left'; held = held of_sink mid; passes = passes' }) answer
    → CommandEnds asked (record { left = left; held = of_sink (sink old); passes = passes })
    (record { left = left'; held = of_sink (sink new); passes = passes' }) result
handed_over asked of_sink left left' passes passes' old mid new began onward kept answer result over ends =
    record {
      outcome =
          handed_through (λ input r. Replies asked input r) (λ input. passes_of asked input) (reads asked)
          (unread_reply asked) (usage_reply asked) of_sink left left' passes passes' old mid new began onward kept
          answer result over ends.outcome;
      told =
          told_over (λ input r. Replies asked input r) (λ text. Closes asked text) of_sink left left' old mid new began
          kept answer result over ends.told;
      silent = λ once cut.
          silent_over (λ input r. Replies asked input r) (λ text. Closes asked text) of_sink left left' old mid new began
          kept answer result over (ends.silent once) cut;
      unread = handed_unread asked answer result (pending new) over ends.unread;
    }

-- no read failed where handing over failed
sound_read : (answer : Status) (old new : ℕ) → (IsFault answer → ⊥) → ReadCause answer old new → new ≡ old
sound_read status.Done old new sound h = h
sound_read status.Usage old new sound h = h
sound_read (status.Refused why) old new sound h = h
sound_read (status.Broken place rule) old new sound h = h
sound_read status.ReadFault old new sound h = absurd (sound tt)
sound_read status.WriteFault old new sound h = h
sound_read status.Memory old new sound h = h
sound_read status.TooLong old new sound h = h

pub handed_read : (answer result : Status) (rest : List ℕ) (old new : ℕ) → HandsOver answer rest result
    → ReadCause answer old new → ReadCause result old new
handed_read answer result rest old new (stays same empty) h = subst (λ (a : Status). ReadCause a old new) (sym same) h
handed_read answer result rest old new (fails sound same) h =
    subst (λ (a : Status). ReadCause a old new) (sym same) (sound_read answer old new sound h)

-- handing over takes no memory
pub handed_memory : (answer result : Status) (rest : List ℕ) → HandsOver answer rest result → result ≡ status.Memory
    → answer ≡ status.Memory
handed_memory answer result rest (stays same empty) memory = sym same ∙ memory
handed_memory answer result rest (fails sound same) memory =
    let no : status.WriteFault ≡ status.Memory = sym same ∙ memory in
    absurd (cc no)
