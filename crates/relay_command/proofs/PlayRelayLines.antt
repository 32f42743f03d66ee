-- What playing a line comes to, by how it was read, placed and told, and as for every command over lines.
use Rattle.std.specs.Prelude.{◌≡◌, ℕ, ◌+◌, ◌<◌, ◌≤◌, List, ◌∷◌, Option, Some, None, Result, Ok, Err}
use Rattle.std.proofs.Common.{◌∙◌, ap, sym, refl, subst, inl, inr, arith}
use Rattle.line_input.specs.Lines.{IsLine, Numbered, line_answer}
use Rattle.line_input.specs.declared.reason.BadLine.{BadLine}
use Rattle.line_input.specs.declared.reason.Reason.{Reason}
use Rattle.trace_text.specs.Script.{Said}
use Rattle.command_base.proofs.LineEnds as ends
use Rattle.command_base.specs.Ends.{EndsWithText}
use Rattle.command_base.specs.LineCommands.{Ends, GoesOn, TakesLine}
use Rattle.command_base.specs.Refusals.{Reply, in_front_of, line_of, refusal_line, refusal_reply}
use Rattle.command_base.specs.declared.refusal.Refused.{Refused}
use Rattle.command_base.specs.declared.refusal.Refused.TheVariants as refused
use Rattle.command_base.specs.declared.status.Status.{Status}
use Rattle.command_base.specs.declared.status.Status.TheVariants as status
use Rattle.script_stage.proofs.PlayedLines.{early_next}
use Rattle.script_stage.specs.declared.stage.Halt.TheVariants as halt
use Rattle.script_stage.specs.declared.stage.Stage.{Stage}
use Rattle.relay_text.specs.RelayLines.{judged_relay, placed_relay, placed_relay_line, relay_line}
use Rattle.relay_text.specs.declared.line.RelayLine.{RelayLine}
use Rattle.relay_watch.specs.declared.clock.DeskClock.{DeskClock}
use Rattle.relay_command.specs.inner.Seen.{RelayFrom, RelaySeen, RelayStands, passes-said, passes_behind, reply-refused, reply-said, reply_from}
use Rattle.relay_command.specs.inner.Turns.{IsRefusedLine, PlaysRelay, Tells, WasCut, WentOn, line_text, most_by, seen_behind}

-- A line that was told.

module _ (number : ℕ) (seen : RelaySeen) (says : RelayLine) (old next : Stage) (desk' : DeskClock)
    (held held' : Option (List ℕ)) (passes passes' : ℕ) where
  abbrev PlaysTold : Option Status → Type 0
  PlaysTold answer = PlaysRelay (placed_relay seen.said says) number seen old next desk' held held' passes passes' answer

  pub plays_on : WentOn seen says old next desk' held held' passes passes' → PlaysTold None
  plays_on w = (says, w.placed, w)

  pub plays_cut : WasCut seen says held held' passes passes' → PlaysTold (Some status.WriteFault)
  plays_cut w = inr (says, w.placed, w)

  pub plays_short : WasCut seen says held held' passes passes' → PlaysTold (Some status.Memory)
  plays_short w = (says, w.placed, w)

-- A line that is refused.

pub refused_by : (place : Result (Option RelayLine) Reason) (number : ℕ) (seen : RelaySeen) (old next : Stage)
    (desk' : DeskClock) (held held' : Option (List ℕ)) (passes passes' : ℕ) (reason : Reason) (why : Refused)
    → place ≡ Err reason → why ≡ refused.Line (record { line = number; reason = reason }) → passes' ≤ passes
    → (answer : Status) → EndsWithText held held' (refusal_line why) (status.Refused why) answer
    → PlaysRelay place number seen old next desk' held held' passes passes' (Some answer)
refused_by place number seen old next desk' held held' passes passes' reason why placed says none answer (inl h) =
    subst (λ (a : Status). PlaysRelay place number seen old next desk' held held' passes passes' (Some a)) (sym h.0)
    (record { reason = reason; placed = placed; says = says; wrote = h.1 }, none)
refused_by place number seen old next desk' held held' passes passes' reason why placed says none answer (inr h) =
    subst (λ (a : Status). PlaysRelay place number seen old next desk' held held' passes passes' (Some a)) (sym h.0)
    (inl (why, record { reason = reason; placed = placed; says = says; wrote = h.1 }, none))

-- what is said is refused in its place
pub out_of_place : (number : ℕ) (seen : RelaySeen) (says : RelayLine) (reason : Reason) (old next : Stage)
    (desk' : DeskClock) (held between held' : Option (List ℕ)) (passes passes' : ℕ)
    → Tells {A = Unit {0}} seen says old next desk' held between passes passes' (Err (halt.Refused reason))
    → (answer : Status)
    → EndsWithText between held' (refusal_line (refused.Line (record { line = number; reason = reason })))
    (status.Refused (refused.Line (record { line = number; reason = reason }))) answer
    → PlaysRelay (placed_relay seen.said says) number seen old next desk' held held' passes passes' (Some answer)
out_of_place number seen says reason old next desk' held between held' passes passes' told answer «end» =
    refused_by (placed_relay seen.said says) number seen old next desk' held held' passes passes' reason
    (refused.Line (record { line = number; reason = reason })) told.placed refl told.counted answer
    (subst (λ (h : Option (List ℕ)).
    EndsWithText h held' (refusal_line (refused.Line (record { line = number; reason = reason })))
    (status.Refused (refused.Line (record { line = number; reason = reason }))) answer) told.wrote «end»)

-- A line by how it was read.

answer_ok : (line : Numbered) (says : RelayLine) → (r : Result RelayLine Reason) → Ok says ≡ line_answer line r
    → r ≡ Ok says
answer_ok line says (Ok told) h = cc
answer_ok line says (Err why) h = absurd (cc)

record Why (line : Numbered) (r : Result RelayLine Reason) (bad : BadLine) : Type 0 where
  why : Reason
  reads : r ≡ Err why
  bad_is : bad ≡ record { line = line.number; reason = why }

answer_err : (line : Numbered) (bad : BadLine) → (r : Result RelayLine Reason) → Err bad ≡ line_answer line r
    → Why line r bad
answer_err line bad (Ok told) h = absurd (cc)
answer_err line bad (Err why) h = record { why = why; reads = refl; bad_is = cc }

module _ (line : Numbered) (seen : RelaySeen) (old next : Stage) (desk' : DeskClock) (held held' : Option (List ℕ))
    (passes passes' : ℕ) where
  abbrev PlaysLine : Option Status → Type 0
  PlaysLine answer =
      PlaysRelay (placed_relay_line seen.said (relay_line line.text)) line.number seen old next desk' held held' passes
      passes' answer

  pub plays_said : (says : RelayLine) (number : ℕ) (answer : Option Status)
      → Ok says ≡ line_answer line (relay_line line.text) → number ≡ line.number
      → PlaysRelay (placed_relay seen.said says) number seen old next desk' held held' passes passes' answer
      → PlaysLine answer
  plays_said says number answer reads number_is plays =
      subst (λ (r : Result RelayLine Reason).
      PlaysRelay (placed_relay_line seen.said r) line.number seen old next desk' held held' passes passes' answer)
      (sym (answer_ok line says (relay_line line.text) reads))
      (subst (λ (n : ℕ).
      PlaysRelay (placed_relay seen.said says) n seen old next desk' held held' passes passes' answer) number_is plays)

  pub plays_refused : (bad : BadLine) (answer : Status) → passes' ≤ passes
      → Err bad ≡ line_answer line (relay_line line.text)
      → EndsWithText held held' (refusal_line (refused.Line bad)) (status.Refused (refused.Line bad)) answer
      → PlaysLine (Some answer)
  plays_refused bad answer none reads «end» =
      let why : Why line (relay_line line.text) bad = answer_err line bad (relay_line line.text) reads in
      refused_by (placed_relay_line seen.said (relay_line line.text)) line.number seen old next desk' held held' passes
      passes' why.why (refused.Line bad) (ap (placed_relay_line seen.said) why.reads) (ap refused.Line why.bad_is) none
      answer «end»

-- A line as the command takes it.

judged-line : (said : Said) (text : List ℕ) → IsLine text
    → judged_relay said text ≡ placed_relay_line said (relay_line text)
judged-line said text h = rw (judged_relay, h.0, h.1) refl

module _ (before number : ℕ) (seen : RelaySeen) (stage next : Stage) (desk desk' : DeskClock) (text : List ℕ)
    (passes passes' : ℕ) (held held' : Option (List ℕ)) (stands : RelayStands before seen stage desk)
    (less : before < number) (says : IsLine text) where
  in_place : (a : Result (Option RelayLine) Reason) → placed_relay_line seen.said (relay_line text) ≡ a
      → judged_relay seen.said text ≡ a
  in_place a h = judged-line seen.said text says ∙ h

  -- a line that is refused is the rest of the reply
  refuses : (why : Refused) (Wrote : List ℕ → Type 0)
      → IsRefusedLine (placed_relay_line seen.said (relay_line text)) number Wrote why
      → Ends (RelayFrom seen) number text (refusal_reply why)
  refuses why Wrote h = λ texts.
      ap refusal_reply h.says
      ∙ reply-refused seen.said seen.scene text texts number h.reason (in_place _ h.placed)

  -- the lines of a line's entries and items stand in front of the reply to the others
  goes : (told : RelayLine) → judged_relay seen.said text ≡ Ok (Some told)
      → GoesOn (RelayFrom seen) (RelayFrom (seen_behind seen told)) number text (line_text seen told)
  goes told judge = λ texts r is.
      ap (in_front_of (line_text seen told)) is ∙ reply-said seen.said seen.scene text texts number told judge

  -- and each list of lines behind has one
  some : (told : RelayLine) → (texts : List (List ℕ))
      → (r : Reply) × RelayFrom (seen_behind seen told) (number + 1) texts r
  some told texts =
      let b : RelaySeen = seen_behind seen told in (reply_from b.said b.scene (number + 1) texts, refl)

  Taken : Option Status → Type 0
  Taken answer =
      TakesLine {Seen = RelaySeen} RelayFrom passes_behind (λ s. RelayStands number s next desk') seen number text passes
      passes' held held' answer

  within : (told : RelayLine) (texts : List (List ℕ)) → judged_relay seen.said text ≡ Ok (Some told)
      → passes' ≤ passes + most_by seen told → passes' ≤ passes + passes_behind seen number (text ∷ texts)
  within told texts judge counted =
      let all = passes-said seen.said seen.scene text texts told judge in
      omega (arith, all, counted)

  takes : (answer : Option Status)
      → PlaysRelay (placed_relay_line seen.said (relay_line text)) number seen stage next desk' held held' passes passes'
      answer → Taken answer
  unfolding Taken
  takes None h =
      record {
        next = seen_behind seen h.0;
        stands =
            record {
              stage_stands = h.2.stands.stage_stands;
              scene_stands = h.2.stands.scene_stands;
              early = early_next stage next before number less stands.early h.2.near;
            };
        text = line_text seen h.0;
        goes = goes h.0 (in_place _ h.1);
        wrote = h.2.wrote;
        counted = λ texts.
            let all = passes-said seen.said seen.scene text texts h.0 (in_place _ h.1) in
            omega (arith, all, h.2.counted);
      }
  takes (Some (status.Refused why)) h =
      ((refusal_line why, refuses why _ h.0, h.0.wrote, ap line_of h.0.says), λ texts. omega (arith, h.1))
  takes (Some status.WriteFault) (inl h) = (
    ends.cut_end (RelayFrom seen) number text held held' (refusal_reply h.0) (refuses h.0 _ h.1) h.1.wrote,
    λ texts. omega (arith, h.2),
  )
  takes (Some status.WriteFault) (inr h) = (
    ends.cut_text (RelayFrom seen) number text held held' (RelayFrom (seen_behind seen h.0)) (line_text seen h.0)
        (goes h.0 (in_place _ h.1)) (some h.0) h.2.wrote,
    λ texts. within h.0 texts (in_place _ h.1) h.2.counted,
  )
  takes (Some status.Memory) h = (
    ends.cut_text (RelayFrom seen) number text held held' (RelayFrom (seen_behind seen h.0)) (line_text seen h.0)
        (goes h.0 (in_place _ h.1)) (some h.0) h.2.wrote,
    λ texts. within h.0 texts (in_place _ h.1) h.2.counted,
  )
  takes (Some status.Done) h = absurd h
  takes (Some status.Usage) h = absurd h
  takes (Some (status.Broken place rule)) h = absurd h
  takes (Some status.ReadFault) h = absurd h
  takes (Some status.TooLong) h = absurd h

-- what the command says of a line
pub takes_line : (before : ℕ) (seen : RelaySeen) (stage next : Stage) (desk desk' : DeskClock) (line : Numbered)
    (passes passes' : ℕ) (held held' : Option (List ℕ)) → RelayStands before seen stage desk → before < line.number
    → IsLine line.text → (answer : Option Status)
    → PlaysRelay (placed_relay_line seen.said (relay_line line.text)) line.number seen stage next desk' held held' passes
    passes' answer
    → TakesLine {Seen = RelaySeen} RelayFrom passes_behind (λ s. RelayStands line.number s next desk') seen line.number
    line.text passes passes' held held' answer
unfolding Taken
takes_line before seen stage next desk desk' line passes passes' held held' stands less says answer h =
    takes before line.number seen stage next desk desk' line.text passes passes' held held' stands less says answer h
