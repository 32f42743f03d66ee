-- What a turn of `floor` comes to, by how the line was read and played.
use Rattle.std.specs.Prelude.{◌≡◌, ℕ, ◌<◌, List, [], Option, Some, None, Result, Ok, Err}
use Rattle.std.proofs.Common.{sym, ap, refl, subst, arith, ◌∙◌, inl, inr}
use Rattle.std.proofs.lemmas.List.{append-nil}
use Rattle.call_io.specs.Bytes.{Grew}
use Rattle.call_io.specs.Ways.{Way, Onward}
use Rattle.line_input.specs.Lines.{Numbered, line_answer}
use Rattle.line_input.specs.declared.reason.BadLine.{BadLine}
use Rattle.line_input.specs.declared.reason.Reason.{Reason}
use Rattle.command_base.specs.Ends.{EndsWithText}
use Rattle.command_base.specs.Refusals.{refusal_line}
use Rattle.command_base.specs.declared.refusal.Refused.{Refused}
use Rattle.command_base.specs.declared.refusal.Refused.TheVariants as refused
use Rattle.command_base.specs.declared.status.Status.{Status}
use Rattle.command_base.specs.declared.status.Status.TheVariants as status
use Rattle.call_floor.specs.declared.entry.FloorEntry.{FloorEntry}
use Rattle.call_floor.specs.declared.event.FloorEvent.{FloorEvent}
use Rattle.floor_command.specs.FloorScript.{FloorSaid, floor_says, placed, placed_line}
use Rattle.floor_command.specs.FloorText.{TextGrew, TextGrewPartly, sink, sink_name}
use Rattle.floor_command.specs.declared.listener.FloorTextOut.{FloorTextOut}
use Rattle.floor_command.specs.declared.says.FloorLine.{FloorLine}
use Rattle.floor_command.specs.declared.stage.FloorStage.{FloorStage}
use Rattle.floor_command.specs.declared.stage.Halt.{Halt}
use Rattle.floor_command.specs.declared.stage.Halt.TheVariants as halt
use Rattle.floor_command.specs.inner.FloorStage.{IsEarly, IsNext, Obeys}
use Rattle.floor_command.specs.inner.FloorTurns.{PlaysTo}

-- what is read in a line is what it says
answer_ok : (line : Numbered) (says : FloorLine) → (r : Result FloorLine Reason) → Ok says ≡ line_answer line r
    → r ≡ Ok says
answer_ok line says (Ok told) h = cc
answer_ok line says (Err why) h = absurd (cc)

-- why it is refused is why its reading is
record Why (line : Numbered) (r : Result FloorLine Reason) (bad : BadLine) : Type 0 where
  why : Reason
  reads : r ≡ Err why
  bad_is : bad ≡ record { line = line.number; reason = why }

answer_err : (line : Numbered) (bad : BadLine) → (r : Result FloorLine Reason) → Err bad ≡ line_answer line r
    → Why line r bad
answer_err line bad (Ok told) h = absurd (cc)
answer_err line bad (Err why) h = record { why = why; reads = refl; bad_is = cc }

-- what is said was played
pub plays_said : (line : Numbered) (says : FloorLine) (number : ℕ) (stands : FloorSaid → List FloorEvent → Type 0)
    (old new : FloorStage) (held held' : Option (List ℕ)) (Grows Partly : List FloorEntry → Type 0) (Counted : ℕ → Type 0)
    (t : Option Status)
    → Ok says ≡ line_answer line (floor_says line.text) → number ≡ line.number
    → ((said : FloorSaid) (events : List FloorEvent) → stands said events
    → PlaysTo (placed said says) number said events old new held held' Grows Partly Counted t)
    → (said : FloorSaid) (events : List FloorEvent) → stands said events
    → PlaysTo (placed_line said (floor_says line.text)) line.number said events old new held held' Grows Partly
    Counted t
plays_said line says number stands old new held held' Grows Partly Counted t reads number_is plays said events s =
    subst (λ (r : Result FloorLine Reason).
    PlaysTo (placed_line said r) line.number said events old new held held' Grows Partly Counted t)
    (sym (answer_ok line says (floor_says line.text) reads))
    (subst (λ (n : ℕ). PlaysTo (placed said says) n said events old new held held' Grows Partly Counted t) number_is
    (plays said events s))

pub refused_by : (place : Result (Option FloorLine) Reason) (number : ℕ) (said : FloorSaid) (events : List FloorEvent)
    (old new : FloorStage) (held held' : Option (List ℕ)) (Grows Partly : List FloorEntry → Type 0) (Counted : ℕ → Type 0)
    (reason : Reason) (why : Refused)
    → place ≡ Err reason → why ≡ refused.Line (record { line = number; reason = reason }) → Counted 0
    → (answer : Status) → EndsWithText held held' (refusal_line why) (status.Refused why) answer
    → PlaysTo place number said events old new held held' Grows Partly Counted (Some answer)
refused_by place number said events old new held held' Grows Partly Counted reason why placed says none answer (inl h) =
    subst (λ (a : Status). PlaysTo place number said events old new held held' Grows Partly Counted (Some a)) (sym h.0)
    (record { reason = reason; placed = placed; says = says; wrote = h.1 }, none)
refused_by place number said events old new held held' Grows Partly Counted reason why placed says none answer (inr h) =
    subst (λ (a : Status). PlaysTo place number said events old new held held' Grows Partly Counted (Some a)) (sym h.0)
    (inl (why, record { reason = reason; placed = placed; says = says; wrote = h.1 }, none))

-- what is refused was refused
pub plays_refused : (line : Numbered) (bad : BadLine) (stands : FloorSaid → List FloorEvent → Type 0) (old new : FloorStage)
    (held held' : Option (List ℕ)) (Grows Partly : List FloorEntry → Type 0) (Counted : ℕ → Type 0) (answer : Status)
    → Counted 0
    → Err bad ≡ line_answer line (floor_says line.text)
    → EndsWithText held held' (refusal_line (refused.Line bad)) (status.Refused (refused.Line bad)) answer
    → (said : FloorSaid) (events : List FloorEvent) → stands said events
    → PlaysTo (placed_line said (floor_says line.text)) line.number said events old new held held' Grows Partly
    Counted (Some answer)
plays_refused line bad stands old new held held' Grows Partly Counted answer none reads ends said events s =
    let why : Why line (floor_says line.text) bad = answer_err line bad (floor_says line.text) reads in
    refused_by (placed_line said (floor_says line.text)) line.number said events old new held held' Grows Partly
    Counted why.why (refused.Line bad)
    (ap (placed_line said) why.reads) (ap refused.Line why.bad_is) none answer ends

-- what one more line leaves is as early as one more line
pub early_next : (stage next : FloorStage) (old new : ℕ) → old < new → IsEarly stage old → IsNext stage next
    → IsEarly next new
early_next stage next old new less early near =
    record {
      calls = omega (arith, less, early.calls, near.calls);
      ticks = omega (arith, less, early.ticks, near.ticks);
    }

-- Still the same sink is written to, which went onward.
pub record KeepsSink {O : Type 0} (way : O → Way) (old new : FloorTextOut O) : Type 0 where
  pub same : sink_name new ≡ sink_name old
  pub onward : Onward (way (sink old)) (way (sink new))

-- a listener that writes lines keeps its sink, whatever came of them
pub told_same_sink : {O A : Type 0} (held : O → Option (List ℕ)) (way : O → Way) (old new : FloorTextOut O)
    (stage next : FloorStage) (said : FloorSaid) (events : List FloorEvent) (says : FloorLine) (Counted : ℕ → Type 0)
    → (answer : Result A Halt) → Obeys (TextGrew held way old new)
    (TextGrewPartly held way old new) Counted stage next said events says answer → KeepsSink way old new
told_same_sink held way old new stage next said events says Counted (Ok done) h =
    record { same = h.1.0; onward = h.1.2 }
told_same_sink held way old new stage next said events says Counted (Err (halt.Refused why)) h =
    record { same = h.1.0; onward = h.1.2 }
told_same_sink held way old new stage next said events says Counted (Err halt.Memory) h =
    record { same = h.0.0; onward = h.0.2 }
told_same_sink held way old new stage next said events says Counted (Err (halt.Floor fault)) h =
    record { same = h.1.0; onward = h.1.2 }

-- what is said is refused in its place
pub plays_out_of_place : (number : ℕ) (says : FloorLine) (reason : Reason) (stands : FloorSaid → List FloorEvent → Type 0)
    (old new : FloorStage) (held between held' : Option (List ℕ)) (Grows Partly : List FloorEntry → Type 0)
    (Counted : ℕ → Type 0) (answer : Status)
    → ((said : FloorSaid) (events : List FloorEvent) → stands said events
    → (placed said says ≡ Err reason) × Grew held between [] × Counted 0)
    → EndsWithText between held' (refusal_line (refused.Line (record { line = number; reason = reason })))
    (status.Refused (refused.Line (record { line = number; reason = reason }))) answer
    → (said : FloorSaid) (events : List FloorEvent) → stands said events
    → PlaysTo (placed said says) number said events old new held held' Grows Partly Counted (Some answer)
plays_out_of_place number says reason stands old new held between held' Grows Partly Counted answer obeys ends said
    events s =
    let o : (placed said says ≡ Err reason) × Grew held between [] × Counted 0 = obeys said events s in
    refused_by (placed said says) number said events old new held held' Grows Partly Counted reason
    (refused.Line (record { line = number; reason = reason })) o.0 refl o.2 answer
    (subst (λ (h : Option (List ℕ)).
    EndsWithText h held' (refusal_line (refused.Line (record { line = number; reason = reason })))
    (status.Refused (refused.Line (record { line = number; reason = reason }))) answer)
    (grew_nothing held between o.1) ends)
  where
    grew_nothing : (a b : Option (List ℕ)) → Grew a b [] → b ≡ a
    grew_nothing None b h = h
    grew_nothing (Some xs) b h = h ∙ ap Some (append-nil xs)
