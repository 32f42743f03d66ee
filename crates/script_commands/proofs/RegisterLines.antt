-- What a line of `register` comes to, as for every command over lines.
use Rattle.std.specs.Prelude.{◌≡◌, ℕ, ◌+◌, ◌<◌, ◌≤◌, true, List, [], ◌∷◌, ◌++◌, Option, Some, None, Result}
use Rattle.std.proofs.Common.{◌∙◌, ap, sym, refl, subst, inl, inr, arith}
use Rattle.call_io.specs.Bytes.{Grew}
use Rattle.call_io.proofs.BytesLemmas.{Grew-nothing}
use Rattle.trace_text.specs.Facts.{facts_in}
use Rattle.line_input.specs.Lines.{IsLine, Numbered, lines_of}
use Rattle.trace_text.specs.Script.{Said, judged, nothing_said, placed_line, said_after, script_line, script_of}
use Rattle.trace_model.specs.declared.event.Event.{Event}
use Rattle.line_input.specs.declared.reason.Reason.{Reason}
use Rattle.trace_text.specs.declared.script.ScriptLine.{ScriptLine}
use Rattle.call_register.specs.Rows.{Rows}
use Rattle.call_register.specs.Table.{table}
use Rattle.command_base.specs.LineCommands.{Begins, IsQuietLine, Ends, EndsInput, TakesLine}
use Rattle.command_base.specs.Refusals.{line_of, refusal_line, refusal_reply}
use Rattle.command_base.specs.Outcome.{Outcome, Streams}
use Rattle.script_commands.specs.Register.{register_reply, table_line}
use Rattle.script_stage.specs.ScriptTrace.{played, script_passes}
use Rattle.command_base.specs.declared.refusal.Refused.{Refused}
use Rattle.script_stage.specs.declared.stage.Stage.{Stage}
use Rattle.command_base.specs.declared.status.Status.{Status}
use Rattle.command_base.specs.declared.status.Status.TheVariants as status
use Rattle.script_stage.specs.Progress.{event_of}
use Rattle.script_commands.specs.inner.RegisterTurns.{RegisteredFrom, Registers, RegisterStands, WritesRows, registered_script}
use Rattle.script_stage.specs.ScriptSeen.{ScriptSeen, passes_behind_lines, passes_from, script_behind}
use Rattle.script_stage.specs.inner.ScriptLaws.{behind_none, judged-line}
use Rattle.script_commands.specs.inner.RegisterLaws.{behind_refused}
use Rattle.script_stage.specs.ScriptTurns.{RefusedLine}
use Rattle.script_stage.specs.Stage.{IsEarly, StageStandsFor}
use Rattle.command_base.proofs.LineEnds as ends
use Rattle.script_stage.proofs.ScriptSoFar.{passes_said, passes_whole, played-nothing, script_said, tidy_behind, trace_behind}
use Rattle.script_stage.proofs.PlayedLines.{early_next}

-- nothing was said yet
pub register_first : (stage : Stage) (rows : Rows) → StageStandsFor stage nothing_said [] → IsEarly stage 0
    → rows ≡ table [] → RegisterStands 0 (record { said = nothing_said; events = [] }) stage rows
register_first stage rows stands early none =
    record {
      stage_stands = stands;
      rows_are = none ∙ ap table (sym (played-nothing (facts_in nothing_said.facts)));
      early = early;
      tidy = inr refl;
    }

-- nothing was written
grew_nothing : (held held' : Option (List ℕ)) → held' ≡ held → Grew held held' []
grew_nothing held held' silent = subst (λ (h : Option (List ℕ)). Grew held h []) (sym silent) (Grew-nothing held)

module _ (before number : ℕ) (seen : ScriptSeen) (stage next : Stage) (rows rows' : Rows) (line : List ℕ)
    (passes passes' : ℕ) (held held' : Option (List ℕ)) (stands : RegisterStands before seen stage rows)
    (less : before < number) (says : IsLine line) where
  in_place : (a : Result (Option ScriptLine) Reason) → placed_line seen.said (script_line line) ≡ a
      → judged seen.said line ≡ a
  in_place a h = judged-line seen.said line says ∙ h

  -- a line that is refused is the whole reply
  refuses : (why : Refused) (Wrote : List ℕ → Type 0)
      → RefusedLine (placed_line seen.said (script_line line)) number Wrote why
      → Ends (RegisteredFrom seen) number line (refusal_reply why)
  refuses why Wrote h = λ texts.
      ap refusal_reply h.says ∙ sym (behind_refused seen number line texts h.reason (in_place _ h.placed))

  -- a reply begins with nothing
  nothing : Begins (RegisteredFrom seen) number line []
  nothing = λ texts. (registered_script (script_behind seen number (line ∷ texts)), refl)

  Taken : Option Status → Type 0
  Taken answer =
      TakesLine {Seen = ScriptSeen} RegisteredFrom passes_from (λ s. RegisterStands number s next rows') seen number line
      passes passes' held held' answer

  takes : (answer : Option Status)
      → Registers (placed_line seen.said (script_line line)) number seen.said seen.events stage next rows rows' held
      held' (λ n. passes' ≤ passes + n) answer → Taken answer
  unfolding Taken
  takes None h =
      record {
        next = record { said = said_after seen.said h.says; events = seen.events ++ event_of h.says };
        stands =
            record {
              stage_stands = h.stands;
              rows_are =
                  h.grows.0 (played (facts_in seen.said.facts) seen.events) stands.rows_are
                  ∙ ap table
                  (sym (trace_behind seen.said seen.events line stands.tidy h.says (in_place _ h.placed)));
              early = early_next stage next before number less stands.early h.near;
              tidy = tidy_behind seen.said seen.events line stands.tidy h.says (in_place _ h.placed);
            };
        text = [];
        goes = λ texts r is.
            is ∙ ap registered_script (sym (script_said seen number line texts h.says (in_place _ h.placed)));
        wrote = grew_nothing held held' h.grows.1;
        counted = λ texts.
            let all = passes_said seen.said seen.events line texts h.says (in_place _ h.placed) in
            omega (arith, all, h.counted);
      }
  takes (Some (status.Refused why)) h =
      ((refusal_line why, refuses why _ h.0, h.0.wrote, ap line_of h.0.says), λ texts. omega (arith, h.1))
  takes (Some status.WriteFault) (inl h) = (
    ends.cut_end (RegisteredFrom seen) number line held held' (refusal_reply h.0) (refuses h.0 _ h.1) h.1.wrote,
    λ texts. omega (arith, h.2),
  )
  takes (Some status.WriteFault) (inr h) = (
    ([], nothing, grew_nothing held held' h.grows),
    λ texts.
        let all = passes_said seen.said seen.events line texts h.says (in_place _ h.placed) in
        omega (arith, all, h.counted),
  )
  takes (Some status.Memory) h = (
    ([], nothing, grew_nothing held held' h.grows),
    λ texts.
        let all = passes_said seen.said seen.events line texts h.says (in_place _ h.placed) in
        omega (arith, all, h.counted),
  )
  takes (Some status.Done) h = absurd h
  takes (Some status.Usage) h = absurd h
  takes (Some (status.Broken place rule)) h = absurd h
  takes (Some status.ReadFault) h = absurd h
  takes (Some status.TooLong) h = absurd h

-- what the command says of a line
pub takes_line : (before : ℕ) (seen : ScriptSeen) (stage next : Stage) (rows rows' : Rows) (line : Numbered)
    (passes passes' : ℕ) (held held' : Option (List ℕ)) → RegisterStands before seen stage rows → before < line.number
    → IsLine line.text → (answer : Option Status)
    → Registers (placed_line seen.said (script_line line.text)) line.number seen.said seen.events stage next rows rows'
    held held' (λ n. passes' ≤ passes + n) answer
    → TakesLine {Seen = ScriptSeen} RegisteredFrom passes_from (λ s. RegisterStands line.number s next rows') seen
    line.number line.text passes passes' held held' answer
unfolding Taken
takes_line before seen stage next rows rows' line passes passes' held held' stands less says answer h =
    takes before line.number seen stage next rows rows' line.text passes passes' held held' stands less says answer h

-- the register of the whole script
rows_replied : (seen : ScriptSeen) (number : ℕ) (rows : Rows)
    → rows ≡ table (played (facts_in seen.said.facts) seen.events)
    → record { text = table_line rows; status = status.Done } ≡ registered_script (script_behind seen number [])
rows_replied seen number rows is =
    ap (λ (rows : Rows). record { text = table_line rows; status = status.Done }) is
    ∙ ap registered_script (sym (behind_none seen number))

-- what it says at the end of the input
pub takes_end : (before number : ℕ) (seen : ScriptSeen) (stage : Stage) (rows : Rows) (held held' : Option (List ℕ))
    (answer : Status) → RegisterStands before seen stage rows → WritesRows rows held held' answer
    → EndsInput (RegisteredFrom seen) number held held' answer
takes_end before number seen stage rows held held' answer s (inl (inl h)) =
    subst (λ (a : Status). EndsInput (RegisteredFrom seen) number held held' a) (sym h.0)
    (table_line rows, rows_replied seen number rows s.rows_are, h.1)
takes_end before number seen stage rows held held' answer s (inl (inr h)) =
    subst (λ (a : Status). EndsInput (RegisteredFrom seen) number held held' a) (sym h.0) (
      h.1.0,
      record { text = h.1.1; status = status.Done },
      ap (λ (t : List ℕ). record { text = t; status = status.Done }) h.1.2 ∙ rows_replied seen number rows s.rows_are,
      h.1.3,
    )
takes_end before number seen stage rows held held' answer s (inr h) =
    subst (λ (a : Status). EndsInput (RegisteredFrom seen) number held held' a) (sym h.0) h.1

-- what the loop says of the script's lines, as of the script
pub register_outcome : (old new : Streams) (answer : Status)
    → Outcome (λ bytes r. RegisteredFrom (record { said = nothing_said; events = [] }) 1 (lines_of bytes) r)
    (λ bytes. passes_from (record { said = nothing_said; events = [] }) 1 (lines_of bytes)) true old new answer
    → Outcome (λ bytes r. r ≡ register_reply bytes) (λ bytes. script_passes (script_of bytes)) true old new answer
register_outcome old new answer o =
    ends.most_more (λ bytes r. r ≡ register_reply bytes)
    (λ bytes. passes_from (record { said = nothing_said; events = [] }) 1 (lines_of bytes))
    (λ bytes. script_passes (script_of bytes)) old new
    (λ bytes.
    let whole : passes_behind_lines nothing_said [] (lines_of bytes) + 0 ≡ script_passes (script_of bytes) =
    passes_whole nothing_said [] (lines_of bytes) 1 (inr refl) in
    omega (arith, whole)) answer o

-- a line writes nothing but its refusal
pub silent_line : (place : Result (Option ScriptLine) Reason) (number : ℕ) (said : Said) (events : List Event)
    (old new : Stage) (rows rows' : Rows) (held held' : Option (List ℕ)) (Counted : ℕ → Type 0)
    (answer : Option Status) → Registers place number said events old new rows rows' held held' Counted answer
    → IsQuietLine answer → held' ≡ held
silent_line place number said events old new rows rows' held held' Counted None h quiet = h.grows.1
silent_line place number said events old new rows rows' held held' Counted (Some status.Memory) h quiet = h.grows
silent_line place number said events old new rows rows' held held' Counted (Some (status.Refused why)) h q = absurd q
silent_line place number said events old new rows rows' held held' Counted (Some (status.Broken p r)) h q = absurd q
silent_line place number said events old new rows rows' held held' Counted (Some status.Done) h q = absurd q
silent_line place number said events old new rows rows' held held' Counted (Some status.Usage) h q = absurd q
silent_line place number said events old new rows rows' held held' Counted (Some status.WriteFault) h q = absurd q
silent_line place number said events old new rows rows' held held' Counted (Some status.ReadFault) h q = absurd q
silent_line place number said events old new rows rows' held held' Counted (Some status.TooLong) h q = absurd q
