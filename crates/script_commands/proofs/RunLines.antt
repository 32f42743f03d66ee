-- What a line of `run` comes to, as for every command over lines.
use Rattle.std.specs.Prelude.{◌≡◌, ℕ, ◌+◌, ◌<◌, ◌≤◌, true, List, [], ◌++◌, Option, Some, None, Result, Ok}
use Rattle.std.proofs.Common.{◌∙◌, ap, sym, refl, append_assoc, inl, inr, arith}
use Rattle.trace_text.specs.EntryLine.{text_of}
use Rattle.trace_text.specs.inner.TextListenerLaws.{text_of-append}
use Rattle.trace_text.specs.Facts.{facts_in}
use Rattle.line_input.specs.Lines.{IsLine, Numbered, lines_of}
use Rattle.trace_text.specs.Script.{judged, nothing_said, placed_line, said_after, script_line, script_of}
use Rattle.line_input.specs.declared.reason.Reason.{Reason}
use Rattle.trace_text.specs.declared.script.ScriptLine.{ScriptLine}
use Rattle.command_base.specs.LineCommands.{Ends, GoesOn, TakesLine}
use Rattle.command_base.specs.Outcome.{Outcome, Streams}
use Rattle.command_base.specs.Refusals.{Reply, line_of, refusal_line, refusal_reply, in_front_of}
use Rattle.script_stage.specs.ScriptTrace.{played, script_passes}
use Rattle.script_commands.specs.Run.{run_reply}
use Rattle.command_base.specs.declared.refusal.Refused.{Refused}
use Rattle.script_stage.specs.declared.stage.Stage.{Stage}
use Rattle.command_base.specs.declared.status.Status.{Status}
use Rattle.command_base.specs.declared.status.Status.TheVariants as status
use Rattle.script_stage.specs.Progress.{entries_of, event_of}
use Rattle.script_stage.specs.ScriptSeen.{ScriptSeen, passes_behind_lines, passes_from}
use Rattle.script_commands.specs.inner.RunLaws.{RunFrom, RunStands, run_lined, run_refused, script_reply, text_so_far}
use Rattle.script_stage.specs.inner.ScriptLaws.{judged-line}
use Rattle.script_stage.specs.ScriptTurns.{Plays, RefusedLine}
use Rattle.script_stage.specs.Stage.{IsEarly, StageStandsFor}
use Rattle.command_base.proofs.LineEnds as ends
use Rattle.script_stage.proofs.ScriptSoFar.{passes_said, passes_whole, script_said, tidy_behind, trace_behind}
use Rattle.script_stage.proofs.PlayedLines.{early_next}

-- nothing was said yet
pub run_first : (stage : Stage) → StageStandsFor stage nothing_said [] → IsEarly stage 0
    → RunStands 0 (record { said = nothing_said; events = [] }) stage
run_first stage stands early = record { stage_stands = stands; early = early; tidy = inr refl }

module _ (before number : ℕ) (seen : ScriptSeen) (stage next : Stage) (line : List ℕ) (passes passes' : ℕ)
    (held held' : Option (List ℕ)) (stands : RunStands before seen stage) (less : before < number)
    (says : IsLine line) where
  in_place : (a : Result (Option ScriptLine) Reason) → placed_line seen.said (script_line line) ≡ a
      → judged seen.said line ≡ a
  in_place a h = judged-line seen.said line says ∙ h

  -- what was said with one more line
  abbrev behind : ScriptLine → ScriptSeen
  behind told = record { said = said_after seen.said told; events = seen.events ++ event_of told }

  -- a line that is refused is the rest of the reply
  refuses : (why : Refused) (Wrote : List ℕ → Type 0)
      → RefusedLine (placed_line seen.said (script_line line)) number Wrote why
      → Ends (RunFrom seen) number line (refusal_reply why)
  refuses why Wrote h = λ texts.
      ap (λ w. in_front_of (text_so_far seen) (refusal_reply w)) h.says
      ∙ sym (run_refused seen number line texts h.reason (in_place _ h.placed))

  -- the lines of a line's entries stand in front of the reply to the others
  goes : (told : ScriptLine) → judged seen.said line ≡ Ok (Some told)
      → GoesOn (RunFrom seen) (RunFrom (behind told)) number line (text_of (entries_of seen.said seen.events told))
  goes told judge = λ texts r is.
      ap (λ t. record { text = t; status = r.status })
      (sym (append_assoc (text_so_far seen) (text_of (entries_of seen.said seen.events told)) r.text)
      ∙ ap (λ t. t ++ r.text)
      (sym (ap text_of (trace_behind seen.said seen.events line stands.tidy told judge)
      ∙ text_of-append (played (facts_in seen.said.facts) seen.events) (entries_of seen.said seen.events told))))
      ∙ is
      ∙ ap script_reply (sym (script_said seen number line texts told judge))

  -- and each list of lines behind has one
  some : (told : ScriptLine) → judged seen.said line ≡ Ok (Some told) → (texts : List (List ℕ))
      → (r : Reply) × RunFrom (behind told) (number + 1) texts r
  some told judge texts =
      (run_lined (behind told) (tidy_behind seen.said seen.events line stands.tidy told judge)).some (number + 1) texts

  Taken : Option Status → Type 0
  Taken answer =
      TakesLine {Seen = ScriptSeen} RunFrom passes_from (λ s. RunStands number s next) seen number line passes passes'
      held held' answer

  takes : (answer : Option Status)
      → Plays (placed_line seen.said (script_line line)) number seen.said seen.events stage next held held'
      (λ n. passes' ≤ passes + n) answer → Taken answer
  unfolding Taken
  takes None h =
      record {
        next = behind h.says;
        stands =
            record {
              stage_stands = h.stands;
              early = early_next stage next before number less stands.early h.near;
              tidy = tidy_behind seen.said seen.events line stands.tidy h.says (in_place _ h.placed);
            };
        text = text_of (entries_of seen.said seen.events h.says);
        goes = goes h.says (in_place _ h.placed);
        wrote = h.grows;
        counted = λ texts.
            let all = passes_said seen.said seen.events line texts h.says (in_place _ h.placed) in
            omega (arith, all, h.counted);
      }
  takes (Some (status.Refused why)) h =
      ((refusal_line why, refuses why _ h.0, h.0.wrote, ap line_of h.0.says), λ texts. omega (arith, h.1))
  takes (Some status.WriteFault) (inl h) = (
    ends.cut_end (RunFrom seen) number line held held' (refusal_reply h.0) (refuses h.0 _ h.1) h.1.wrote,
    λ texts. omega (arith, h.2),
  )
  takes (Some status.WriteFault) (inr h) = (
    ends.cut_text (RunFrom seen) number line held held' (RunFrom (behind h.says))
        (text_of (entries_of seen.said seen.events h.says)) (goes h.says (in_place _ h.placed))
        (some h.says (in_place _ h.placed)) h.grows,
    λ texts.
        let all = passes_said seen.said seen.events line texts h.says (in_place _ h.placed) in
        omega (arith, all, h.counted),
  )
  takes (Some status.Memory) h = (
    ends.cut_text (RunFrom seen) number line held held' (RunFrom (behind h.says))
        (text_of (entries_of seen.said seen.events h.says)) (goes h.says (in_place _ h.placed))
        (some h.says (in_place _ h.placed)) h.grows,
    λ texts.
        let all = passes_said seen.said seen.events line texts h.says (in_place _ h.placed) in
        omega (arith, all, h.counted),
  )
  takes (Some status.Done) h = absurd h
  takes (Some status.Usage) h = absurd h
  takes (Some (status.Broken place rule)) h = absurd h
  takes (Some status.ReadFault) h = absurd h
  takes (Some status.TooLong) h = absurd h

-- what the command says of a line
pub takes_line : (before : ℕ) (seen : ScriptSeen) (stage next : Stage) (line : Numbered) (passes passes' : ℕ)
    (held held' : Option (List ℕ)) → RunStands before seen stage → before < line.number → IsLine line.text
    → (answer : Option Status)
    → Plays (placed_line seen.said (script_line line.text)) line.number seen.said seen.events stage next held held'
    (λ n. passes' ≤ passes + n) answer
    → TakesLine {Seen = ScriptSeen} RunFrom passes_from (λ s. RunStands line.number s next) seen line.number line.text
    passes passes' held held' answer
unfolding Taken
takes_line before seen stage next line passes passes' held held' stands less says answer h =
    takes before line.number seen stage next line.text passes passes' held held' stands less says answer h

-- what the loop says of the script's lines, as of the script
pub run_outcome : (old new : Streams) (answer : Status)
    → Outcome (λ bytes r. RunFrom (record { said = nothing_said; events = [] }) 1 (lines_of bytes) r)
    (λ bytes. passes_from (record { said = nothing_said; events = [] }) 1 (lines_of bytes)) true old new answer
    → Outcome (λ bytes r. r ≡ run_reply bytes) (λ bytes. script_passes (script_of bytes)) true old new answer
run_outcome old new answer o =
    ends.most_more (λ bytes r. r ≡ run_reply bytes)
    (λ bytes. passes_from (record { said = nothing_said; events = [] }) 1 (lines_of bytes))
    (λ bytes. script_passes (script_of bytes)) old new
    (λ bytes.
    let whole : passes_behind_lines nothing_said [] (lines_of bytes) + 0 ≡ script_passes (script_of bytes) =
    passes_whole nothing_said [] (lines_of bytes) 1 (inr refl) in
    omega (arith, whole)) answer o
