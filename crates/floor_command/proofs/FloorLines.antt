-- What a line of `floor` comes to, as for every command over lines.
use Rattle.std.specs.Prelude.{◌≡◌, ℕ, ◌+◌, ◌<◌, ◌≤◌, true, List, [], ◌∷◌, ◌++◌, Option, Some, None, Result, Ok}
use Rattle.std.proofs.Common.{◌∙◌, ap, sym, refl, append_assoc, inl, inr, arith}
use Rattle.line_input.specs.Lines.{IsLine, Numbered, lines_of}
use Rattle.line_input.specs.declared.reason.Reason.{Reason}
use Rattle.command_base.proofs.LineEnds as ends
use Rattle.command_base.specs.LineCommands.{Ends, GoesOn, TakesLine}
use Rattle.command_base.specs.Outcome.{Outcome, Streams}
use Rattle.command_base.specs.Refusals.{Reply, line_of, refusal_line, refusal_reply, in_front_of}
use Rattle.command_base.specs.declared.refusal.Refused.{Refused}
use Rattle.command_base.specs.declared.status.Status.{Status}
use Rattle.command_base.specs.declared.status.Status.TheVariants as status
use Rattle.floor_command.specs.FloorRun.{floor_passes, floor_reply, played}
use Rattle.floor_command.specs.FloorScript.{floor_says, judged, nothing_said, placed_line, said_after, stands_in}
use Rattle.floor_command.specs.FloorText.{text_of}
use Rattle.floor_command.specs.declared.says.FloorLine.{FloorLine}
use Rattle.floor_command.specs.declared.stage.FloorStage.{FloorStage}
use Rattle.floor_command.specs.inner.FloorLaws.{FloorFrom, FloorRunStands, floor_lined, floor_refused, judged-line, script_reply, text_so_far}
use Rattle.floor_command.specs.inner.FloorSeen.{FloorSeen, passes_behind_lines, passes_from}
use Rattle.floor_command.specs.inner.FloorStage.{IsEarly, StageStandsFor}
use Rattle.floor_command.specs.inner.FloorTextLaws.{text_of-append}
use Rattle.floor_command.specs.inner.FloorTurns.{Plays, RefusedLine}
use Rattle.floor_command.specs.inner.Progress.{entries_of, event_of}
use Rattle.floor_command.proofs.PlayedLines.{early_next}
use Rattle.floor_command.proofs.ScriptSoFar.{passes_said, passes_whole, script_said, tidy_behind, trace_behind}

-- nothing was said yet
pub floor_first : (stage : FloorStage) → StageStandsFor stage nothing_said [] → IsEarly stage 0
    → FloorRunStands 0 (record { said = nothing_said; events = [] }) stage
floor_first stage stands early = record { stage_stands = stands; early = early; tidy = inr refl }

module _ (before number : ℕ) (seen : FloorSeen) (stage next : FloorStage) (line : List ℕ) (passes passes' : ℕ)
    (held held' : Option (List ℕ)) (stands : FloorRunStands before seen stage) (less : before < number)
    (says : IsLine line) where
  in_place : (a : Result (Option FloorLine) Reason) → placed_line seen.said (floor_says line) ≡ a
      → judged seen.said line ≡ a
  in_place a h = judged-line seen.said line says ∙ h

  -- what was said with one more line
  abbrev behind : FloorLine → FloorSeen
  behind told = record { said = said_after seen.said told; events = seen.events ++ event_of told }

  -- a line that is refused is the rest of the reply
  refuses : (why : Refused) (Wrote : List ℕ → Type 0)
      → RefusedLine (placed_line seen.said (floor_says line)) number Wrote why
      → Ends (FloorFrom seen) number line (refusal_reply why)
  refuses why Wrote h = λ texts.
      ap (λ w. in_front_of (text_so_far seen) (refusal_reply w)) h.says
      ∙ sym (floor_refused seen number line texts h.reason (in_place _ h.placed))

  -- the lines of a line's entries stand in front of the reply to the others
  goes : (told : FloorLine) → judged seen.said line ≡ Ok (Some told)
      → GoesOn (FloorFrom seen) (FloorFrom (behind told)) number line (text_of (entries_of seen.said seen.events told))
  goes told judge = λ texts r is.
      ap (λ t. record { text = t; status = r.status })
      (sym (append_assoc (text_so_far seen) (text_of (entries_of seen.said seen.events told)) r.text)
      ∙ ap (λ t. t ++ r.text)
      (sym (ap text_of (trace_behind seen.said seen.events line stands.tidy told judge)
      ∙ text_of-append (played (stands_in seen.said.known) seen.events) (entries_of seen.said seen.events told))))
      ∙ is
      ∙ ap script_reply (sym (script_said seen number line texts told judge))

  -- and each list of lines behind has one
  some : (told : FloorLine) → judged seen.said line ≡ Ok (Some told) → (texts : List (List ℕ))
      → (r : Reply) × FloorFrom (behind told) (number + 1) texts r
  some told judge texts =
      (floor_lined (behind told) (tidy_behind seen.said seen.events line stands.tidy told judge)).some (number + 1) texts

  -- each list of lines from here has a reply, in front of which nothing stands
  some_here : (texts : List (List ℕ)) → (r : Reply) × FloorFrom seen number (line ∷ texts) (in_front_of [] r)
  some_here texts = (floor_lined seen stands.tidy).some number (line ∷ texts)

  Taken : Option Status → Type 0
  Taken answer =
      TakesLine {Seen = FloorSeen} FloorFrom passes_from (λ s. FloorRunStands number s next) seen number line passes passes'
      held held' answer

  takes : (answer : Option Status)
      → Plays (placed_line seen.said (floor_says line)) number seen.said seen.events stage next held held'
      (λ n. passes' ≤ passes + n) answer → Taken answer
  unfolding Taken
  takes None h =
      record {
        next = behind h.says;
        stands =
            record {
              stage_stands = h.stands;
              early = early_next stage next before number less stands.early h.near;
              tidy = tidy_behind seen.said seen.events line stands.tidy h.says (in_place _ h.placed);
            };
        text = text_of (entries_of seen.said seen.events h.says);
        goes = goes h.says (in_place _ h.placed);
        wrote = h.grows;
        counted = λ texts.
            let all = passes_said seen.said seen.events line texts h.says (in_place _ h.placed) in
            omega (arith, all, h.counted);
      }
  takes (Some (status.Refused why)) h =
      ((refusal_line why, refuses why _ h.0, h.0.wrote, ap line_of h.0.says), λ texts. omega (arith, h.1))
  takes (Some status.WriteFault) (inl h) = (
    ends.cut_end (FloorFrom seen) number line held held' (refusal_reply h.0) (refuses h.0 _ h.1) h.1.wrote,
    λ texts. omega (arith, h.2),
  )
  takes (Some status.WriteFault) (inr h) = (
    ends.cut_text (FloorFrom seen) number line held held' (FloorFrom (behind h.says))
        (text_of (entries_of seen.said seen.events h.says)) (goes h.says (in_place _ h.placed))
        (some h.says (in_place _ h.placed)) h.grows,
    λ texts.
        let all = passes_said seen.said seen.events line texts h.says (in_place _ h.placed) in
        omega (arith, all, h.counted),
  )
  takes (Some status.Memory) (inl h) = (
    ends.cut_text (FloorFrom seen) number line held held' (FloorFrom (behind h.says))
        (text_of (entries_of seen.said seen.events h.says)) (goes h.says (in_place _ h.placed))
        (some h.says (in_place _ h.placed)) h.grows,
    λ texts.
        let all = passes_said seen.said seen.events line texts h.says (in_place _ h.placed) in
        omega (arith, all, h.counted),
  )
  takes (Some status.Memory) (inr h) = (
    ([], λ texts. some_here texts, h.0),
    λ texts. omega (arith, h.1),
  )
  takes (Some status.Done) h = absurd h
  takes (Some status.Usage) h = absurd h
  takes (Some (status.Broken place rule)) h = absurd h
  takes (Some status.ReadFault) h = absurd h
  takes (Some status.TooLong) h = absurd h

-- what the command says of a line
pub takes_line : (before : ℕ) (seen : FloorSeen) (stage next : FloorStage) (line : Numbered) (passes passes' : ℕ)
    (held held' : Option (List ℕ)) → FloorRunStands before seen stage → before < line.number → IsLine line.text
    → (answer : Option Status)
    → Plays (placed_line seen.said (floor_says line.text)) line.number seen.said seen.events stage next held held'
    (λ n. passes' ≤ passes + n) answer
    → TakesLine {Seen = FloorSeen} FloorFrom passes_from (λ s. FloorRunStands line.number s next) seen line.number line.text
    passes passes' held held' answer
unfolding Taken
takes_line before seen stage next line passes passes' held held' stands less says answer h =
    takes before line.number seen stage next line.text passes passes' held held' stands less says answer h

-- what the loop says of the script's lines, as of the script
pub floor_outcome : (old new : Streams) (answer : Status)
    → Outcome (λ bytes r. FloorFrom (record { said = nothing_said; events = [] }) 1 (lines_of bytes) r)
    (λ bytes. passes_from (record { said = nothing_said; events = [] }) 1 (lines_of bytes)) true old new answer
    → Outcome (λ bytes r. r ≡ floor_reply bytes) (λ bytes. floor_passes bytes) true old new answer
floor_outcome old new answer o =
    ends.most_more (λ bytes r. r ≡ floor_reply bytes)
    (λ bytes. passes_from (record { said = nothing_said; events = [] }) 1 (lines_of bytes))
    (λ bytes. floor_passes bytes) old new
    (λ bytes.
    let whole : passes_behind_lines nothing_said [] (lines_of bytes) + 0 ≡ floor_passes bytes =
    passes_whole nothing_said [] (lines_of bytes) 1 (inr refl) in
    omega (arith, whole)) answer o
