-- What a line of `tones` comes to, as for every command over lines.
use Rattle.std.specs.Prelude.{◌≡◌, ℕ, ◌+◌, ◌<◌, ◌≤◌, true, false, List, [], ◌∷◌, ◌++◌, Option, Some, None, Result, Ok}
use Rattle.std.proofs.Common.{◌∙◌, ap, sym, refl, subst, append_assoc, inl, inr, arith}
use Rattle.std.proofs.lemmas.List.{append-nil}
use Rattle.call_io.proofs.BytesLemmas.{Grew-nothing}
use Rattle.call_io.specs.Bytes.{Grew}
use Rattle.trace_model.specs.declared.event.Event.{Event}
use Rattle.trace_model.specs.declared.entry.Entry.{Entry}
use Rattle.trace_text.specs.EntryLine.{text_of}
use Rattle.trace_text.specs.inner.TextListenerLaws.{text_of-append}
use Rattle.trace_text.specs.Facts.{facts_in}
use Rattle.line_input.specs.Lines.{IsLine, Numbered, lines_of}
use Rattle.trace_text.specs.Script.{judged, nothing_said, placed_line, said_after, script_line}
use Rattle.line_input.specs.declared.reason.Reason.{Reason}
use Rattle.trace_text.specs.declared.script.ScriptLine.{ScriptLine}
use Rattle.command_base.specs.LineCommands.{Ends, GoesOn, TakesLine}
use Rattle.command_base.specs.Refusals.{Reply, line_of, refusal_line, refusal_reply, in_front_of}
use Rattle.command_base.specs.declared.refusal.Refused.{Refused}
use Rattle.command_base.specs.declared.status.Status.{Status}
use Rattle.command_base.specs.declared.status.Status.TheVariants as status
use Rattle.command_base.proofs.LineEnds as ends
use Rattle.script_stage.specs.Progress.{entries_of, event_of, passes_by}
use Rattle.script_stage.specs.ScriptSeen.{IsTidy}
use Rattle.script_stage.specs.ScriptTrace.{most_passes, played, script_passes}
use Rattle.script_stage.specs.ScriptTurns.{RefusedLine}
use Rattle.script_stage.specs.Stage.{IsEarly, StageStandsFor}
use Rattle.script_stage.specs.declared.stage.Stage.{Stage}
use Rattle.script_stage.specs.inner.ScriptLaws.{judged-line}
use Rattle.script_stage.proofs.PlayedLines.{early_next}
use Rattle.script_stage.proofs.ScriptSoFar.{passes_behind, tidy_behind, trace_behind}
use Rattle.command_base.specs.Outcome.{Outcome, Streams}
use Rattle.tones_command.specs.Modem.{NoiseFrom, most_noise}
use Rattle.tones_command.specs.Tones.{nothing_carried, tones_passes, tones_reply}
use Rattle.tones_command.specs.declared.modem.Modem.{Modem}
use Rattle.tones_command.specs.declared.sent.SentFrames.{SentFrames}
use Rattle.tones_command.specs.inner.Hearing.{FramesStandFor}
use Rattle.tones_command.specs.inner.ToneLaws.{toned_said, tones_lined, tones_pass, tones_refused}
use Rattle.tones_command.specs.inner.ToneSeen.{ToneSeen, TonesFrom, TonesStand, passes_so_far, script_reply, seen_behind, toned_behind, toning_behind, tones_passes_from, trace_so_far}
use Rattle.tones_command.specs.inner.ToneTurns.{IsLineLost, IsStill, LineTurn, PlaysTones, line_draws, line_lost}
use Rattle.tones_command.proofs.LostLines.{draws_are, line_is_lost, line_left, placed_read, stage_behind_lost}

module _ (before number : ℕ) (seen : ToneSeen) (stage next : Stage) (frames frames' : SentFrames) (modem modem' : Modem)
    (line : List ℕ) (passes passes' : ℕ) (held held' : Option (List ℕ))
    (stands : TonesStand before seen stage frames modem) (less : before < number) (says : IsLine line)
    (most : modem'.most ≡ modem.most)
    (drawn : (told : ScriptLine) → script_line line ≡ Ok told → modem'.x ≡ line_draws seen told) where
  in_place : (a : Result (Option ScriptLine) Reason) → placed_line seen.said (script_line line) ≡ a
      → judged seen.said line ≡ a
  in_place a h = judged-line seen.said line says ∙ h

  -- a line that is refused is the rest of the reply
  refuses : (why : Refused) (Wrote : List ℕ → Type 0)
      → RefusedLine (placed_line seen.said (script_line line)) number Wrote why
      → Ends (TonesFrom seen) number line (refusal_reply why)
  refuses why Wrote h = λ texts.
      ap (λ w. in_front_of (text_of (trace_so_far seen)) (refusal_reply w)) h.says
      ∙ sym (tones_refused seen number line texts h.reason (in_place _ h.placed))

  -- Of a line that is left: the trace with it, and how often the ends are passed with it.
  record IsLeft (told : ScriptLine) : Type 0 where
    trace : trace_so_far (seen_behind seen told)
        ≡ trace_so_far seen ++ entries_of seen.said seen.toning.kept told
    tidy : IsTidy (said_after seen.said told) (toning_behind seen told).kept
    counted : passes_so_far (seen_behind seen told)
        ≡ passes_so_far seen + passes_by seen.said seen.toning.kept told

  left : (told : ScriptLine) → judged seen.said line ≡ Ok (Some told) → line_lost seen told ≡ false → IsLeft told
  left told judge kept =
      let more : (toning_behind seen told).kept ≡ seen.toning.kept ++ event_of told = line_left seen told kept in
      record {
        trace =
            ap (played (facts_in (said_after seen.said told).facts)) more
            ∙ trace_behind seen.said seen.toning.kept line stands.tidy told judge;
        tidy =
            subst (λ (es : List Event). IsTidy (said_after seen.said told) es) (sym more)
            (tidy_behind seen.said seen.toning.kept line stands.tidy told judge);
        counted =
            ap (most_passes (facts_in (said_after seen.said told).facts)) more
            ∙ passes_behind seen.said seen.toning.kept line stands.tidy told judge;
      }

  -- the lines of a line's entries stand in front of the reply to the others
  goes : (told : ScriptLine) (es : List Entry) → judged seen.said line ≡ Ok (Some told)
      → trace_so_far (seen_behind seen told) ≡ trace_so_far seen ++ es
      → GoesOn (TonesFrom seen) (TonesFrom (seen_behind seen told)) number line (text_of es)
  goes told es judge more = λ texts r is.
      ap (λ t. record { text = t; status = r.status })
      (sym (append_assoc (text_of (trace_so_far seen)) (text_of es) r.text)
      ∙ ap (λ t. t ++ r.text) (sym (ap text_of more ∙ text_of-append (trace_so_far seen) es)))
      ∙ is
      ∙ ap script_reply (sym (toned_said seen number line texts told judge))

  -- and each list of lines behind has one
  some : (told : ScriptLine) → IsTidy (said_after seen.said told) (toning_behind seen told).kept
      → (texts : List (List ℕ)) → (r : Reply) × TonesFrom (seen_behind seen told) (number + 1) texts r
  some told tidy texts = (tones_lined (seen_behind seen told) tidy).some (number + 1) texts

  -- how often the ends are passed by all lines, and by those so far
  same_passes : (told : ScriptLine) → judged seen.said line ≡ Ok (Some told) → (texts : List (List ℕ))
      → script_passes (toned_behind seen number (line ∷ texts))
      ≡ script_passes (toned_behind (seen_behind seen told) (number + 1) texts)
  same_passes told judge texts = ap script_passes (toned_said seen number line texts told judge)

  Taken : Option Status → Type 0
  Taken answer =
      TakesLine {Seen = ToneSeen} TonesFrom tones_passes_from (λ s. TonesStand number s next frames' modem') seen number
      line passes passes' held held' answer

  -- the line is lost
  takes_lost : (answer : Option Status) → IsLineLost seen line
      → IsStill stage next frames frames' held held' (λ n. passes' ≤ passes + n) answer → Taken answer
  unfolding Taken
  takes_lost answer lost still =
      let told : ScriptLine = lost.says in
      let is = line_is_lost seen told lost.lost in
      let judge : judged seen.said line ≡ Ok (Some told) =
      in_place (Ok (Some told)) (ap (placed_line seen.said) lost.reads ∙ is.placed) in
      let nothing : trace_so_far (seen_behind seen told) ≡ trace_so_far seen ++ [] =
      is.trace ∙ sym (append-nil (trace_so_far seen)) in
      let counted : passes_so_far (seen_behind seen told) ≡ passes_so_far seen =
      ap (λ fs. most_passes (facts_in fs) (toning_behind seen told).kept) is.facts
      ∙ ap (most_passes (facts_in seen.said.facts)) is.kept in
      let tidy : IsTidy (said_after seen.said told) (toning_behind seen told).kept = inl is.eventful in
      let early : IsEarly stage number =
      record { calls = omega (arith, less, stands.early.calls); ticks = omega (arith, less, stands.early.ticks) } in
      subst Taken (sym still.none)
      (record {
        next = seen_behind seen told;
        stands =
            record {
              ready =
                  record {
                    stage_stands =
                        subst (λ (s : Stage).
                        StageStandsFor s (said_after seen.said told) (toning_behind seen told).kept) (sym still.same_stage)
                        (stage_behind_lost seen told stage.draft stage.world lost.lost stands.ready.stage_stands);
                    frames_stand =
                        subst (λ (f : SentFrames). FramesStandFor f (trace_so_far (seen_behind seen told)))
                        (sym still.same_frames)
                        (subst (λ (es : List Entry). FramesStandFor frames es) (sym is.trace)
                        stands.ready.frames_stand);
                    most = most ∙ stands.ready.most;
                    draws = drawn told lost.reads ∙ sym (draws_are seen told);
                  };
              bound = subst (λ (n : ℕ). n ≤ most_noise) (sym most) stands.bound;
              early = subst (λ (s : Stage). IsEarly s number) (sym still.same_stage) early;
              tidy = tidy;
            };
        text = [];
        goes = goes told [] judge nothing;
        wrote = subst (λ (h : Option (List ℕ)). Grew held h []) (sym still.same_held) (Grew-nothing held);
        counted = λ texts.
            omega (arith, still.counted, counted, same_passes told judge texts, tones_pass (seen_behind seen told) tidy texts (number + 1));
      })

  -- the line is played
  takes_played : (answer : Option Status)
      → ((told : ScriptLine) → script_line line ≡ Ok told → line_lost seen told ≡ false)
      → PlaysTones (placed_line seen.said (script_line line)) number seen stage next frames frames' held held'
      (λ n. passes' ≤ passes + n) answer → Taken answer
  unfolding Taken
  takes_played None kept h =
      let reads = placed_read seen.said (script_line line) h.says h.placed in
      let judge = in_place _ h.placed in
      let is = left h.says judge (kept h.says reads) in
      record {
        next = seen_behind seen h.says;
        stands =
            record {
              ready =
                  record {
                    stage_stands =
                        subst (λ (es : List Event). StageStandsFor next (said_after seen.said h.says) es)
                        (sym (line_left seen h.says (kept h.says reads))) h.stands;
                    frames_stand =
                        subst (λ (es : List Entry). FramesStandFor frames' es) (sym is.trace)
                        (h.grows.1 (trace_so_far seen) stands.ready.frames_stand);
                    most = most ∙ stands.ready.most;
                    draws = drawn h.says reads ∙ sym (draws_are seen h.says);
                  };
              bound = subst (λ (n : ℕ). n ≤ most_noise) (sym most) stands.bound;
              early = early_next stage next before number less stands.early h.near;
              tidy = is.tidy;
            };
        text = text_of (entries_of seen.said seen.toning.kept h.says);
        goes = goes h.says (entries_of seen.said seen.toning.kept h.says) judge is.trace;
        wrote = h.grows.0;
        counted = λ texts.
            omega (arith, h.counted, is.counted, same_passes h.says judge texts, tones_pass (seen_behind seen h.says) is.tidy texts (number + 1));
      }
  takes_played (Some (status.Refused why)) kept h =
      ((refusal_line why, refuses why _ h.0, h.0.wrote, ap line_of h.0.says), λ texts. omega (arith, h.1))
  takes_played (Some status.WriteFault) kept (inl h) = (
    ends.cut_end (TonesFrom seen) number line held held' (refusal_reply h.0) (refuses h.0 _ h.1) h.1.wrote,
    λ texts. omega (arith, h.2),
  )
  takes_played (Some status.WriteFault) kept (inr h) =
      let reads = placed_read seen.said (script_line line) h.says h.placed in
      let judge = in_place _ h.placed in
      let is = left h.says judge (kept h.says reads) in (
        ends.cut_text (TonesFrom seen) number line held held' (TonesFrom (seen_behind seen h.says))
            (text_of (entries_of seen.said seen.toning.kept h.says))
            (goes h.says (entries_of seen.said seen.toning.kept h.says) judge is.trace) (some h.says is.tidy) h.grows,
        λ texts.
            omega (arith, h.counted, is.counted, same_passes h.says judge texts, tones_pass (seen_behind seen h.says) is.tidy texts (number + 1)),
      )
  takes_played (Some status.Memory) kept h =
      let reads = placed_read seen.said (script_line line) h.says h.placed in
      let judge = in_place _ h.placed in
      let is = left h.says judge (kept h.says reads) in (
        ends.cut_text (TonesFrom seen) number line held held' (TonesFrom (seen_behind seen h.says))
            (text_of (entries_of seen.said seen.toning.kept h.says))
            (goes h.says (entries_of seen.said seen.toning.kept h.says) judge is.trace) (some h.says is.tidy) h.grows,
        λ texts.
            omega (arith, h.counted, is.counted, same_passes h.says judge texts, tones_pass (seen_behind seen h.says) is.tidy texts (number + 1)),
      )
  takes_played (Some status.Done) kept h = absurd h
  takes_played (Some status.Usage) kept h = absurd h
  takes_played (Some (status.Broken place rule)) kept h = absurd h
  takes_played (Some status.ReadFault) kept h = absurd h
  takes_played (Some status.TooLong) kept h = absurd h

-- what the command says of a line
pub takes_line : (before : ℕ) (seen : ToneSeen) (stage next : Stage) (frames frames' : SentFrames) (modem modem' : Modem)
    (line : Numbered) (passes passes' : ℕ) (held held' : Option (List ℕ)) → TonesStand before seen stage frames modem
    → before < line.number → IsLine line.text → modem'.most ≡ modem.most
    → ((told : ScriptLine) → script_line line.text ≡ Ok told → modem'.x ≡ line_draws seen told)
    → (answer : Option Status)
    → LineTurn seen line.text line.number stage next frames frames' held held' (λ n. passes' ≤ passes + n) answer
    → TakesLine {Seen = ToneSeen} TonesFrom tones_passes_from (λ s. TonesStand line.number s next frames' modem') seen
    line.number line.text passes passes' held held' answer
unfolding Taken
takes_line before seen stage next frames frames' modem modem' line passes passes' held held' stands less says most drawn
    answer (inl h) =
    takes_lost before line.number seen stage next frames frames' modem modem' line.text passes passes' held held' stands
    less says most drawn answer h.0 h.1
takes_line before seen stage next frames frames' modem modem' line passes passes' held held' stands less says most drawn
    answer (inr h) =
    takes_played before line.number seen stage next frames frames' modem modem' line.text passes passes' held held' stands
    less says most drawn answer h.0 h.1

-- nothing was said yet
abbrev pub first_seen : NoiseFrom → ToneSeen
first_seen noise = record { most = noise.most; said = nothing_said; toning = nothing_carried noise }

pub tones_first : (noise : NoiseFrom) (stage : Stage) (frames : SentFrames) (modem : Modem)
    → StageStandsFor stage nothing_said [] → IsEarly stage 0 → FramesStandFor frames []
    → modem.most ≡ noise.most → modem.most ≤ most_noise → modem.x ≡ noise.number
    → TonesStand 0 (first_seen noise) stage frames modem
tones_first noise stage frames modem stands early kept most bound draws =
    record {
      ready = record { stage_stands = stands; frames_stand = kept; most = most; draws = draws };
      bound = bound;
      early = early;
      tidy = inr refl;
    }

-- what the loop says of the script's lines, as of the script
pub tones_outcome : (noise : NoiseFrom) (old new : Streams) (answer : Status)
    → Outcome (λ bytes r. TonesFrom (first_seen noise) 1 (lines_of bytes) r)
    (λ bytes. tones_passes_from (first_seen noise) 1 (lines_of bytes)) true old new answer
    → Outcome (λ bytes r. r ≡ tones_reply noise bytes) (λ bytes. tones_passes noise bytes) true old new answer
tones_outcome noise old new answer o =
    ends.most_more (λ bytes r. r ≡ tones_reply noise bytes)
    (λ bytes. tones_passes_from (first_seen noise) 1 (lines_of bytes)) (λ bytes. tones_passes noise bytes) old new
    (λ bytes. omega arith) answer o
