-- What `run` has come to behind some lines of its script, its reply to the others, and its law as a command over lines,
-- proved. Cited by that command.
use Rattle.std.specs.Prelude.{◌≡◌, ℕ, List, [], ◌∷◌, Some, Err}
use Rattle.std.proofs.Common.{sym, ◌∙◌, ap, refl, arith}
use Rattle.std.proofs.lemmas.List.{append-nil}
use Rattle.trace_text.specs.EntryLine.{text_of}
use Rattle.line_input.specs.declared.reason.Reason.{Reason}
use Rattle.trace_text.specs.Facts.{facts_in}
use Rattle.trace_text.specs.Script.{Script, judged}
use Rattle.command_base.specs.LineCommands.{IsLined}
use Rattle.command_base.specs.Outcome.{ClosesSilently}
use Rattle.command_base.specs.Refusals.{Reply, refusal_reply, in_front_of}
use Rattle.script_stage.specs.ScriptTrace.{ended, played, script_trace}
use Rattle.command_base.specs.declared.refusal.Refused.TheVariants as refused
use Rattle.script_stage.specs.declared.stage.Stage.{Stage}
use Rattle.command_base.specs.declared.status.Status.TheVariants as status
use Rattle.script_stage.specs.Progress.{events_before}
use Rattle.script_stage.specs.ScriptSeen.{IsTidy, ScriptSeen, passes_from, passes_behind_lines, script_behind}
use Rattle.script_stage.specs.inner.ScriptLaws.{behind_none, behind_passed, judged-fault, judged-passed, passes_passed, script_from-bad}
use Rattle.script_stage.specs.inner.TraceLaws.{text_begins}
use Rattle.script_stage.specs.Stage.{IsEarly, StageStandsFor}

-- the text of the trace of the lines so far
abbrev pub text_so_far : ScriptSeen → List ℕ
text_so_far seen = text_of (played (facts_in seen.said.facts) seen.events)

abbrev pub script_reply : Script → Reply
script_reply script = ended (text_of (script_trace script)) script.refused

-- the reply to lines behind what was said: what stands behind the text so far in the reply to all
abbrev pub RunFrom : ScriptSeen → ℕ → List (List ℕ) → Reply → Type 0
RunFrom seen number texts r = in_front_of (text_so_far seen) r ≡ script_reply (script_behind seen number texts)

-- The stage stands for what the lines said.
pub record RunStands (before : ℕ) (seen : ScriptSeen) (stage : Stage) : Type 0 where
  pub stage_stands : StageStandsFor stage seen.said seen.events
  pub early : IsEarly stage before
  pub tidy : IsTidy seen.said seen.events

-- a line that is refused ends the script
pub run_refused : (seen : ScriptSeen) (number : ℕ) (text : List ℕ) (texts : List (List ℕ)) (why : Reason)
    → judged seen.said text ≡ Err why
    → script_reply (script_behind seen number (text ∷ texts))
    ≡ in_front_of (text_so_far seen) (refusal_reply (refused.Line (record { line = number; reason = why })))
run_refused seen number text texts why judge =
    ap (λ s. script_reply (events_before seen.events s)) (script_from-bad seen.said text number texts why judge)
    ∙ ap (λ es. ended (text_of (played (facts_in seen.said.facts) es)) (Some (record { line = number; reason = why })))
    (append-nil seen.events)

-- behind the last line nothing is said
pub run_done : (seen : ScriptSeen) (number : ℕ) → RunFrom seen number [] (record { text = []; status = status.Done })
run_done seen number =
    ap (λ t. record { text = t; status = status.Done }) (append-nil (text_so_far seen))
    ∙ ap script_reply (sym (behind_none seen number))

pub run_lined : (seen : ScriptSeen) → IsTidy seen.said seen.events → IsLined (RunFrom seen) (passes_from seen)
    ClosesSilently
run_lined seen tidy =
    record {
      done = λ number. (record { text = []; status = status.Done }, run_done seen number, refl, refl);
      some = λ number texts.
          let begins = text_begins seen.said seen.events tidy texts number in
          let answer = (script_reply (script_behind seen number texts)).status in (
            record { text = begins.rest; status = answer },
            ap (λ t. record { text = t; status = answer }) begins.whole,
          );
      passed = λ number text texts r passed is.
          is ∙ ap script_reply (sym (behind_passed seen number text texts passed));
      counted = λ number text texts passed.
          let same : passes_behind_lines seen.said seen.events (text ∷ texts)
          ≡ passes_behind_lines seen.said seen.events texts =
          passes_passed seen.said seen.events text texts (judged-passed seen.said text passed) in
          omega (arith, same);
      faulty = λ number text texts why fails.
          sym (run_refused seen number text texts why (judged-fault seen.said text why fails));
    }
